-- The slots of a little tree in memory, in listing order.
use Rattle.std.specs.Prelude.{◌≡◌, List, ℕ, ℤ}
use Rattle.model.specs.Tree.{Tree}
use Rattle.model.proofs.Strikes.{slots}
use Rattle.cells.specs.Memory.{Rep}

-- some tree lies at s
pub record Lying (ls : List ℕ) (s : ℕ) : Type 0 where
  pub K : ℕ
  pub ks : List ℤ
  pub tree : Tree
  pub rep : Rep K ks ls s tree

-- whatever tree lies at s has just the slots ss
pub record Listed (ls : List ℕ) (s : ℕ) (ss : List ℕ) : Type 0 where
  pub at : (K : ℕ) (ks : List ℤ) (u : Tree) → Rep K ks ls s u → slots u ≡ ss
