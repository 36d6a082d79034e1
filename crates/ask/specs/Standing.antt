-- A tree in order that lies in memory at a slot, at a depth that is cut at a field.
use Rattle.std.specs.Prelude.{◌≡◌, true, List, ℕ, ◌≤◌, length, ℤ}
use Rattle.model.specs.Entry.{cut_field}
use Rattle.model.specs.Tree.{Tree, ordered, items}
use Rattle.cells.specs.Memory.{Rep}

-- the tree u, in order, lies at s for a depth that is cut at c
pub record Stands (K : ℕ) (ks : List ℤ) (ls : List ℕ) (s c : ℕ) (u : Tree) : Type 0 where
  pub depth : ℕ
  pub cut : cut_field K depth ≡ c
  pub rep : Rep K ks ls s u
  pub in_order : ordered depth u ≡ true

-- some tree does, and has at most `most` entries
pub record Standing (K : ℕ) (ks : List ℤ) (ls : List ℕ) (s c most : ℕ) : Type 0 where
  pub tree : Tree
  pub stands : Stands K ks ls s c tree
  pub few : length (items tree) ≤ most
