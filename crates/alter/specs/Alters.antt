-- A leaf put into a tree in memory: at every depth that is cut at field c, and no other slot changes.
use Rattle.std.specs.Prelude.{◌≡◌, List, ◌∷◌, ℕ, suc, ℤ}
use Rattle.model.specs.Entry.{cut_field}
use Rattle.model.specs.Tree.{Item, Tree, nil, node}
use Rattle.model.specs.Add.{mend, insert}
use Rattle.model.proofs.Lists.{OnceEach}
use Rattle.model.proofs.Strikes.{slots}
use Rattle.cells.specs.Memory.{Rep, Frame}
use Rattle.seek.specs.Sides.{on_side, item_in}
use Rattle.seek.specs.declared.side.Side.{Side}

-- a tree lies at s, a leaf at new, and no slot is there twice
pub record Insertable (K : ℕ) (ks : List ℤ) (ls : List ℕ) (s new : ℕ) : Type 0 where
  pub tree : Tree
  pub rep : Rep K ks ls s tree
  pub leaf : Rep K ks ls new (node (item_in K ks new) nil nil)
  pub once : OnceEach (new ∷ slots tree)

pub record Inserted (K : ℕ) (ks : List ℤ) (ls ls' : List ℕ) (c s new x : ℕ) : Type 0 where
  pub rep : (t : ℕ) → cut_field K t ≡ c → (u : Tree) → Rep K ks ls s u → Rep K ks ls' x (insert t (item_in K ks new) u)
  pub frame : (u : Tree) → Rep K ks ls s u → Frame K ks ks ls ls' (new ∷ slots u)

-- the leaf put in on a side of the node at s, which is mended
pub record InsertedOn (K : ℕ) (ks : List ℤ) (ls ls' : List ℕ) (c s : ℕ) (side : Side) (new x : ℕ) : Type 0 where
  pub rep : (t : ℕ) → cut_field K t ≡ c → (i : Item) (u w : Tree) → Rep K ks ls s (node i (on_side side u w) (on_side side w u))
      → Rep K ks ls' x (mend t i (on_side side (insert (suc t) (item_in K ks new) u) w) (on_side side w (insert (suc t) (item_in K ks new) u)))
  pub frame : (u : Tree) → Rep K ks ls s u → Frame K ks ks ls ls' (new ∷ slots u)
