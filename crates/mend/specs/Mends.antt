-- A tree in memory mended: at every depth that is cut at field c, and no other slot changes.
use Rattle.std.specs.Prelude.{◌≡◌, List, ◌∷◌, ◌++◌, ℕ, length, ℤ}
use Rattle.model.specs.Entry.{cut_field}
use Rattle.model.specs.Tree.{Tree}
use Rattle.model.specs.Add.{mend}
use Rattle.model.proofs.Lists.{OnceEach}
use Rattle.model.proofs.Strikes.{slots}
use Rattle.cells.specs.Slots.{Slot}
use Rattle.cells.specs.Memory.{Rep, Frame}
use Rattle.seek.specs.Sides.{child_at, other_of, on_side, item_in}
use Rattle.seek.specs.declared.side.Side.{Side}

-- trees lie at l and r, and no slot of them and s is there twice
pub record Mendable (K : ℕ) (ks : List ℤ) (ls : List ℕ) (s l r : ℕ) : Type 0 where
  pub low : Tree
  pub high : Tree
  pub left : Rep K ks ls l low
  pub right : Rep K ks ls r high
  pub here : Slot (length ls) s
  pub once : OnceEach (slots low ++ (s ∷ slots high))

pub record Mended (K : ℕ) (ks : List ℤ) (ls ls' : List ℕ) (c s l r x : ℕ) : Type 0 where
  pub rep : (t : ℕ) → cut_field K t ≡ c → (u w : Tree) → Rep K ks ls l u → Rep K ks ls r w → Rep K ks ls' x (mend t (item_in K ks s) u w)
  pub frame : (u w : Tree) → Rep K ks ls l u → Rep K ks ls r w → Frame K ks ks ls ls' (slots u ++ (s ∷ slots w))

-- the same where the tree on a side is new and on the other side is the child of s
pub record MendableOn (K : ℕ) (ks : List ℤ) (ls : List ℕ) (s : ℕ) (side : Side) (child : ℕ) : Type 0 where
  pub new : Tree
  pub old : Tree
  pub child_rep : Rep K ks ls child new
  pub other_rep : Rep K ks ls (child_at ls s (other_of side)) old
  pub here : Slot (length ls) s
  pub once : OnceEach (slots (on_side side new old) ++ (s ∷ slots (on_side side old new)))

pub record MendedOn (K : ℕ) (ks : List ℤ) (ls ls' : List ℕ) (c s : ℕ) (side : Side) (child x : ℕ) : Type 0 where
  pub rep : (t : ℕ) → cut_field K t ≡ c → (u w : Tree) → Rep K ks ls child u → Rep K ks ls (child_at ls s (other_of side)) w → Rep K ks ls' x (mend t (item_in K ks s) (on_side side u w) (on_side side w u))
  pub frame : (u w : Tree) → Rep K ks ls child u → Rep K ks ls (child_at ls s (other_of side)) w → Frame K ks ks ls ls' (slots (on_side side u w) ++ (s ∷ slots (on_side side w u)))
