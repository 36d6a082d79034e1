-- Striking. (Rules of the tree, Strike.)
use Rattle.std.specs.Prelude.{List, [], ◌∷◌, ◌++◌, true, false, ltb}
use Prim.Native.Nat.{ℕ, suc, Ordering}
use Rattle.model.specs.Entry.{Entry, cmp}
use Rattle.model.specs.Tree.{Item, Tree, nil, node, height, items}
use Rattle.model.specs.Add.{mend}

pub data Side : Type 0 where
  left : Side
  right : Side

-- The order towards an entry from one of its sides: from the left rising, from the right falling.
abbrev pub toward : Side → ℕ → Entry → Entry → Ordering
toward left t a b = cmp t a b
toward right t a b = cmp t b a

abbrev pub nearer : Side → ℕ → Item → Item → Item
nearer s t a b = elim (toward s t a.entry b.entry) [ Ordering.lt ↦ b | Ordering.eq ↦ a | Ordering.gt ↦ a ]

-- The last of some items in that order: on the left side the greatest, on the right side the least. (Strike: predecessor, successor.)
abbrev pub next : Side → ℕ → Item → List Item → Item
next s t a [] = a
next s t a (i ∷ is) = next s t (nearer s t a i) is

pub data Heir : Type 0 where
  leaf : Heir
  from : Side → Entry → Heir

abbrev pub heir_of : Side → ℕ → Tree → Heir
heir_of s t nil = leaf
heir_of s t (node a l r) = from s (next s t a (items l ++ items r)).entry

-- What takes the place of a struck entry at depth t, under that entry's own super key: the predecessor where the left child is higher,
-- else the successor; an entry with no child has neither, and is a leaf. (Strike.)
unfoldable pub heir : ℕ → Tree → Tree → Heir
heir t l r = elim (ltb (height r) (height l)) [ true ↦ heir_of left t l | false ↦ heir_of right t r ]

abbrev pub moved : Item → Entry → Item
moved i e = record { slot = i.slot; entry = e }

-- A leaf goes; else the replacement's numbers are copied here and it is struck from its side by the same rule; every former ancestor is
-- checked on the way up. (Strike.)
unfoldable pub strike : ℕ → Entry → Tree → Tree
strike t k nil = nil
strike t k (node i l r) =
    elim (cmp t k i.entry) [
      | Ordering.lt ↦ mend t i (strike (suc t) k l) r
      | Ordering.gt ↦ mend t i l (strike (suc t) k r)
      | Ordering.eq ↦ elim (heir t l r) [
        | leaf ↦ nil
        | from s e ↦ elim s [ left ↦ mend t (moved i e) (strike (suc t) e l) r | right ↦ mend t (moved i e) l (strike (suc t) e r) ]
      ]
    ]

-- The slot of the leaf that is finally removed. (Strike: it gives up its slot.)
unfoldable pub freed : ℕ → Entry → Tree → ℕ
freed t k nil = 0
freed t k (node i l r) =
    elim (cmp t k i.entry) [
      | Ordering.lt ↦ freed (suc t) k l
      | Ordering.gt ↦ freed (suc t) k r
      | Ordering.eq ↦ elim (heir t l r) [
        | leaf ↦ i.slot
        | from s e ↦ elim s [ left ↦ freed (suc t) e l | right ↦ freed (suc t) e r ]
      ]
    ]
