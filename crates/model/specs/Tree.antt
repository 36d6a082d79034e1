-- The tree: an entry with its slot at every node; height, balance, order.
use Rattle.std.specs.Prelude.{List, [], ◌∷◌, ◌++◌, Bool, true, false, ◌&&◌, leb}
use Prim.Native.Nat.{ℕ, suc, ◌+◌, max, Ordering}
use Rattle.model.specs.Entry.{Entry, cmp}

pub record Item : Type 0 where
  pub slot : ℕ
  pub entry : Entry

pub data Tree : Type 0 where
  nil : Tree
  node : Item → Tree → Tree → Tree

-- No child 0, a leaf 1, else one more than the higher child. (Rules of the tree, Height.)
abbrev pub height : Tree → ℕ
height nil = 0
height (node i l r) = suc (max (height l) (height r))

abbrev pub size : Tree → ℕ
size nil = 0
size (node i l r) = suc (size l + size r)

-- The slot that a link to this tree names; 0 means no slot. (The book and its edges.)
abbrev pub root_slot : Tree → ℕ
root_slot nil = 0
root_slot (node i l r) = i.slot

abbrev pub items : Tree → List Item
items nil = []
items (node i l r) = items l ++ (i ∷ items r)

abbrev pub entries_of : List Item → List Entry
entries_of [] = []
entries_of (i ∷ is) = i.entry ∷ entries_of is

abbrev pub slots_of : List Item → List ℕ
slots_of [] = []
slots_of (i ∷ is) = i.slot ∷ slots_of is

-- Two child heights are even enough where they differ by at most 1. (Rules of the tree, Height: balanced.)
abbrev pub even : ℕ → ℕ → Bool
even a b = leb a (suc b) && leb b (suc a)

-- Balanced: even enough at every entry. (Rules of the tree, Height.)
abbrev pub balanced : Tree → Bool
balanced nil = true
balanced (node i l r) = even (height l) (height r) && (balanced l && balanced r)

abbrev pub is_less : Ordering → Bool
is_less Ordering.lt = true
is_less Ordering.eq = false
is_less Ordering.gt = false

abbrev pub all : (Entry → Bool) → Tree → Bool
all p nil = true
all p (node i l r) = p i.entry && (all p l && all p r)

-- In order from depth t on: all on the left less, all on the right greater, by the super key of the depth. (Rules of the tree, Order.)
abbrev pub ordered : ℕ → Tree → Bool
ordered t nil = true
ordered t (node i l r) =
    (all (λ x. is_less (cmp t x i.entry)) l && all (λ x. is_less (cmp t i.entry x)) r)
    && (ordered (suc t) l && ordered (suc t) r)
