-- What is asked of a book: the walk of look-up, boxes, the nearest; how high a tree can be.
use Rattle.std.specs.Prelude.{List, [], ◌∷◌, Bool, true, false, ◌&&◌, ◌||◌, leb, ℤ}
use Rattle.std.proofs.Math.Option.{Option, none, some}
use Prim.Native.Nat.{ℕ, zero, suc, ◌+◌, compare, Ordering}
use Rattle.std.proofs.Math.Dec.{compare_is_eq, is_le}
use Rattle.model.specs.Number.{order}
use Rattle.model.specs.Entry.{Entry, cmp, distance}
use Rattle.model.specs.Tree.{Tree, nil, node}
use Rattle.model.specs.declared.Bound.{Bound}
use Rattle.model.specs.declared.Bound.TheVariants.{Free, AtLeast, AtMost, Between}

-- The walk from the root to an entry: its slot, 0 where it is not there. (Questions, Look up.)
unfoldable pub slot_of : ℕ → Entry → Tree → ℕ
slot_of t k nil = 0
slot_of t k (node i l r) = elim (cmp t k i.entry) [ Ordering.lt ↦ slot_of (suc t) k l | Ordering.eq ↦ i.slot | Ordering.gt ↦ slot_of (suc t) k r ]

-- How many entries that walk meets. (Questions, Look up: reads.)
unfoldable pub reads : ℕ → Entry → Tree → ℕ
reads t k nil = 0
reads t k (node i l r) = suc (elim (cmp t k i.entry) [ Ordering.lt ↦ reads (suc t) k l | Ordering.eq ↦ 0 | Ordering.gt ↦ reads (suc t) k r ])

-- Whether an entry is one of a list, by a reading of every one.
abbrev pub has : Entry → List Entry → Bool
has e [] = false
has e (x ∷ xs) = compare_is_eq (cmp 0 e x) || has e xs

-- Those of a text's entries that are not yet there, in text order. (Saved book.)
abbrev pub new_of : List Entry → List Entry → List Entry
new_of held [] = []
new_of held (e ∷ es) = elim (has e held) [ true ↦ new_of held es | false ↦ e ∷ new_of held es ]

-- What a bound says of a number, for each of its cases, ends included; a reversed Between holds nothing. (Questions, Box.)
unfoldable pub holds : Bound → ℤ → Bool
holds Free x = true
holds (AtLeast a) x = is_le (order a x)
holds (AtMost b) x = is_le (order x b)
holds (Between a b) x = is_le (order a x) && is_le (order x b)

-- Every field within its bound; bounds beyond K are ignored. (Questions, Box, Nearest.)
unfoldable pub in_box : List Bound → Entry → Bool
in_box [] [] = true
in_box [] (x ∷ xs) = true
in_box (b ∷ bs) [] = true
in_box (b ∷ bs) (x ∷ xs) = holds b x && in_box bs xs

-- The entries of a box, by a reading of every one. (Questions, Box.)
abbrev pub keep : List Bound → List Entry → List Entry
keep bs [] = []
keep bs (e ∷ es) = elim (in_box bs e) [ true ↦ e ∷ keep bs es | false ↦ keep bs es ]

-- Of two entries the one at the lesser distance; at the same distance the first in listing order. (Questions, Nearest.)
unfoldable pub closer : List ℕ → Entry → Entry → Entry → Entry
closer steps q a b =
    elim (compare (distance steps q a) (distance steps q b)) [
      | Ordering.lt ↦ a
      | Ordering.gt ↦ b
      | Ordering.eq ↦ elim (cmp 0 a b) [ Ordering.lt ↦ a | Ordering.eq ↦ a | Ordering.gt ↦ b ]
    ]

-- The nearest, by a reading of every entry; none of an empty book. (Questions, Nearest.)
unfoldable pub nearest : List ℕ → Entry → List Entry → Option Entry
nearest steps q [] = none
nearest steps q (e ∷ es) = elim (nearest steps q es) [ none ↦ some e | some b ↦ some (closer steps q e b) ]

-- The fewest entries of a balanced tree of a height: 0, 1, then one more than the two before it. (Bench cases.)
abbrev pub fewest : ℕ → ℕ
fewest zero = 0
fewest (suc zero) = 1
fewest (suc (suc h)) = suc (fewest (suc h) + fewest h)

abbrev pub climb : ℕ → ℕ → ℕ → ℕ
climb zero h n = h
climb (suc most) h n = elim (leb (fewest (suc h)) n) [ true ↦ climb most (suc h) n | false ↦ h ]

-- The greatest height that so many entries can have: the last one whose fewest entries are not more. (Bench cases, B10; demand 3.)
unfoldable pub tallest : ℕ → ℕ
tallest n = climb n 0 n
