-- Entries: K numbers, named a, b, c, d; the super key; the distance of an entry.
use Rattle.std.specs.Prelude.{List, [], ◌∷◌, ◌++◌, length, take, drop, ℤ}
use Prim.Native.Nat.{ℕ, ◌%◌, max, Ordering}
use Rattle.model.specs.Number.{order, distance_of_field}

abbrev pub Entry : Type 0
Entry = List ℤ

-- By the first field that differs.
abbrev pub lex : Entry → Entry → Ordering
lex [] [] = Ordering.eq
lex [] (y ∷ ys) = Ordering.lt
lex (x ∷ xs) [] = Ordering.gt
lex (x ∷ xs) (y ∷ ys) = elim (order x y) [ Ordering.lt ↦ Ordering.lt | Ordering.eq ↦ lex xs ys | Ordering.gt ↦ Ordering.gt ]

-- The field, counted from 0, that cuts at a depth. (Rules of the tree, Super key: depth t cuts at field t mod K.)
unfoldable pub cut_field : ℕ → ℕ → ℕ
cut_field K t = t % K

-- The fields from the cut field on, then those in front of it. (Super key: cyclically through all K.)
unfoldable pub super_key : ℕ → Entry → Entry
super_key t e = drop (cut_field (length e) t) e ++ take (cut_field (length e) t) e

-- The order of two entries at a depth: by the super key there, equal only where all K fields are. (Super key.)
-- At depth 0 it is the listing order: by a, then b, c, d. (Questions, Box.)
unfoldable pub cmp : ℕ → Entry → Entry → Ordering
cmp t a b = lex (super_key t a) (super_key t b)

-- The distance of two entries: the greatest over the K fields, each by its own step; steps beyond K are ignored. (Questions, Nearest.)
unfoldable pub distance : List ℕ → Entry → Entry → ℕ
distance [] [] ys = 0
distance [] (x ∷ xs) ys = 0
distance (s ∷ ss) [] ys = 0
distance (s ∷ ss) (x ∷ xs) [] = 0
distance (s ∷ ss) (x ∷ xs) (y ∷ ys) = max (distance_of_field s x y) (distance ss xs ys)
