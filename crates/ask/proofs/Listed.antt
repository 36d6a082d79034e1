-- The entries of a box in listing order, from the items that the walk meets.
use mathlib.Core.Path.{◌≡◌, refl, sym, ap, ◌∙◌}
use mathlib.Core.Bool.{Bool, true, false}
use mathlib.Core.List.Permᴰ
use mathlib.Core.List.{List, [], ◌∷◌, Permᴰ}
use Prim.Native.Nat.{ℕ}
use lib.ListN.{length}
use Rattle.model.specs.Entry.{Entry}
use Rattle.model.specs.Ask.{in_box, keep}
use Rattle.model.specs.Rebuild.{rank, listing}
use Rattle.model.specs.Tree.{Item, Tree, items, entries_of, slots_of}
use Rattle.model.specs.declared.Bound.{Bound}
use Rattle.model.proofs.Trees.{AllL, Less}
use Rattle.model.proofs.Lists.{perm-length}
use Rattle.model.proofs.Listings.{entries-length}
use Rattle.model.proofs.Ranks.{Perm, rank-perm, Distinct, perm-distinct, Sorted, rank-sorted, Unlike}
use Rattle.model.proofs.Freedom.{sorted-one}
use Rattle.ask.specs.Boxes.{boxed, slots_in}

-- the walk's choice of one item
abbrev chosen : Bool → Item → List Item → List Item
chosen o i is = elim o as (λ z. List Item) [ true ↦ i ∷ is | false ↦ is ]

chosen-perm : (o : Bool) (i j : Item) (a b : List Item) → i ≡ j → Perm a b → Perm (chosen o i a) (chosen o j b)
chosen-perm true i j a b e p = Permᴰ.cons e p
chosen-perm false i j a b e p = p

chosen-swap : (o p : Bool) (i j : Item) (a : List Item) → Perm (chosen o i (chosen p j a)) (chosen p j (chosen o i a))
chosen-swap true true i j a = Permᴰ.swap refl refl
chosen-swap true false i j a = Permᴰ.refl _
chosen-swap false true i j a = Permᴰ.refl _
chosen-swap false false i j a = Permᴰ.refl _

boxed-perm : (bs : List Bound) {a b : List Item} → Perm a b → Perm (boxed bs a) (boxed bs b)
boxed-perm bs Permᴰ.nil = Permᴰ.nil
boxed-perm bs (Permᴰ.cons {a = i} {b = j} {l₁ = a} {l₂ = b} e p) = rw e (chosen-perm (in_box bs j.entry) j j (boxed bs a) (boxed bs b) refl (boxed-perm bs p))
boxed-perm bs (Permᴰ.swap {a = i} {b = j} {l = l} e f) = rw (← e, ← f) (chosen-swap (in_box bs i.entry) (in_box bs j.entry) i j (boxed bs l))
boxed-perm bs (Permᴰ.trans p q) = Permᴰ.trans (boxed-perm bs p) (boxed-perm bs q)

-- what holds with the item and without it holds of the choice
chosen_by : (Q : List Item → Type 0) (o : Bool) (i : Item) (is : List Item) → Q (i ∷ is) → Q is → Q (chosen o i is)
chosen_by Q true i is x y = x
chosen_by Q false i is x y = y

boxed-all : (bs : List Bound) (P : Entry → Type 0) (is : List Item) → AllL P is → AllL P (boxed bs is)
boxed-all bs P [] h = h
boxed-all bs P (i ∷ is) (h, hs) = chosen_by (AllL P) (in_box bs i.entry) i (boxed bs is) (h, boxed-all bs P is hs) (boxed-all bs P is hs)

boxed-sorted : (bs : List Bound) (t : ℕ) (is : List Item) → Sorted t is → Sorted t (boxed bs is)
boxed-sorted bs t [] h = h
boxed-sorted bs t (i ∷ is) (h, hs) = chosen_by (Sorted t) (in_box bs i.entry) i (boxed bs is) (boxed-all bs (Less t i.entry) is h, boxed-sorted bs t is hs) (boxed-sorted bs t is hs)

boxed-distinct : (bs : List Bound) (is : List Item) → Distinct is → Distinct (boxed bs is)
boxed-distinct bs [] h = h
boxed-distinct bs (i ∷ is) (h, hs) = chosen_by Distinct (in_box bs i.entry) i (boxed bs is) (boxed-all bs (Unlike i.entry) is h, boxed-distinct bs is hs) (boxed-distinct bs is hs)

keep-boxed : (bs : List Bound) (is : List Item) → keep bs (entries_of is) ≡ entries_of (boxed bs is)
keep-boxed bs [] = refl
keep-boxed bs (i ∷ is) = go (in_box bs i.entry) (keep-boxed bs is)
  where
    go : (o : Bool) → keep bs (entries_of is) ≡ entries_of (boxed bs is) → elim o as (λ z. List Entry) [ true ↦ i.entry ∷ keep bs (entries_of is) | false ↦ keep bs (entries_of is) ] ≡ entries_of (chosen o i (boxed bs is))
    go true e = ap (λ (x : List Entry). i.entry ∷ x) e
    go false e = e

pub box-listing : (bs : List Bound) (u : Tree) → Distinct (items u) → keep bs (listing u) ≡ entries_of (rank 0 (boxed bs (items u)))
unfolding listing
box-listing bs u d =
    let is : List Item = items u in
    let db = boxed-distinct bs is d in
    keep-boxed bs (rank 0 is)
    ∙ ap entries_of (sorted-one 0 (boxed bs (rank 0 is)) (rank 0 (boxed bs is)) (Permᴰ.trans (boxed-perm bs (rank-perm 0 is)) (Permᴰ.symm (rank-perm 0 (boxed bs is)))) (boxed-distinct bs (rank 0 is) (perm-distinct (Permᴰ.symm (rank-perm 0 is)) d)) (boxed-sorted bs 0 (rank 0 is) (rank-sorted 0 is d)) (rank-sorted 0 (boxed bs is) db))

pub slots_length : (is : List Item) → length (slots_of is) ≡ length is
slots_length [] = refl
slots_length (i ∷ is) = rw (slots_length is) refl

pub box-count : (bs : List Bound) (u : Tree) → Distinct (items u) → length (keep bs (listing u)) ≡ length (slots_in bs u)
box-count bs u d = ap length (box-listing bs u d) ∙ entries-length (rank 0 (boxed bs (items u))) ∙ perm-length (rank-perm 0 (boxed bs (items u))) ∙ sym (slots_length (boxed bs (items u)))
