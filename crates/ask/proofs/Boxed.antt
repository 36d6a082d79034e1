-- The slots of a box: what is noted, and why a side may be left out.
use mathlib.Core.Path.{◌≡◌, refl, sym, ap, ◌∙◌}
use mathlib.Core.Bool.{Bool, true, false, ◌&&◌, true≢false, false≢true}
use mathlib.Core.List.{List, [], ◌∷◌, ◌++◌}
use Prim.Native.Nat.{ℕ, zero, suc, ◌^◌, ◌≤◌, ◌<◌, Ordering}
use native.Mathlib.Omega.{arith}
use lib.Dec.{is_le}
use lib.ListN.{length, get_or}
use lib.IntN.{ℤ, pos}
use lib.Signed.{mag}
use mir.Syntax.{w64}
use mir.Val.{to_z, of_z}
use Rattle.model.specs.Number.{order}
use Rattle.model.specs.Entry.{Entry}
use Rattle.model.specs.Ask.{holds, in_box}
use Rattle.model.specs.Tree.{Item, Tree, nil, node, items, slots_of, all}
use Rattle.model.specs.declared.Bound.{Bound}
use Rattle.model.specs.declared.Bound.TheVariants.{Free, AtLeast, AtMost, Between}
use Rattle.model.proofs.Orders.{order-eq, order_trans}
use Rattle.model.proofs.Trees.{both}
use Rattle.cells.specs.Slots.{left_at, right_at, numbers_of, Slot}
use Rattle.cells.specs.Memory.{Rep}
use Rattle.model.proofs.Machine.{back}
use Rattle.ask.specs.Boxes.{is_lower_open, is_upper_open, Weighed, boxed, noting}
use Rattle.ask.specs.declared.boxes.Sides.{Sides}

pub weighed : (bs : List Bound) (p : Entry) (c : ℕ) (w : Sides) → mag (get_or p c (pos 0)) < 2 ^ 63
    → w.lower ≡ is_lower_open (get_or bs c Free) (to_z w64 (of_z w64 (get_or p c (pos 0)))) → w.here ≡ in_box bs p → w.upper ≡ is_upper_open (get_or bs c Free) (to_z w64 (of_z w64 (get_or p c (pos 0)))) → Weighed bs p c w
weighed bs p c w g l h u = record { lower = l ∙ ap (is_lower_open (get_or bs c Free)) (back (get_or p c (pos 0)) g); here = h; upper = u ∙ ap (is_upper_open (get_or bs c Free)) (back (get_or p c (pos 0)) g) }

-- not greater, twice
le_trans : (x y z : ℤ) → is_le (order x y) ≡ true → is_le (order y z) ≡ true → is_le (order x z) ≡ true
le_trans x y z p q = go (order x y) refl (order y z) refl p q
  where
    go : (o : Ordering) → order x y ≡ o → (r : Ordering) → order y z ≡ r → is_le o ≡ true → is_le r ≡ true → is_le (order x z) ≡ true
    go Ordering.lt e Ordering.lt f a b = ap is_le (order_trans x y z e f)
    go Ordering.lt e Ordering.eq f a b = rw (← order-eq y z f) (ap is_le e)
    go Ordering.lt e Ordering.gt f a b = absurd (false≢true b)
    go Ordering.eq e r f a b = rw (order-eq x y e) (ap is_le f ∙ b)
    go Ordering.gt e r f a b = absurd (false≢true a)

off : (a b : Bool) → (a ≡ true → b ≡ true) → b ≡ false → a ≡ false
off true b f e = absurd (true≢false (sym (f refl) ∙ e))
off false b f e = refl

and_first : (a b : Bool) → a ≡ false → (a && b) ≡ false
and_first a b e = rw e refl

and_last : (a b : Bool) → b ≡ false → (a && b) ≡ false
and_last true b e = e
and_last false b e = refl

-- a side that a bound shuts out: nothing there is within it
pub lower-shut : (b : Bound) (x y : ℤ) → is_lower_open b x ≡ false → is_le (order y x) ≡ true → holds b y ≡ false
unfolding is_lower_open holds
lower-shut Free x y e h = absurd (true≢false e)
lower-shut (AtLeast a) x y e h = off (is_le (order a y)) (is_le (order a x)) (λ q. le_trans a y x q h) e
lower-shut (AtMost a) x y e h = absurd (true≢false e)
lower-shut (Between a b) x y e h = and_first (is_le (order a y)) (is_le (order y b)) (off (is_le (order a y)) (is_le (order a x)) (λ q. le_trans a y x q h) e)

pub upper-shut : (b : Bound) (x y : ℤ) → is_upper_open b x ≡ false → is_le (order x y) ≡ true → holds b y ≡ false
unfolding is_upper_open holds
upper-shut Free x y e h = absurd (true≢false e)
upper-shut (AtLeast a) x y e h = absurd (true≢false e)
upper-shut (AtMost b) x y e h = off (is_le (order y b)) (is_le (order x b)) (λ q. le_trans x y b h q) e
upper-shut (Between a b) x y e h = and_last (is_le (order a y)) (is_le (order y b)) (off (is_le (order y b)) (is_le (order x b)) (λ q. le_trans x y b h q) e)

-- one field out of its bound is enough
pub box-field : (bs : List Bound) (e : Entry) (c : ℕ) → c < length bs → c < length e → holds (get_or bs c Free) (get_or e c (pos 0)) ≡ false → in_box bs e ≡ false
unfolding in_box
box-field [] e c a b h = absurd (omega arith)
box-field (b ∷ bs) [] c a g h = absurd (omega arith)
box-field (b ∷ bs) (x ∷ e) zero a g h = and_first (holds b x) (in_box bs e) h
box-field (b ∷ bs) (x ∷ e) (suc c) a g h = and_last (holds b x) (in_box bs e) (box-field bs e c (omega arith) (omega arith) h)

-- the items of a box in two lists, and of a tree where none is in it
pub boxed-append : (bs : List Bound) (a b : List Item) → boxed bs (a ++ b) ≡ boxed bs a ++ boxed bs b
boxed-append bs [] b = refl
boxed-append bs (i ∷ a) b = go (in_box bs i.entry) (boxed-append bs a b)
  where
    go : (o : Bool) → boxed bs (a ++ b) ≡ boxed bs a ++ boxed bs b → elim o as (λ z. List Item) [ true ↦ i ∷ boxed bs (a ++ b) | false ↦ boxed bs (a ++ b) ] ≡ elim o as (λ z. List Item) [ true ↦ i ∷ boxed bs a | false ↦ boxed bs a ] ++ boxed bs b
    go true ih = ap (λ (x : List Item). i ∷ x) ih
    go false ih = ih

pub boxed-one : (bs : List Bound) (i : Item) (is : List Item) → slots_of (boxed bs (i ∷ is)) ≡ noting (in_box bs i.entry) i.slot ++ slots_of (boxed bs is)
boxed-one bs i is = go (in_box bs i.entry)
  where
    go : (o : Bool) → slots_of (elim o as (λ z. List Item) [ true ↦ i ∷ boxed bs is | false ↦ boxed bs is ]) ≡ noting o i.slot ++ slots_of (boxed bs is)
    go true = refl
    go false = refl

pub boxed-few : (bs : List Bound) (is : List Item) → length (slots_of (boxed bs is)) ≤ length is
boxed-few bs [] = omega arith
boxed-few bs (i ∷ is) = go (in_box bs i.entry) (boxed-few bs is)
  where
    go : (o : Bool) → length (slots_of (boxed bs is)) ≤ length is → length (slots_of (elim o as (λ z. List Item) [ true ↦ i ∷ boxed bs is | false ↦ boxed bs is ])) ≤ suc (length is)
    go true h = omega arith
    go false h = omega arith

pub none-boxed : (K : ℕ) (ks : List ℤ) (ls : List ℕ) (bs : List Bound) (p : Entry → Bool) → ((j : ℕ) → Slot (length ls) j → length (numbers_of K ks j) ≡ K) → ((e : Entry) → length e ≡ K → p e ≡ true → in_box bs e ≡ false) → (s : ℕ) (u : Tree) → Rep K ks ls s u → all p u ≡ true → boxed bs (items u) ≡ []
none-boxed K ks ls bs p n f s nil r a = refl
none-boxed K ks ls bs p n f s (node i l r) q a =
    let x = both (p i.entry) (all p l && all p r) a in
    let y = both (all p l) (all p r) x.1 in
    let e : in_box bs i.entry ≡ false = f i.entry (sym (ap length q.2) ∙ n i.slot q.1) x.0 in
    boxed-append bs (items l) (i ∷ items r) ∙ rw (none-boxed K ks ls bs p n f (left_at ls i.slot) l q.4 y.0) (out (in_box bs i.entry) e ∙ none-boxed K ks ls bs p n f (right_at ls i.slot) r q.5 y.1)
  where
    out : (o : Bool) → o ≡ false → elim o as (λ z. List Item) [ true ↦ i ∷ boxed bs (items r) | false ↦ boxed bs (items r) ] ≡ boxed bs (items r)
    out true e = absurd (true≢false e)
    out false e = refl
