-- The decisions of the small functions over the tree: one bound, all bounds, the heights.
use mathlib.Core.Path.{◌≡◌, refl, sym, ap, ◌∙◌}
use mathlib.Core.Bool.{Bool, true, false}
use mathlib.Core.List.{List}
use Prim.Native.Nat.{ℕ, ◌+◌, ◌≤◌, ◌<◌}
use native.Mathlib.Omega.{arith}
use native.Mathlib.Nat.{mul-le-mul_left, mod-lt, mod-eq_of_lt}
use lib.ListN.{length, get_or}
use lib.IntN.{ℤ}
use Rattle.std.specs.Bool.{◌==◌}
use Rattle.std.specs.Ordering.{ordering_index}
use Rattle.std.specs.declared.cmp.Ordering.{Ordering as Order}
use Prim.Native.Nat.{Ordering}
use Rattle.model.specs.Entry.{Entry, cmp, cut_field}
use Rattle.cells.specs.Orders.{named}
use Rattle.model.specs.declared.Shape.{Shape}
use Rattle.cells.specs.Slots.{Room, Slot, Keyed, SlotsCompared, left_at, right_at, height_at, tall, numbers_of}
use Rattle.cells.proofs.Slots.{numbers-long, tall-slot}
use Rattle.sound.specs.Parts.{Tells}
use Rattle.sound.specs.Tree.{Before, Side, low, high, Within, Inside, Over, Tops}

pub clash {ℓ} : {X : Type ℓ} → true ≡ false → X
clash e = absurd (let z : ◌≡◌ {A = ℕ} 0 1 = cc in omega arith)

pub tells-yes : (P : Type 0) → P → Tells P true
tells-yes P x = record { good = λ e. x; bad = λ e. clash e }

pub tells-no : (P : Type 0) → (P → ⊥) → Tells P false
tells-no P x = record { good = λ e. clash (sym e); bad = λ e. x }

-- ---- a slot of the pool is one of both tables

module _ (S : Shape) (nk nl : ℕ) (room : Room S nk nl) where
  pub is-slot : (s : ℕ) → ¬ (s ≡ 0) → s ≤ S.c → Slot nl s
  is-slot s ne h = record { some = omega arith; fits = let e = room.long in omega arith }

  pub is-keyed : (s : ℕ) → ¬ (s ≡ 0) → s ≤ S.c → Keyed S.k nk s
  is-keyed s ne h = record { some = omega arith; fits = rw room.wide (mul-le-mul_left S.k h) }

  pub slot-in : (s : ℕ) → Slot nl s → s ≤ S.c
  slot-in s h = let e = room.long in let f = h.fits in omega arith

pub slot-some : (n s : ℕ) → Slot n s → ¬ (s ≡ 0)
slot-some n s h = let p = h.some in λ e. omega arith

pub slot-long : (S : Shape) (ks : List ℤ) (nl s : ℕ) → Room S (length ks) nl → Slot nl s → length (numbers_of S.k ks s) ≡ S.k
slot-long S ks nl s room h = numbers-long S.k ks s (is-keyed S (length ks) nl room s (slot-some nl s h) (slot-in S (length ks) nl room s h))

-- ---- cuts and depths

pub cut_below : (K t : ℕ) → 1 ≤ K → cut_field K t < K
unfolding cut_field
cut_below K t h = mod-lt t h

pub cut-self : (K c : ℕ) → c < K → cut_field K c ≡ c
unfolding cut_field
cut-self K c h = mod-eq_of_lt h

-- ---- `before`: what the one comparison says

less-of : (x : Ordering) → Order.Less ≡ named x → x ≡ Ordering.lt
less-of Ordering.lt e = refl
less-of Ordering.eq e = cc
less-of Ordering.gt e = cc

pub before_told : (K : ℕ) (ks : List ℤ) (c a b : ℕ) → c < K → ¬ (a ≡ 0) → ¬ (b ≡ 0) → (o : Order) → SlotsCompared K ks a b c o → (r : Bool) → r ≡ (ordering_index o == 0) → Tells (Before K ks c a b) r
before_told K ks c a b lt na nb Order.Less h r e = rw e (tells-yes (Before K ks c a b) (λ m n t q. less-of (cmp t (numbers_of K ks a) (numbers_of K ks b)) (h.at t q)))
before_told K ks c a b lt na nb Order.Equal h r e = rw e (tells-no (Before K ks c a b) (λ g. let z = h.at c (cut-self K c lt) in let l = g na nb c (cut-self K c lt) in cc))
before_told K ks c a b lt na nb Order.Greater h r e = rw e (tells-no (Before K ks c a b) (λ g. let z = h.at c (cut-self K c lt) in let l = g na nb c (cut-self K c lt) in cc))

-- ---- `inside`: i cuts are passed

pub record Passed (K : ℕ) (ks : List ℤ) (bs : List ℕ) (e : Entry) (i : ℕ) : Type 0 where
  pub within : (d : Side) (t : ℕ) → cut_field K t < i → Within K ks bs e d t

module _ (K : ℕ) (ks : List ℤ) (bs : List ℕ) (s m : ℕ) (slot : Slot m s) where
  abbrev P : ℕ → Type 0
  P = Passed K ks bs (numbers_of K ks s)

  abbrev I : Type 0
  I = Inside K ks bs (numbers_of K ks s)

  pub inside-end : (i : ℕ) → P i → K ≤ i → 1 ≤ K → length (numbers_of K ks s) ≡ K → Tells I true
  inside-end i p h k e = tells-yes I (record { long = e; within = λ d t. p.within d t (let g = cut_below K t k in omega arith) })

  module _ (i : ℕ) (lt : i < K) (a : Bool) (ta : Tells (Before K ks i (get_or bs i 0) s) a) where
    pub inside-low : a ≡ false → Tells I false
    inside-low e = tells-no I (λ x. ta.bad e (λ n z t q. rw q at (x.within low t) n))

    module _ (b : Bool) (tb : Tells (Before K ks i s (get_or bs (4 + i) 0)) b) where
      pub inside-high : b ≡ false → Tells I false
      inside-high e = tells-no I (λ x. tb.bad e (λ z n t q. rw q at (x.within high t) n))

-- ---- `topped`

pub topped-by : (ls : List ℕ) (C n s l r h a b : ℕ) → Slot n s → l ≡ left_at ls s → r ≡ right_at ls s → l ≤ C → r ≤ C → h ≡ tall ls s → a ≡ tall ls l → b ≡ tall ls r → (o : Bool) → Tells (Over h a b) o → Tells (Tops ls C s) o
topped-by ls C n s l r h a b slot el er hl hr eh ea eb o v =
    let f : h ≡ height_at ls s = eh ∙ tall-slot ls s (slot-some n s slot) in
    let p : a ≡ tall ls (left_at ls s) = ea ∙ ap (tall ls) el in
    let q : b ≡ tall ls (right_at ls s) = eb ∙ ap (tall ls) er in
    record {
      good = λ e. let t = (v.good e).top in let m = (v.good e).near in record { left_in = omega arith; right_in = omega arith; top = omega arith; near = (omega arith, omega arith) };
      bad = λ e x. let t = x.top in let m = x.near in v.bad e (record { top = omega arith; near = (omega arith, omega arith) });
    }
