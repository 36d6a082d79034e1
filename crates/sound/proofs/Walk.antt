-- The walk along the free chain: numbers that are 0, a cleared slot, and what hangs behind it.
use mathlib.Core.Path.{◌≡◌, refl, sym, subst, ◌∙◌}
use mathlib.Core.Bool.{Bool, true, false, ◌&&◌}
use mathlib.Core.List.{List, [], ◌∷◌}
use Prim.Native.Nat.{ℕ, zero, suc, ◌+◌, ◌-◌, ◌≤◌, ◌<◌}
use native.Mathlib.Omega.{arith}
use native.Mathlib.Numerals.{sub-one}
use borrow.Author.Tests.{eqb-true, eq-eqb, ne_eqb, leb-true, le-leb}
use lib.Dec.{eqb, leb, compare_is_eq}
use lib.ListN.{length, get_or}
use lib.IntN.{ℤ, pos}
use Rattle.model.specs.Number.{order}
use Rattle.model.specs.Book.{Cell}
use Rattle.model.specs.Pool.{cell_of, in_pool, strung, zeros}
use Rattle.model.proofs.Orders.{order-eq}
use Rattle.model.proofs.Trees.{both, pair}
use Rattle.model.proofs.Listings.{is_eq-true}
use Rattle.cells.specs.Slots.{Slot, left_at, right_at, height_at, tall, address_of, numbers_of}
use Rattle.cells.proofs.Slots.{tall-slot}
use Rattle.sound.specs.Parts.{Tells}
use Rattle.sound.specs.Chain.{cleared, Free}
use Rattle.sound.proofs.Marks.{clash, tells-no, slot-some}

-- ---- numbers that are 0

pub zeros_all : (p : List ℤ) → ((k : ℕ) → k < length p → get_or p k (pos 0) ≡ pos 0) → zeros p ≡ true
zeros_all [] h = refl
zeros_all (x ∷ p) h = rw (h 0 (omega arith)) (zeros_all p (λ k l. h (suc k) (omega arith)))

pub zeros_not : (p : List ℤ) (k : ℕ) → k < length p → ¬ (get_or p k (pos 0) ≡ pos 0) → zeros p ≡ false
zeros_not [] k l n = absurd (omega arith)
zeros_not (x ∷ p) zero l n = go (compare_is_eq (order x (pos 0))) refl
  where
    go : (o : Bool) → compare_is_eq (order x (pos 0)) ≡ o → zeros (x ∷ p) ≡ false
    go true q = absurd (n (order-eq x (pos 0) (is_eq-true (order x (pos 0)) q)))
    go false q = rw q refl
zeros_not (x ∷ p) (suc k) l n = rw (zeros_not p k (omega arith) n) (and-false (compare_is_eq (order x (pos 0))))
  where
    and-false : (o : Bool) → (o && false) ≡ false
    and-false true = refl
    and-false false = refl

-- ---- a cleared slot

pub cleared_is : (K : ℕ) (ks : List ℤ) (ls : List ℕ) (n s x y : ℕ) → Slot n s → x ≡ right_at ls s → y ≡ tall ls s → cleared K ks ls s ≡ (eqb x 0 && (eqb y 0 && zeros (numbers_of K ks s)))
unfolding cleared
cleared_is K ks ls n s x y slot ex ey = rw (ex, ey, tall-slot ls s (slot-some n s slot)) refl

pub not_cleared : (K : ℕ) (ks : List ℤ) (ls : List ℕ) (s x : ℕ) → x ≡ right_at ls s → (x ≡ 0 → ⊥) → cleared K ks ls s ≡ false
unfolding cleared
not_cleared K ks ls s x ex n = rw (ne_eqb (right_at ls s) 0 (λ z. n (ex ∙ z))) refl

-- ---- the chain

pub link-cells : (K : ℕ) (ks : List ℤ) (ls : List ℕ) (s : ℕ) → ¬ (s ≡ 0) → cell_of K ks ls s ≡ record { left = left_at ls s; right = right_at ls s; high = height_at ls s; key = numbers_of K ks s }
unfolding left_at right_at height_at numbers_of address_of
link-cells K ks ls zero h = absurd (h refl)
link-cells K ks ls (suc n) h = rw sub-one refl

module _ (K C : ℕ) (ks : List ℤ) (ls : List ℕ) where
  abbrev F : ℕ → ℕ → Type 0
  F = Free K C ks ls

  abbrev f : ℕ → Cell
  f = cell_of K ks ls

  -- what hangs at s: a cleared slot of the pool, and n - 1 behind it
  record Hung (s n : ℕ) : Type 0 where
    pub inside : s ≤ C
    pub clear : cleared K ks ls s ≡ true
    pub some : n ≡ 0 → ⊥
    pub rest : F (left_at ls s) (n - 1)

  hung-by : (s n : ℕ) → (s ≡ 0 → ⊥) → (cs : List ℕ) → strung f C s cs ≡ true → length cs ≡ n → Hung s n
  unfolding cleared
  hung-by s n ne [] h e = absurd (ne (eqb-true s 0 h))
  hung-by s n ne (c ∷ cs) h e =
      let q = link-cells K ks ls s ne in
      let a = both (eqb s c && in_pool C s) ((eqb (f s).right 0 && (eqb (f s).high 0 && zeros (f s).key)) && strung f C (f s).left cs) h in
      let b = both (eqb s c) (in_pool C s) a.0 in
      let d = both (leb 1 s) (leb s C) b.1 in
      let g = both (eqb (f s).right 0 && (eqb (f s).high 0 && zeros (f s).key)) (strung f C (f s).left cs) a.1 in
      let m : suc (length cs) ≡ n = e in
      record {
        inside = leb-true s C d.1;
        clear = subst (λ (x : Cell). (eqb x.right 0 && (eqb x.high 0 && zeros x.key)) ≡ true) q g.0;
        some = λ z. omega arith;
        rest = record { slots = cs; chain = subst (λ (x : Cell). strung f C x.left cs ≡ true) q g.1; count = omega arith };
      }

  hung : (s n : ℕ) → (s ≡ 0 → ⊥) → F s n → Hung s n
  hung s n ne x = hung-by s n ne x.slots x.chain x.count

  link : (s n : ℕ) → (s ≡ 0 → ⊥) → Hung s n → F s n
  unfolding cleared
  link s n ne x =
      let q = link-cells K ks ls s ne in
      let m : length x.rest.slots ≡ n - 1 = x.rest.count in
      let z = x.some in
      record {
        slots = s ∷ x.rest.slots;
        chain = pair (pair (eq-eqb s s refl) (pair (le-leb 1 s (omega arith)) (le-leb s C x.inside))) (pair (subst (λ (y : Cell). (eqb y.right 0 && (eqb y.high 0 && zeros y.key)) ≡ true) (sym q) x.clear) (subst (λ (y : Cell). strung f C y.left x.rest.slots ≡ true) (sym q) x.rest.chain));
        count = omega arith;
      }

  -- at s with n to come: the whole chain is right exactly where the rest is
  pub record Same (free all s n : ℕ) : Type 0 where
    pub up : F s n → F free all
    pub down : F free all → F s n

  module _ (free all s n : ℕ) (same : Same free all s n) where
    ended : (cs : List ℕ) → s ≡ 0 → strung f C s cs ≡ true → length cs ≡ n → n ≡ 0
    ended [] z h e = sym e
    ended (c ∷ cs) z h e =
        let a = both (eqb s c && in_pool C s) ((eqb (f s).right 0 && (eqb (f s).high 0 && zeros (f s).key)) && strung f C (f s).left cs) h in
        let b = both (eqb s c) (in_pool C s) a.0 in
        let d = leb-true 1 s (both (leb 1 s) (leb s C) b.1).0 in
        absurd (omega arith)

    pub too-short : s ≡ 0 → (n ≡ 0 → ⊥) → Tells (F free all) false
    too-short z ne = tells-no (F free all) (λ x. let g = same.down x in ne (ended g.slots z g.chain g.count))

    module _ (ne : s ≡ 0 → ⊥) where
      pub off-pool : C < s → Tells (F free all) false
      off-pool h = tells-no (F free all) (λ x. let g = (hung s n ne (same.down x)).inside in omega arith)

      module _ (r : Bool) (t : r ≡ cleared K ks ls s) where
        pub not-cleared : r ≡ false → Tells (F free all) false
        not-cleared e = tells-no (F free all) (λ x. clash (sym (hung s n ne (same.down x)).clear ∙ sym t ∙ e))

        pub same-on : r ≡ true → (m : ℕ) → m + 1 ≡ n → s ≤ C → (q : ℕ) → q ≡ left_at ls s → Same free all q m
        same-on e m k l q eq =
            let z : m ≡ n - 1 = omega arith in
            rw z (record {
              up = λ x. same.up (link s n ne (record { inside = l; clear = sym t ∙ e; some = λ o. omega arith; rest = subst (λ (y : ℕ). F y (n - 1)) eq x }));
              down = λ x. subst (λ (y : ℕ). F y (n - 1)) (sym eq) (hung s n ne (same.down x)).rest;
            })
