-- One bound set: what is inside the narrower bounds, and what is inside the wider.
use mathlib.Core.Path.{◌≡◌, refl, sym, subst, ◌∙◌}
use mathlib.Core.Bool.{Bool, true, false}
use mathlib.Core.List.{List}
use Prim.Native.Nat.{ℕ, zero, suc, ◌+◌, ◌≤◌, ◌<◌}
use native.Mathlib.Omega.{arith}
use borrow.Author.Tests.{eqb-true, eqb-false}
use lib.Dec.{eqb}
use lib.ListN.{length, get_or, set, replicate}
use lib.Seq.{get_or-set_same, get_or-set_other}
use lib.IntN.{ℤ}
use Rattle.model.specs.Entry.{Entry, cmp, super_key, cut_field}
use Rattle.model.proofs.Orders.{cmp-trans}
use Rattle.cells.specs.Slots.{numbers_of}
use Rattle.sound.specs.Tree.{Side, low, high, place, Beyond, Within, Inside, BoundsIn}
use Rattle.sound.proofs.Marks.{cut_below}

same_by : (a b : ℕ) (t : Bool) → eqb a b ≡ t → Dec (a ≡ b)
same_by a b true e = yes (eqb-true a b e)
same_by a b false e = no (eqb-false a b e)

pub same : (a b : ℕ) → Dec (a ≡ b)
same a b = same_by a b (eqb a b) refl

-- depths of one cut have one order on entries of K numbers
cut-same : (K t u : ℕ) (a b : Entry) → length a ≡ K → length b ≡ K → cut_field K t ≡ cut_field K u → cmp t a b ≡ cmp u a b
unfolding cmp super_key
cut-same K t u a b ea eb q = rw (ea, eb, q) refl

beyond-same : (d : Side) (K t u : ℕ) (a b : Entry) → length a ≡ K → length b ≡ K → cut_field K t ≡ cut_field K u → Beyond d t a b → Beyond d u a b
beyond-same low K t u a b ea eb q h = sym (cut-same K t u a b ea eb q) ∙ h
beyond-same high K t u a b ea eb q h = sym (cut-same K t u b a eb ea q) ∙ h

beyond-trans : (d : Side) (t : ℕ) (a b c : Entry) → Beyond d t a b → Beyond d t b c → Beyond d t a c
beyond-trans low t a b c p q = cmp-trans t a b c p q
beyond-trans high t a b c p q = cmp-trans t c b a q p

-- one place for each side and cut
pub place-one : (d e : Side) (a b : ℕ) → a < 4 → b < 4 → place d a ≡ place e b → (d ≡ e) × (a ≡ b)
place-one low low a b h k q = (refl, q)
place-one low high a b h k q = absurd (let z : a ≡ 4 + b = q in omega arith)
place-one high low a b h k q = absurd (let z : 4 + a ≡ b = q in omega arith)
place-one high high a b h k q = (refl, let z : 4 + a ≡ 4 + b = q in omega arith)

pub place_in : (d : Side) (c : ℕ) → c < 4 → place d c < 8
place_in low c h = omega arith
place_in high c h = let z : 4 + c < 8 = omega arith in z

module _ (K : ℕ) (ks : List ℤ) (bs : List ℕ) (cut s : ℕ) (d : Side) (some : 1 ≤ K) (four : K ≤ 4) (lt : cut < K) (eight : length bs ≡ 8) (ne : ¬ (s ≡ 0)) where
  abbrev bs' : List ℕ
  bs' = set bs (place d cut) s

  here : get_or bs' (place d cut) 0 ≡ s
  here = get_or-set_same bs (place d cut) s 0 (let p : place d cut < 8 = place_in d cut (omega arith) in omega arith)

  one : (e : Side) (t : ℕ) → place e (cut_field K t) ≡ place d cut → (e ≡ d) × (cut_field K t ≡ cut)
  one e t q = place-one e d (cut_field K t) cut (let g = cut_below K t some in omega arith) (omega arith) q

  -- what is inside the narrower is on the right side of s
  pub beyond : (x : Entry) → Inside K ks bs' x → (t : ℕ) → cut_field K t ≡ cut → Beyond d t (numbers_of K ks s) x
  beyond x h t q = let e : get_or bs' (place d (cut_field K t)) 0 ≡ s = rw q here in rw e at (h.within d t) ne

  -- and inside the wider
  pub widen : Inside K ks bs (numbers_of K ks s) → (x : Entry) → Inside K ks bs' x → Inside K ks bs x
  widen i x h = record { long = h.long; within = λ e t. go e t (same (place e (cut_field K t)) (place d cut)) }
    where
      go : (e : Side) (t : ℕ) → Dec (place e (cut_field K t) ≡ place d cut) → Within K ks bs x e t
      go e t (yes q) n =
          let w = one e t q in
          beyond-trans e t (numbers_of K ks (get_or bs (place e (cut_field K t)) 0)) (numbers_of K ks s) x (i.within e t n) (subst (λ (y : Side). Beyond y t (numbers_of K ks s) x) (sym w.0) (beyond x h t w.1))
      go e t (no q) n = rw (get_or-set_other bs (place d cut) (place e (cut_field K t)) s 0 q) at (h.within e t) n

  -- and back
  pub narrow : length (numbers_of K ks s) ≡ K → (t : ℕ) → cut_field K t ≡ cut → (x : Entry) → Inside K ks bs x → Beyond d t (numbers_of K ks s) x → Inside K ks bs' x
  narrow long t q x h k = record { long = h.long; within = λ e u. go e u (same (place e (cut_field K u)) (place d cut)) }
    where
      go : (e : Side) (u : ℕ) → Dec (place e (cut_field K u) ≡ place d cut) → Within K ks bs' x e u
      go e u (yes p) n =
          let w = one e u p in
          rw (p, here) (subst (λ (y : Side). Beyond y u (numbers_of K ks s) x) (sym w.0) (beyond-same d K t u (numbers_of K ks s) x long h.long (q ∙ sym w.1) k))
      go e u (no p) n = rw (get_or-set_other bs (place d cut) (place e (cut_field K u)) s 0 p) (h.within e u (λ z. n (get_or-set_other bs (place d cut) (place e (cut_field K u)) s 0 p ∙ z)))

-- ---- no bounds

pub zeros-at : (j n : ℕ) → ◌≡◌ {A = ℕ} (get_or (replicate n 0) j 0) 0
zeros-at zero zero = refl
zeros-at (suc j) zero = refl
zeros-at zero (suc n) = refl
zeros-at (suc j) (suc n) = zeros-at j n

pub open-fits : (C : ℕ) → BoundsIn C (replicate 8 0)
open-fits C = record { fits = λ j. rw (zeros-at j 8) (omega arith) }

pub open-inside : (K : ℕ) (ks : List ℤ) (e : Entry) → length e ≡ K → Inside K ks (replicate 8 0) e
open-inside K ks e h = record { long = h; within = λ d t n. absurd (n (zeros-at (place d (cut_field K t)) 8)) }
