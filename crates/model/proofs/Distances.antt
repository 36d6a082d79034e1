-- A field's distance: the least number of steps that covers the difference. What others need of it is had from that.
use mathlib.Core.Path.{◌≡◌, refl, sym, ap, ◌∙◌}
use mathlib.Core.Bool.{false}
use mathlib.Core.List.{List, [], ◌∷◌}
use Prim.Native.Nat.{ℕ, zero, suc, ◌+◌, ◌*◌, ◌/◌, ◌%◌, ◌≤◌, ◌<◌, min}
use native.Mathlib.Omega.{arith}
use native.Mathlib.Nat.{div-add-mod', div-lt_iff_lt-mul, mod-lt, mul-le-mul, mul-mod_left, mul-one, suc-mul, zero-div, zero-mod, zero-mul}
use lib.Dec.{eqb}
use lib.ListN.{length, take}
use lib.IntN.{ℤ, pos, negsuc}
use borrow.Author.Tests.{eqb-false}
use Rattle.model.specs.Calls.{any_zero}
use Rattle.model.specs.Entry.{Entry, distance}
use Rattle.model.specs.Laws.{Distances, Perfect}
use Rattle.model.specs.Number.{difference, distance_of_field}
use Rattle.model.proofs.Listings.{or-false}

-- d divided by s, rounded up, is the least number of times that s must be taken to cover d
module _ (d s : ℕ) (some : 1 ≤ s) where
  up-covers : d ≤ (d / s + min 1 (d % s)) * s
  up-covers = go (d % s) (mod-lt d some) (div-add-mod' d s)
    where
      go : (r : ℕ) → r < s → d / s * s + r ≡ d → d ≤ (d / s + min 1 r) * s
      go zero l e = let z : d / s + min 1 0 ≡ d / s = omega arith in rw z (omega arith)
      go (suc r) l e = let z : d / s + min 1 (suc r) ≡ suc (d / s) = omega arith in rw (z, suc-mul (d / s) s) (omega arith)

  up_least : (m : ℕ) → d ≤ m * s → d / s + min 1 (d % s) ≤ m
  up_least m h = go (d % s) refl
    where
      go : (r : ℕ) → d % s ≡ r → d / s + min 1 r ≤ m
      go zero e = let l : d / s < suc m = (div-lt_iff_lt-mul some).1 (rw (suc-mul m s) (omega arith)) in omega arith
      go (suc r) e =
          let ne : ¬ (d ≡ m * s) = λ q. absurd (let z : suc r ≡ 0 = sym e ∙ ap (λ x. x % s) q ∙ mul-mod_left m s in omega arith) in
          let l : d / s < m = (div-lt_iff_lt-mul some).1 (omega arith) in
          omega arith

difference-self : (x : ℤ) → difference x x ≡ 0
unfolding difference
difference-self (pos a) = omega arith
difference-self (negsuc a) = omega arith

difference-none : (x y : ℤ) → difference x y ≡ 0 → x ≡ y
unfolding difference
difference-none (pos a) (pos b) e = ap pos (omega arith)
difference-none (pos a) (negsuc b) e = absurd (omega arith)
difference-none (negsuc a) (pos b) e = absurd (omega arith)
difference-none (negsuc a) (negsuc b) e = ap negsuc (omega arith)

pub distances : (step : ℕ) (x y : ℤ) → Distances step x y
unfolding distance_of_field
distances step x y =
    record {
      covers = up-covers (difference x y) step;
      least = up_least (difference x y) step;
      equal = λ e. rw (e, difference-self y, zero-div step, zero-mod step) refl;
      alone = λ some z. difference-none x y (let h = up-covers (difference x y) step some in let l : difference x y ≤ 0 = (rw (z, zero-mul step) at h) in omega arith);
    }

-- further apart is never fewer steps
pub distance-up : (step : ℕ) (q x y : ℤ) → 1 ≤ step → difference q x ≤ difference q y → distance_of_field step q x ≤ distance_of_field step q y
distance-up step q x y some h = (distances step q x).least some (distance_of_field step q y) (let c = (distances step q y).covers some in omega arith)

-- no more steps than the difference, so the distance fits where the difference does
pub distance-low : (step : ℕ) (x y : ℤ) → 1 ≤ step → distance_of_field step x y ≤ difference x y
distance-low step x y some = (distances step x y).least some (difference x y) (rw mul-one at (mul-le-mul {n₁ = difference x y} {m₁ = 1} {n₂ = difference x y} {m₂ = step} (omega arith) some))

-- entries field by field
itself : (ss : List ℕ) (q : Entry) → distance ss q q ≡ 0
unfolding distance
itself [] [] = refl
itself [] (x ∷ q) = refl
itself (s ∷ ss) [] = refl
itself (s ∷ ss) (x ∷ q) = let a = (distances s x x).equal refl in let b = itself ss q in omega arith

apart : (ss : List ℕ) (q e : Entry) → length e ≡ length q → length q ≤ length ss → any_zero (take (length q) ss) ≡ false → distance ss q e ≡ 0 → q ≡ e
unfolding distance
apart ss [] [] l m n z = refl
apart ss [] (y ∷ e) l m n z = absurd (omega arith)
apart ss (x ∷ q) [] l m n z = absurd (omega arith)
apart [] (x ∷ q) (y ∷ e) l m n z = absurd (omega arith)
apart (s ∷ ss) (x ∷ q) (y ∷ e) l m n z =
    let o = or-false (eqb s 0) (any_zero (take (length q) ss)) n in
    let some : ¬ (s ≡ 0) = eqb-false s 0 o.0 in
    let a : x ≡ y = (distances s x y).alone (omega arith) (omega arith) in
    let b : q ≡ e = apart ss q e (omega arith) (omega arith) o.1 (omega arith) in
    cc (a, b)

pub perfect : (K : ℕ) (steps : List ℕ) (q e : Entry) → Perfect K steps q e
perfect K steps q e = record { equal = λ h. rw h (itself steps e); alone = λ l m n o z. apart steps q e (omega arith) (omega arith) (rw l o) z }
