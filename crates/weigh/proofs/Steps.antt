-- A step of 0 among the first k.
use mathlib.Core.Path.{◌≡◌, refl, sym, ◌∙◌}
use mathlib.Core.Bool.{Bool, true, false, ◌||◌, true≢false}
use mathlib.Core.List.{List, [], ◌∷◌}
use Prim.Native.Nat.{ℕ, zero, suc, ◌≤◌, ◌<◌}
use native.Mathlib.Omega.{arith}
use lib.Dec.{eqb}
use lib.ListN.{length, get_or, take}
use borrow.Author.Tests.{eq-eqb}
use Rattle.model.specs.Calls.{any_zero}

-- met at place i
pub zero-at : (ss : List ℕ) (k i : ℕ) → i < k → i < length ss → get_or ss i 0 ≡ 0 → any_zero (take k ss) ≡ true
zero-at [] k i h l e = absurd (omega arith)
zero-at (s ∷ ss) zero i h l e = absurd (omega arith)
zero-at (s ∷ ss) (suc k) zero h l e = rw (eq-eqb s 0 e) refl
zero-at (s ∷ ss) (suc k) (suc i) h l e = go (eqb s 0) (zero-at ss k i (omega arith) (omega arith) e)
  where
    go : (o : Bool) → any_zero (take k ss) ≡ true → (o || any_zero (take k ss)) ≡ true
    go true f = refl
    go false f = f

pub all-steps : (ss : List ℕ) (k : ℕ) → k ≤ length ss → any_zero (take k ss) ≡ false → (i : ℕ) → i < k → 0 < get_or ss i 0
all-steps ss k l e i h = let n : ¬ (get_or ss i 0 ≡ 0) = λ q. true≢false (sym (zero-at ss k i h (omega arith) q) ∙ e) in omega (arith, n)
