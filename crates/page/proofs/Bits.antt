-- The four numbers of an entry that is passed by value are numbers of 64 bits.
use mathlib.Core.Path.{◌≡◌, refl, ap}
use mathlib.Core.List.{List, [], ◌∷◌, map}
use Prim.Native.Nat.{ℕ, zero, suc, ◌^◌, ◌<◌}
use native.Mathlib.Omega.{arith}
use lib.ListN.{length, get_or, take}
use lib.IntN.{ℤ, pos}
use lib.Signed.{mag}
use mir.Syntax.{w64}
use mir.Val.{Val}
use denote.Array.{Array, each}
use denote.Laws.{Is}
use denote.Shadow.{shadow}
use denote.Signed.{SInt}

abbrev pub Small : List ℤ → Type 0
Small xs = (i : ℕ) → i < length xs → mag (get_or xs i (pos 0)) < 2 ^ 63

each-small : (xs : List ℤ) (us : List Val) → shadow (each ℤ (SInt w64).own_val xs us) → Small xs
each-small [] us p i h = absurd (omega arith)
each-small (x ∷ xs) [] p i h = elim p [ ]
each-small (x ∷ xs) (u ∷ us) p zero h = p.0.1
each-small (x ∷ xs) (u ∷ us) p (suc i) h = each-small xs us p.1 i (omega arith)

same : (xs : List ℤ) → map (λ (x : ℤ). x) xs ≡ xs
same [] = refl
same (x ∷ xs) = ap (λ (l : List ℤ). x ∷ l) (same xs)

-- a field that is an array is owned as the list of what its elements are owned as
pub array-small : (n : ℕ) (xs : List ℤ) (vs : List Val) → Is (Array (SInt w64) n) xs vs → Small xs
array-small n xs vs p = each-small xs p.0 p.1.1

pub array_long : (n : ℕ) (xs : List ℤ) (vs : List Val) → Is (Array (SInt w64) n) xs vs → length xs ≡ n
array_long n xs vs p = p.1.0.1

pub front-small : (k : ℕ) (xs : List ℤ) → Small xs → Small (take k xs)
front-small zero xs s i h = absurd (omega arith)
front-small (suc k) [] s i h = absurd (omega arith)
front-small (suc k) (x ∷ xs) s zero h = s zero (omega arith)
front-small (suc k) (x ∷ xs) s (suc i) h = front-small k xs (λ j g. s (suc j) (omega arith)) i (omega arith)
