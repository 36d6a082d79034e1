-- A signed number by its sign and its magnitude, as the machine tests and casts it.
use mathlib.Core.Path.{◌≡◌, refl, ap, ◌∙◌}
use Prim.Native.Nat.{ℕ, zero, suc, ◌+◌, ◌-◌, ◌^◌, ◌<◌, ◌≤◌}
use native.Mathlib.Omega.{arith}
use lib.IntN.{ℤ, pos, negsuc, nat_abs, ◌-ℤ◌}
use lib.Signed.{mag}
use mir.Syntax.{w64}
use mir.Val.{to_z, of_z, SFits}
use mir.ValLaws.{to_z-of_z, to_z_pos}
use lib.ListN.{length}
use native.Mathlib.Numerals.{sub-one}
use Rattle.model.specs.Text.{minus, signed}
use Rattle.model.proofs.Machine.{back}
use Rattle.print.proofs.Decimals.{decimal-short}

-- the magnitude that the machine had of x, and x's sign, tell x's print
module _ (x : ℤ) (m : ℕ) (f : SFits w64 x) (e : m ≡ nat_abs (to_z w64 (of_z w64 x))) where
  same-magnitude : m ≡ nat_abs x
  same-magnitude = e ∙ ap nat_abs (to_z-of_z w64 x f)

  pub magnitude-small : m ≤ 9223372036854775808
  magnitude-small = rw same-magnitude (small x f.sfits)
    where
      small : (y : ℤ) → mag y < 2 ^ 63 → nat_abs y ≤ 9223372036854775808
      small (pos n) g = omega arith
      small (negsuc n) g = omega arith

pub signed-short : (x : ℤ) → mag x < 2 ^ 63 → length (signed x) ≤ 21
signed-short (pos n) h = let d = decimal-short n (omega arith) in omega arith
signed-short (negsuc n) h = let d = decimal-short (suc n) (omega arith) in omega arith

pub print-back : (x : ℤ) → SFits w64 x → signed (to_z w64 (of_z w64 x)) ≡ signed x
print-back x f = ap signed (to_z-of_z w64 x f)

-- a number less than 0, had of its magnitude
pub negative-is : (m : ℕ) → 1 ≤ m → m ≤ 9223372036854775808 → negsuc 0 -ℤ to_z w64 (m - 1) ≡ minus m
negative-is zero g h = absurd (omega arith)
negative-is (suc n) g h = rw (sub-one, to_z_pos w64 n (omega arith)) (taken n)
  where
    taken : (k : ℕ) → negsuc 0 -ℤ pos k ≡ negsuc k
    taken zero = refl
    taken (suc k) = let e : 0 + k ≡ k = omega arith in ap (λ n. negsuc (suc n)) e

minus-small : (m : ℕ) → m ≤ 9223372036854775808 → mag (minus m) < 2 ^ 63
minus-small zero h = omega arith
minus-small (suc n) h = omega arith

pub minus-back : (m : ℕ) → m ≤ 9223372036854775808 → to_z w64 (of_z w64 (minus m)) ≡ minus m
minus-back m h = back (minus m) (minus-small m h)
