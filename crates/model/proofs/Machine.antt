-- Signed numbers as the machine stores, tests and casts them.
use mathlib.Core.Path.{◌≡◌, refl, ap}
use mathlib.Core.Bool.{true, false}
use Prim.Native.Nat.{ℕ, suc, ◌+◌, ◌-◌, ◌^◌, ◌<◌}
use native.Mathlib.Omega.{arith}
use borrow.Author.Tests.{ltb-true, le-ltb}
use lib.Dec.{T}
use lib.IntN.{ℤ, pos, negsuc, nat_abs, ◌-ℤ◌}
use lib.Signed.{mag, lt_z, non_neg}
use mir.Syntax.{w64}
use mir.Val.{to_z, of_z, SFits, Fits}
use mir.ValLaws.{to_z-of_z, to_z_pos}

-- a signed value that was stored and read back
pub back : (z : ℤ) → mag z < 2 ^ 63 → to_z w64 (of_z w64 z) ≡ z
back z h = to_z-of_z w64 z (record { sfits = h })

-- a number z that is k, which fits: what a cast to an unsigned type asks and gives
module _ (z : ℤ) (k : ℕ) (e : z ≡ pos k) (h : k < 2 ^ 63) where
  is : to_z w64 (of_z w64 z) ≡ pos k
  is = rw e (to_z_pos w64 k h)

  pub cast-asks : T (non_neg (to_z w64 (of_z w64 z))) × Fits w64 (nat_abs (to_z w64 (of_z w64 z)))
  cast-asks = rw is (tt, record { fits = omega arith })

  pub cast_is : nat_abs (to_z w64 (of_z w64 z)) ≡ k
  cast_is = ap nat_abs is

-- x below 0: 2^63 more than x is not, and lacks as much of 2^63 as x's magnitude
pub record Up (x : ℤ) : Type 0 where
  pub at : ℕ
  pub is : to_z w64 (of_z w64 x) -ℤ negsuc 9223372036854775807 ≡ pos at
  pub small : at < 2 ^ 63
  pub lacks : at + nat_abs x ≡ 9223372036854775808
  pub below : (n : ℕ) × (x ≡ negsuc n)

pub up : (x : ℤ) → SFits w64 x → lt_z (to_z w64 (of_z w64 x)) (pos 0) ≡ true → Up x
up (pos n) f h = absurd (let z : n < 0 = ltb-true n 0 (rw (to_z-of_z w64 (pos n) f) at h) in omega arith)
up (negsuc n) f h =
    let g : n < 2 ^ 63 = f.sfits in
    record {
      at = 9223372036854775808 - suc n;
      is = rw (to_z-of_z w64 (negsuc n) f, le-ltb 9223372036854775808 (suc n) g);
      small = omega arith;
      lacks = omega arith;
      below = (n, refl);
    }

-- x at least 0: x is its magnitude
pub over : (x : ℤ) → SFits w64 x → lt_z (to_z w64 (of_z w64 x)) (pos 0) ≡ false → (x ≡ pos (nat_abs x)) × (nat_abs x < 2 ^ 63)
over (pos n) f h = (refl, f.sfits)
over (negsuc n) f h = absurd (let z : true ≡ false = (rw (to_z-of_z w64 (negsuc n) f) at h) in let y : ◌≡◌ {A = ℕ} 0 1 = cc in omega arith)
