-- Signed numbers: what the machine's tests say of them, at both ends of the range as anywhere.
use mathlib.Core.Path.{◌≡◌}
use Prim.Native.Nat.{◌^◌, ◌<◌}
use lib.IntN.{ℤ}
use lib.Signed.{mag, lt_z}
use mir.Syntax.{w64}
use mir.Val.{to_z, of_z}
use Rattle.model.specs.Number.{order}
use Rattle.model.specs.Tree.{is_less}
use Rattle.model.proofs.Machine.{back}
use Rattle.model.proofs.Numbers.{lt_z-cmp}

-- a signed test tells of the order of the numbers themselves
pub test-less : (x y : ℤ) → mag x < 2 ^ 63 → mag y < 2 ^ 63 → lt_z (to_z w64 (of_z w64 x)) (to_z w64 (of_z w64 y)) ≡ is_less (order x y)
test-less x y fx fy = rw (back x fx, back y fy) (lt_z-cmp x y)
