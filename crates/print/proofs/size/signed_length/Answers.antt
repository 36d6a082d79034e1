use native.Mathlib.Omega.{arith}
use Rattle.print.proofs.Decimals.{decimal-short}
use Rattle.print.proofs.Signs.{magnitude-small}
use Rattle.print.proofs.size.signed_length.Goals as goal

pub overflow_add-result : goal.overflow_add-result
overflow_add-result c = let m = c.magnitude.result in let x = c.args.x in let f = c.ranges.x in omega (arith, decimal-short m (omega (arith, magnitude-small x m f c.magnitude.ensures)))
