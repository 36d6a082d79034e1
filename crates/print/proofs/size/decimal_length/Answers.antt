use native.Mathlib.Omega.{arith}
use Rattle.print.proofs.Decimals.{decimal-short, decimal-some, length_more}
use Rattle.print.proofs.size.decimal_length.Goals as goal

pub overflow_add-count : goal.overflow_add-count
overflow_add-count c = omega (arith, decimal-short c.args.n (omega arith), decimal-some c.loop-left.left)

pub loop-left-preserved : goal.loop-left-preserved
loop-left-preserved c = omega (arith, length_more c.loop-left.left (omega arith))
