use native.Mathlib.Omega.{arith}
use Rattle.print.proofs.Decimals.{decimal-short}
use Rattle.print.proofs.size.title_length.Goals as goal

pub overflow_add-result : goal.overflow_add-result
overflow_add-result c = let s = c.args in omega (arith, decimal-short s.k (omega arith), decimal-short s.n (omega arith))

pub overflow_add-result-2 : goal.overflow_add-result-2
overflow_add-result-2 c = let s = c.args in omega (arith, decimal-short s.k (omega arith), decimal-short s.n (omega arith))
