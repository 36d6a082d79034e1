-- The digits in front of the last one, then the last one.
use native.Mathlib.Omega.{arith}
use Rattle.print.proofs.Decimals.{length_more, length-one}
use Rattle.print.proofs.Writes as laws
use Rattle.print.proofs.write.+put_decimal.Goals as goal

pub returns-then-n-lt10 : goal.returns-then-n-lt10
returns-then-n-lt10 t c = (search laws.digit-one, omega (arith, length-one c.args.n (omega arith)))

pub put_decimal-last-requires : goal.put_decimal-last-requires
put_decimal-last-requires t c = (omega arith, omega (arith, length_more c.args.n (omega arith)))

pub bounds-out-last : goal.bounds-out-last
bounds-out-last t c = omega (arith, length_more c.args.n (omega arith))

pub returns : goal.returns
returns t c = (search laws.digit-last, omega (arith, length_more c.args.n (omega arith)))
