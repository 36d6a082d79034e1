use Rattle.std.proofs.Common.{arith}
use Rattle.text.proofs.Readings as laws
use Rattle.text.proofs.number.read_digits.Goals as goal
use Rattle.text.proofs.number.read_digits.Goals.{in_default, in_default-2, in_default-3}

pub loop-rest-preserved : goal.loop-rest-preserved
loop-rest-preserved c = laws.digits-on _ _ _ _ c.loop-rest.invariant _ (omega arith) (omega arith) (omega arith) c.grow-sum.ensures

pub returns : goal.returns
returns c = laws.digits-off _ _ _ _ c.loop-rest.invariant (λ a b d. elim c.if-rest-lt1.branch [ in_default w ↦ omega arith | in_default-2 w ↦ omega arith | in_default-3 w ↦ omega arith ])
