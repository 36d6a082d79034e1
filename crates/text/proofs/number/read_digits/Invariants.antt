use Rattle.std.proofs.Common.{◌≡◌, length}
use Rattle.text.specs.Strict.{capped}
use Rattle.text.proofs.number.read_digits.Given as goal

abbrev pub invariant-loop-rest : goal.invariant-loop-rest
invariant-loop-rest l = capped l.text l.value ≡ capped l.rest l.sum

abbrev pub decreases-loop-rest : goal.decreases-loop-rest
decreases-loop-rest l = length l.rest
