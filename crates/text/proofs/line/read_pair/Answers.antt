use borrow.Author.Tests.{ltb-true}
use Rattle.std.proofs.Common.{arith, refl, rules}
use Rattle.model.proofs.Machine.{back}
use Rattle.text.proofs.Pairs as laws
use Rattle.text.proofs.line.read_pair.Goals as goal
use Rattle.text.proofs.line.read_pair.Goals.{in_default-via-then-text-lt2, in_default-via-else-text-lt2+in_default-1, in_default-behind-via-then-behind-lt1, in_default-behind-via-in-len1-up+else-b-end}

pub returns-in_default : goal.returns-in_default
returns-in_default c =
    laws.pair-other c.args.text.now c.args.name c.args.end (λ h a b. elim c.in_default.branch [
      | in_default-via-then-text-lt2 w ↦ omega (arith, ltb-true)
      | in_default-via-else-text-lt2+in_default-1 w ↦ omega arith
    ])

pub returns-then-a-name : goal.returns-then-a-name
returns-then-a-name c = laws.pair-other c.args.text.now c.args.name c.args.end (λ h a b. omega arith)

pub returns-in_err-x : goal.returns-in_err-x
returns-in_err-x c = rw c.from_residual.ensures (laws.pair-none _ _ _ (omega arith) (omega arith) (omega arith) _ c.in_err-x.ensures refl)

pub returns-in-len1-up : goal.returns-in-len1-up
returns-in-len1-up c = laws.pair_is _ _ _ (omega arith) (omega arith) (omega arith) _ c.in_ok-x.ensures _ _ refl (omega arith) (omega arith) _ (search (rules, back))

pub returns-in_default-behind : goal.returns-in_default-behind
returns-in_default-behind c =
    laws.pair-open _ _ _ (omega arith) (omega arith) (omega arith) _ c.in_ok-x.ensures c.in_ok-x.x c.in_ok-x.behind.now refl (λ h a. elim c.in_default-behind.branch [
      | in_default-behind-via-then-behind-lt1 w ↦ omega (arith, ltb-true)
      | in_default-behind-via-in-len1-up+else-b-end w ↦ omega arith
    ])
