use borrow.Author.Tests.{ltb-true}
use Rattle.std.proofs.Common.{arith}
use Rattle.text.proofs.Words as laws
use Rattle.text.proofs.title.read_title.Goals as goal
use Rattle.text.proofs.title.read_title.Goals.{in_default-via-then-end-lt1, in_default-via-in-10+else-title_fits, in_default-via-else-end-lt1+in_default-1}

pub returns-in_err-fields : goal.returns-in_err-fields
returns-in_err-fields c = rw c.from_residual.ensures (laws.title-none _ c.in_err-fields.ensures)

pub returns-in_err-entries : goal.returns-in_err-entries
returns-in_err-entries c = rw c.from_residual-in_err-entries.ensures (laws.title-none2 _ _ _ c.in_ok-fields.ensures c.in_err-entries.ensures)

pub returns-in-10 : goal.returns-in-10
returns-in-10 c = laws.title-is _ _ _ c.in_ok-fields.ensures _ _ c.in_ok-entries.ensures (omega arith) (omega arith) (cc)

pub returns-in_default : goal.returns-in_default
returns-in_default c =
    laws.title-open c.args.text.now _ _ c.in_ok-fields.ensures c.in_ok-entries.entries c.in_ok-entries.end.now c.in_ok-entries.ensures (λ h a b. elim c.in_default.branch [
      | in_default-via-then-end-lt1 w ↦ omega (arith, ltb-true)
      | in_default-via-in-10+else-title_fits w ↦ cc
      | in_default-via-else-end-lt1+in_default-1 w ↦ omega arith
    ])
