use borrow.Author.Tests.{ltb-true}
use Rattle.std.proofs.Common.{arith}
use Rattle.text.proofs.Readings as laws
use Rattle.text.proofs.number.read_decimal.Goals as goal
use Rattle.text.proofs.number.read_decimal.Goals.{in_default-via-then-text-lt1, in_default-via-else-text-lt1+in_default+then-text-lt48, in_default-via-else-text-lt1+in_default+else-text-lt48+else-text-lt58}

pub returns-in-48 : goal.returns-in-48
returns-in-48 c = laws.decimal-zero _ (omega arith) (omega arith)

pub returns-then-value-le9223372036854775808 : goal.returns-then-value-le9223372036854775808
returns-then-value-le9223372036854775808 c = laws.decimal-is _ (omega arith) (omega arith) (omega arith) _ _ _ c.from.ensures c.read_digits-value.ensures (omega arith)

pub returns-else-value-le9223372036854775808 : goal.returns-else-value-le9223372036854775808
returns-else-value-le9223372036854775808 c = laws.decimal-big _ (omega arith) (omega arith) (omega arith) _ _ _ c.from.ensures c.read_digits-value.ensures (omega arith)

pub returns-in_default : goal.returns-in_default
returns-in_default c =
    laws.decimal-none c.args.text.now (λ a b d. elim c.in_default.branch [
      | in_default-via-then-text-lt1 w ↦ omega (arith, ltb-true)
      | in_default-via-else-text-lt1+in_default+then-text-lt48 w ↦ omega arith
      | in_default-via-else-text-lt1+in_default+else-text-lt48+else-text-lt58 w ↦ omega arith
    ])
