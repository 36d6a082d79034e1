use borrow.Author.Tests.{ltb-true}
use Rattle.std.proofs.Common.{arith, refl, sym, ◌∙◌}
use Rattle.text.proofs.Readings as laws
use Rattle.text.proofs.number.read_number.Goals as goal
use Rattle.text.proofs.number.read_number.Goals.{then-text-lt1, else-text-lt1+in_default-1}

pub returns-in_err-read_decimal : goal.returns-in_err-read_decimal
returns-in_err-read_decimal c = rw c.from_residual.ensures (laws.minus-none _ (omega arith) (omega arith) _ c.in_err-read_decimal.ensures refl)

pub negative-requires : goal.negative-requires
negative-requires c = (omega arith, laws.minus-small _ (omega arith) (omega arith) _ c.in_ok-read_decimal.ensures _ _ refl)

pub returns-in-0-default : goal.returns-in-0-default
returns-in-0-default c = laws.minus-zero _ (omega arith) (omega arith) _ c.in_ok-read_decimal.ensures _ _ refl (omega arith)

pub returns-in_default-2 : goal.returns-in_default-2
returns-in_default-2 c = laws.minus_is _ (omega arith) (omega arith) _ c.in_ok-read_decimal.ensures _ _ refl (λ z. omega arith) _ c.negative.ensures

pub returns-in_err-value : goal.returns-in_err-value
returns-in_err-value c = rw c.from_residual-in_err-value.ensures (laws.plain-none c.args.text.now (λ a b. elim c.if-text-lt1.branch [ then-text-lt1 w ↦ omega (arith, ltb-true) | else-text-lt1+in_default-1 w ↦ omega arith ]) _ c.in_err-value.ensures refl)

pub returns-in_err-ok : goal.returns-in_err-ok
returns-in_err-ok c = rw c.from_residual-in_err-ok.ensures (laws.plain-big c.args.text.now (λ a b. elim c.if-text-lt1.branch [ then-text-lt1 w ↦ omega (arith, ltb-true) | else-text-lt1+in_default-1 w ↦ omega arith ]) _ c.in_ok-value.ensures _ _ refl _ c.try_from.ensures (sym c.ok.ensures.value ∙ c.in_err-ok.was))

pub returns : goal.returns
returns c = laws.plain-is c.args.text.now (λ a b. elim c.if-text-lt1.branch [ then-text-lt1 w ↦ omega (arith, ltb-true) | else-text-lt1+in_default-1 w ↦ omega arith ]) _ c.in_ok-value.ensures _ _ refl _ _ c.try_from.ensures (sym c.ok.ensures.value ∙ c.in_ok-ok.was)
