use Rattle.std.proofs.Common.{None, Some}
use Rattle.std.proofs.lemmas.Bool.Decides.{Decides-eqb}
use Rattle.std.proofs.lemmas.Slice.Eq.{strip_prefix_is}
use Rattle.text.proofs.Words as laws
use Rattle.text.proofs.title.read_after.Goals as goal

pub returns-in_err-strip_prefix : goal.returns-in_err-strip_prefix
returns-in_err-strip_prefix c = rw c.from_residual.ensures (laws.after_none _ _ (strip_prefix_is Decides-eqb _ _ None c.in_err-strip_prefix.ensures.cases))

pub returns : goal.returns
returns c = laws.after_is _ _ _ _ (strip_prefix_is Decides-eqb _ _ (Some c.in_ok-strip_prefix.field-0) c.in_ok-strip_prefix.ensures.cases) c.read_decimal.ensures
