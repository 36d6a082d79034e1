use mathlib.Core.Path.{◌∙◌, ap}
use Rattle.model.specs.Answer.{plain}
use Rattle.model.specs.declared.Outcome.TheVariants.{Done}
use Rattle.reply.proofs.Gates.{fresh-head}
use Rattle.reply.proofs.answer.begun.Goals as goal

pub returns : goal.returns
returns c = λ h. (rw (c.default.ensures.1.1.0, c.default.ensures.1.1.1.1) at c.plain.ensures) ∙ ap (plain Done) (fresh-head c.args.k c.args.c h)
