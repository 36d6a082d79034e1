use mathlib.Core.Path.{sym, ◌∙◌}
use lib.ListN.{length}
use Rattle.model.specs.Answer.{inward}
use Rattle.reply.proofs.Gates.{shut-gate, open-gate}
use Rattle.book.proofs.LookUps.{look-shut, look-met, look-unmet, look-astray}
use Rattle.book.proofs.look_up.Goals as goal

pub returns-in-Err : goal.returns-in-Err
returns-in-Err c = let g = c.sizes in c.refused.ensures ∙ sym (look-shut c.args.head c.args.keys.now c.args.links.now c.args.entry c.in-Err.why (shut-gate c.args.head.k c.args.head.c (length c.args.keys.now) (length c.args.links.now) c.args.head.c g.result g.ensures c.in-Err.why c.in-Err.is))

pub returns-in-Found : goal.returns-in-Found
returns-in-Found c = let g = c.sizes in let w = c.walk_down in c.met.ensures (inward c.args.head.k c.args.entry) c.cut_to.ensures ∙ sym (look-met c.args.head c.args.keys.now c.args.links.now c.args.entry (open-gate c.args.head.k c.args.head.c (length c.args.keys.now) (length c.args.links.now) c.args.head.c g.result g.ensures c.in_default.is) w.result (rw c.from.ensures at w.ensures) c.in-Found.slot c.in-Found.reads c.in-Found.is)

pub returns-in-Gone : goal.returns-in-Gone
returns-in-Gone c = let g = c.sizes in let w = c.walk_down in c.unmet.ensures ∙ sym (look-unmet c.args.head c.args.keys.now c.args.links.now c.args.entry (open-gate c.args.head.k c.args.head.c (length c.args.keys.now) (length c.args.links.now) c.args.head.c g.result g.ensures c.in_default.is) w.result (rw c.from.ensures at w.ensures) c.in-Gone.reads c.in-Gone.is)

pub returns-in-Astray : goal.returns-in-Astray
returns-in-Astray c = let g = c.sizes in let w = c.walk_down in c.refused-in-Astray.ensures ∙ sym (look-astray c.args.head c.args.keys.now c.args.links.now c.args.entry (open-gate c.args.head.k c.args.head.c (length c.args.keys.now) (length c.args.links.now) c.args.head.c g.result g.ensures c.in_default.is) w.result (rw c.from.ensures at w.ensures) c.in-Astray.is)
