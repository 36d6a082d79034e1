use mathlib.Core.Path.{sym, ◌∙◌}
use Rattle.book.proofs.Counts.{count-shut, count-open}
use Rattle.book.proofs.count.Goals as goal

pub returns-in-Err : goal.returns-in-Err
returns-in-Err c = let g = c.pool in c.refused.ensures ∙ sym (count-shut c.args.head c.args.keys.now c.args.links.now g.result g.ensures c.args.bounds c.in-Err.why c.in-Err.is)

pub returns : goal.returns
returns c = let g = c.pool in count-open c.args.head c.args.keys.now c.args.links.now g.result g.ensures c.args.bounds c.in_default.is c.count-n.result c.counted.result c.count-n.ensures c.counted.ensures
