use Rattle.weigh.proofs.Counted.{lines_fit, new-over}
use Rattle.weigh.proofs.Held.{few-of}
use Rattle.weigh.proofs.lines.too_many.Goals as goal

pub overflow_sub-free : goal.overflow_sub-free
overflow_sub-free c = few-of c.args.known.now.head c.args.known.now.keys.now c.args.known.now.links.now c.args.known.now.sound.good

pub returns-then-free-lines : goal.returns-then-free-lines
returns-then-free-lines c = new-over _ c.args.text.now c.args.known.now.head.k c.args.lines c.args.known.now.head.c c.args.known.now.head.n c.requires (few-of c.args.known.now.head c.args.known.now.keys.now c.args.known.now.links.now c.args.known.now.sound.good) _ c.count_new.ensures

pub returns-else-free-lines : goal.returns-else-free-lines
returns-else-free-lines c = lines_fit _ c.args.text.now c.args.known.now.head.k c.args.lines c.args.known.now.head.c c.args.known.now.head.n c.requires (few-of c.args.known.now.head c.args.known.now.keys.now c.args.known.now.links.now c.args.known.now.sound.good) c.if-free-lines.false
