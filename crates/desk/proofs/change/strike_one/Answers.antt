use Rattle.model.specs.Answer.{inward}
use Rattle.desk.proofs.Gone.{strike-ready, some_freed, release-ready, some_left, struck-is}
use Rattle.desk.proofs.change.strike_one.Goals as goal

pub strike-x-requires-clause-strikable : goal.strike-x-requires-clause-strikable
strike-x-requires-clause-strikable c = let m = c.requires.sound.room in let k = m.k_low in rw c.from-shape.ensures (strike-ready c.args.head c.args.keys.now c.args.links.now c.requires.sound)

pub unwrap-freed-requires : goal.unwrap-freed-requires
unwrap-freed-requires c = let y = c.strike-x in some_freed c.args.head c.args.keys.now c.args.links.now c.requires.sound (inward c.args.head.k c.args.entry) c.requires.links_value y.new.keys y.new.links y.result (rw c.from-shape.ensures at y.ensures.tree)

pub release-requires : goal.release-requires
release-requires c = let y = c.strike-x in let r = release-ready c.args.head c.args.keys.now c.args.links.now c.requires.sound (inward c.args.head.k c.args.entry) c.requires.links_value y.new.keys y.new.links y.result (rw c.from-shape.ensures at y.ensures.tree) c.unwrap-freed.result c.unwrap-freed.ensures in rw c.from-shape.ensures (r.0, (r.1.0, (rw y.auto.keys r.1.1.0, rw y.auto.links r.1.1.1)))

pub overflow_sub-result : goal.overflow_sub-result
overflow_sub-result c = let y = c.strike-x in some_left c.args.head c.args.keys.now c.args.links.now c.requires.sound (inward c.args.head.k c.args.entry) c.requires.links_value y.new.keys y.new.links y.result (rw c.from-shape.ensures at y.ensures.tree) c.unwrap-freed.result c.unwrap-freed.ensures

pub returns-clause-pool : goal.returns-clause-pool
returns-clause-pool c = let y = c.strike-x in let z = c.release in struck-is c.args.head c.args.keys.now c.args.links.now c.requires.sound (inward c.args.head.k c.args.entry) c.requires.links_value y.new.keys y.new.links y.result (rw c.from-shape.ensures at y.ensures.tree) c.unwrap-freed.result c.unwrap-freed.ensures z.new.keys z.new.links y.auto.keys y.auto.links z.auto.keys z.auto.links (rw c.from-shape.ensures at z.ensures)
