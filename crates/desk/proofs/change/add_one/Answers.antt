use mathlib.Core.Path.{◌≡◌}
use native.Mathlib.Omega.{arith}
use lib.ListN.{length}
use lib.Seq.{length-take-le}
use Rattle.model.specs.Answer.{inward}
use Rattle.desk.proofs.Added.{claim-ready, insert-ready, added_is}
use borrow.Author.Rules.{rules}
use Rattle.desk.proofs.change.add_one.Goals as goal

pub claim-free-requires : goal.claim-free-requires
claim-free-requires c = rw c.from-shape.ensures (claim-ready c.args.head c.args.keys.now c.args.links.now c.requires.sound.0 c.requires.sound.1)

pub insert-root-requires-clause-insertable : goal.insert-root-requires-clause-insertable
insert-root-requires-clause-insertable c = let x = c.claim-free in let m = c.requires.sound.0.room in let k = m.k_low in rw c.from-shape.ensures (insert-ready c.args.head c.args.keys.now c.args.links.now c.requires.sound.0 c.requires.sound.1 (inward c.args.head.k c.args.entry) x.new.keys x.new.links x.result x.auto.links (rw c.from-shape.ensures at x.ensures))

pub returns-clause-pool : goal.returns-clause-pool
returns-clause-pool c = let x = c.claim-free in let y = c.insert-root in let n : length c.args.entry.f ≡ 4 = search rules in let k = c.requires.sound.0.room.k_high in added_is c.args.head c.args.keys.now c.args.links.now c.requires.sound.0 c.requires.sound.1 (inward c.args.head.k c.args.entry) x.new.keys x.new.links x.result x.auto.links (rw c.from-shape.ensures at x.ensures) c.requires.links_value (length-take-le c.args.head.k c.args.entry.f (omega arith)) y.new.links y.result y.auto.links x.auto.keys (rw c.from-shape.ensures at y.ensures.tree)
