use Rattle.weigh.proofs.Held.{given-room, given-standing}
use Rattle.sheet.proofs.spare.list.Goals as goal

pub invariant_of-pool : goal.invariant_of-pool
invariant_of-pool c = record { room = given-room c.args.known.now.head c.args.known.now.keys.now c.args.known.now.links.now c.args.known.now.sound c.from.result c.from.ensures }

pub fill-requires-clause-standing : goal.fill-requires-clause-standing
fill-requires-clause-standing c = given-standing c.args.known.now.head c.args.known.now.keys.now c.args.known.now.links.now c.args.known.now.sound c.from.result c.from.ensures

pub fill-requires-2-clause-standing : goal.fill-requires-2-clause-standing
fill-requires-2-clause-standing c = given-standing c.args.known.now.head c.args.known.now.keys.now c.args.known.now.links.now c.args.known.now.sound c.from.result c.from.ensures
