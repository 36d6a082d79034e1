use Rattle.weigh.proofs.Held.{given-room, given-standing}
use Rattle.sheet.proofs.spare.save.Goals as goal

pub invariant_of-pool : goal.invariant_of-pool
invariant_of-pool c = record { room = given-room c.args.known.now.head c.args.known.now.keys.now c.args.known.now.links.now c.args.known.now.sound c.from.result c.from.ensures }

pub print-requires-clause-standing : goal.print-requires-clause-standing
print-requires-clause-standing c = given-standing c.args.known.now.head c.args.known.now.keys.now c.args.known.now.links.now c.args.known.now.sound c.from.result c.from.ensures

pub print-requires-2-clause-standing : goal.print-requires-2-clause-standing
print-requires-2-clause-standing c = given-standing c.args.known.now.head c.args.known.now.keys.now c.args.known.now.links.now c.args.known.now.sound c.from.result c.from.ensures
