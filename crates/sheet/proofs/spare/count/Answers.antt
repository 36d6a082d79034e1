use mathlib.Core.Path.{refl}
use native.Mathlib.Omega.{arith}
use lib.ListN.{replicate}
use Rattle.weigh.proofs.Held.{given-room, given-standing}
use Rattle.sheet.proofs.Fills.{front-walks}
use Rattle.sheet.proofs.spare.count.Goals as goal

pub invariant_of-pool : goal.invariant_of-pool
invariant_of-pool c = record { room = given-room c.args.known.now.head c.args.known.now.keys.now c.args.known.now.links.now c.args.known.now.sound c.from.result c.from.ensures }

pub collect-requires-clause-at_in_bounds : goal.collect-requires-clause-at_in_bounds
collect-requires-clause-at_in_bounds c = front-walks c.from.result c.args.known.now.keys.now c.args.known.now.links.now c.args.known.now.head.root c.args.bounds (given-room c.args.known.now.head c.args.known.now.keys.now c.args.known.now.links.now c.args.known.now.sound c.from.result c.from.ensures) (given-standing c.args.known.now.head c.args.known.now.keys.now c.args.known.now.links.now c.args.known.now.sound c.from.result c.from.ensures) (replicate 256 0) c.args.known.now.head.c (rw c.from.ensures refl) (omega arith)

pub collect-requires-2-clause-at_in_bounds : goal.collect-requires-2-clause-at_in_bounds
collect-requires-2-clause-at_in_bounds c = front-walks c.from.result c.args.known.now.keys.now c.args.known.now.links.now c.args.known.now.head.root c.args.bounds (given-room c.args.known.now.head c.args.known.now.keys.now c.args.known.now.links.now c.args.known.now.sound c.from.result c.from.ensures) (given-standing c.args.known.now.head c.args.known.now.keys.now c.args.known.now.links.now c.args.known.now.sound c.from.result c.from.ensures) (replicate 4096 0) c.args.known.now.head.c (rw c.from.ensures refl) c.args.known.now.sound.room.c_high
