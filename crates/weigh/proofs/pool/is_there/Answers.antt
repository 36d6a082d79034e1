use Rattle.model.specs.Answer.{inward}
use Rattle.weigh.proofs.There.{is_found, not-found}
use Rattle.weigh.proofs.pool.is_there.Goals as goal

pub returns-in-Found : goal.returns-in-Found
returns-in-Found c = let w = c.walk_down-end in is_found c.args.known.now.head c.args.known.now.keys.now c.args.known.now.links.now c.args.known.now.sound (inward c.args.known.now.head.k c.args.entry) w.result (rw c.from.ensures at w.ensures) _ _ c.in-Found.is

pub returns-in_default : goal.returns-in_default
returns-in_default c = let w = c.walk_down-end in not-found c.args.known.now.head c.args.known.now.keys.now c.args.known.now.links.now c.args.known.now.sound (inward c.args.known.now.head.k c.args.entry) w.result (rw c.from.ensures at w.ensures) c.in_default.not-Found
