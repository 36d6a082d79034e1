use Rattle.model.specs.Answer.{inward}
use Rattle.desk.proofs.TakesIn.{stays}
use Rattle.desk.proofs.taking.put_in.Goals as goal

pub returns-then-is_there-clause-pool : goal.returns-then-is_there-clause-pool
returns-then-is_there-clause-pool c = let t = c.is_there in stays c.args.head c.args.keys.now c.args.links.now (inward c.args.head.k c.args.entry) t.result t.ensures c.requires.sound c.if-is_there.true
