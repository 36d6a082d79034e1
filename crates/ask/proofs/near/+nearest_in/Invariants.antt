use Rattle.cells.specs.Slots.{tall}
use Rattle.ask.proofs.near.+nearest_in.Given as goal

-- the height of what hangs at the slot
abbrev pub decreases-nearest_in : goal.decreases-nearest_in
decreases-nearest_in l = tall l.query.now.pool.links.now l.s
