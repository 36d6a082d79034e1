use Rattle.cells.specs.Slots.{tall}
use Rattle.ask.proofs.boxes.+collect.Given as goal

-- the height of what hangs at the slot
abbrev pub decreases-collect : goal.decreases-collect
decreases-collect l = tall l.pool.now.links.now l.s
