use Rattle.cells.specs.Slots.{tall}
use Rattle.build.proofs.gather.+gather.Given as goal

abbrev pub decreases-gather : goal.decreases-gather
decreases-gather l = tall l.links.now l.s
