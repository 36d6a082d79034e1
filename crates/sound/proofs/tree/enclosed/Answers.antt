use Rattle.sound.proofs.Edges.{amid-inside}
use Rattle.sound.proofs.tree.enclosed.Goals as goal

pub returns-then-amid : goal.returns-then-amid
returns-then-amid c = rw c.if-amid.true (search amid-inside)
