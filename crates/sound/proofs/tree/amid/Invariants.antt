use Rattle.cells.specs.Slots.{numbers_of}
use Rattle.sound.specs.Tree.{Amid}
use Rattle.sound.proofs.tree.amid.Given as goal

abbrev pub invariant-loop-i : goal.invariant-loop-i
invariant-loop-i l = Amid l.i l.edges (numbers_of l.shape.k l.keys l.s)
