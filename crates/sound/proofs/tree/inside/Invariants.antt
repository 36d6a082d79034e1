use Rattle.cells.specs.Slots.{numbers_of}
use Rattle.sound.proofs.Marks.{Passed}
use Rattle.sound.proofs.tree.inside.Given as goal

abbrev pub invariant-loop-i : goal.invariant-loop-i
invariant-loop-i l = Passed l.shape.k l.keys l.bounds (numbers_of l.shape.k l.keys l.s) l.i
