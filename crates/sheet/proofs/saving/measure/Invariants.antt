use Rattle.sheet.proofs.Printing.{Counted}
use Rattle.sheet.proofs.saving.measure.Given as goal

abbrev pub invariant-loop-s : goal.invariant-loop-s
invariant-loop-s l = Counted l.shape.k l.keys l.slots l.most l.bytes l.s-index
