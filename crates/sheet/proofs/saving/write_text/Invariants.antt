use Rattle.sheet.proofs.Printing.{Writing}
use Rattle.sheet.proofs.saving.write_text.Given as goal

abbrev pub invariant-loop-s : goal.invariant-loop-s
invariant-loop-s l = Writing l.shape.k l.keys l.slots l.initial.room l.initial.to l.room l.to l.s-index
