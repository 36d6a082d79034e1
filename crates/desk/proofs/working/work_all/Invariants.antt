use Rattle.desk.proofs.Worked.{Working}
use Rattle.desk.proofs.working.work_all.Given as goal

abbrev pub invariant-loop-i : goal.invariant-loop-i
invariant-loop-i l = Working l.initial.after l.initial.keys l.initial.links l.items l.keys l.links l.initial.lists l.lists l.after l.i
