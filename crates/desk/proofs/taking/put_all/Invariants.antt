use Rattle.desk.proofs.TakesIn.{Putting}
use Rattle.desk.proofs.taking.put_all.Given as goal

abbrev pub invariant-loop : goal.invariant-loop
invariant-loop l = Putting l.initial.after l.initial.keys l.initial.links l.text l.lines l.keys l.links l.initial.lists l.lists l.after l.rest l.counter
