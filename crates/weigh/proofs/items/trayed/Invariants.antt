use Rattle.weigh.proofs.Begun.{Begun}
use Rattle.weigh.proofs.items.trayed.Given as goal

abbrev pub invariant-loop-i : goal.invariant-loop-i
invariant-loop-i l = Begun l.k l.items l.i
