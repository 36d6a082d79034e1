use Prim.Native.Nat.{◌-◌}
use Rattle.ask.proofs.Walks.{Walking}
use Rattle.ask.proofs.walk.walk_down.Given as goal

abbrev pub invariant-loop-at : goal.invariant-loop-at
invariant-loop-at l = Walking l.shape l.e.f l.keys l.links l.root l.at l.cut l.reads

abbrev pub decreases-loop-at : goal.decreases-loop-at
decreases-loop-at l = 16 - l.reads
