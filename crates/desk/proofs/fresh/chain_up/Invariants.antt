use mathlib.Core.Path.{◌≡◌}
use Prim.Native.Nat.{◌≤◌, ◌*◌}
use lib.ListN.{length}
use Rattle.desk.specs.Fresh.{Chained}
use Rattle.desk.proofs.fresh.chain_up.Given as goal

abbrev pub invariant-loop-before : goal.invariant-loop-before
invariant-loop-before l = (l.before ≤ l.c) × ((length l.links ≡ 3 * l.c) × Chained l.links l.c l.before)
