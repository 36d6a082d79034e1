use mathlib.Core.Path.{◌≡◌}
use Prim.Native.Nat.{◌≤◌, ◌+◌, ◌*◌}
use lib.ListN.{length, drop}
use Rattle.print.specs.Line.{ended}
use Rattle.print.proofs.size.line_length.Given as goal

abbrev pub invariant-loop-x : goal.invariant-loop-x
invariant-loop-x l = (l.count + length (ended (97 + l.x-index) (drop l.x-index l.part)) ≡ length (ended 97 l.part)) × (l.count ≤ 24 * l.x-index)
