use mathlib.Core.Path.{◌≡◌}
use Prim.Native.Nat.{◌≤◌, ◌+◌}
use lib.ListN.{length}
use Rattle.model.specs.Text.{decimal}
use Rattle.print.proofs.size.decimal_length.Given as goal

abbrev pub invariant-loop-left : goal.invariant-loop-left
invariant-loop-left l = (l.count + length (decimal l.left) ≡ length (decimal l.n) + 1) × (l.left ≤ l.n)

abbrev pub decreases-loop-left : goal.decreases-loop-left
decreases-loop-left l = l.left
