use mathlib.Core.Path.{◌≡◌}
use Prim.Native.Nat.{◌+◌}
use lib.ListN.{length, drop}
use Rattle.print.specs.Line.{ended}
use Rattle.print.specs.Place.{written}
use Rattle.print.proofs.write.put_line.Given as goal

abbrev pub invariant-loop-i : goal.invariant-loop-i
invariant-loop-i l =
    record {
      kept : length l.out ≡ length l.initial.out;
      left : l.to + length (ended (97 + l.i) (drop l.i l.part)) ≡ l.at + length (ended 97 l.part);
      row : written l.out l.to (ended (97 + l.i) (drop l.i l.part)) ≡ written l.initial.out l.at (ended 97 l.part);
    }
