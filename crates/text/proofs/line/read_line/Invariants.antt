use mathlib.Core.Path.{◌≡◌}
use Prim.Native.Nat.{◌+◌, ◌-◌}
use lib.IntN.{pos}
use lib.ListN.{length, take, drop, replicate}
use Rattle.text.specs.Strict.{line_at}
use Rattle.text.proofs.Pairs.{prefixed}
use Rattle.text.proofs.line.read_line.Given as goal

abbrev pub invariant-loop-i : goal.invariant-loop-i
invariant-loop-i l =
    record {
      zeros : drop l.i l.f ≡ replicate (4 - l.i) (pos 0);
      sized : length l.f ≡ 4;
      read : line_at l.k 97 l.text ≡ prefixed (take l.i l.f) (line_at (l.k - l.i) (97 + l.i) l.rest);
    }
