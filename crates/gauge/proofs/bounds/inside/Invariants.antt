use Rattle.std.proofs.Common.{◌≡◌}
use Rattle.std.specs.Slice.Iter.{iter_rest}
use Rattle.model.specs.Ask.{in_box}
use Rattle.gauge.proofs.bounds.inside.Given as goal

abbrev pub invariant-loop-b : goal.invariant-loop-b
invariant-loop-b l = in_box l.fn.bounds l.part ≡ in_box (iter_rest l.b-iterator.a) (iter_rest l.b-iterator.b)
