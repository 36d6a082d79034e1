use Rattle.std.proofs.Common.{◌≡◌, ℕ, ◌<◌, max, length, slice_index}
use Rattle.std.specs.Slice.Iter.{iter_rest}
use Rattle.model.specs.Entry.{distance}
use Rattle.gauge.proofs.distance.distance_of.Given as goal

abbrev pub invariant-loop-step : goal.invariant-loop-step
invariant-loop-step l = record {
  far : distance l.fn.steps l.fn.q.f l.part ≡ max l.best (distance (iter_rest l.step-iterator.a.a) (iter_rest l.step-iterator.a.b) (iter_rest l.step-iterator.b));
  by_index : (i : ℕ) → i < length (iter_rest l.step-iterator.b) → 0 < slice_index (iter_rest l.step-iterator.a.a) i;
}
