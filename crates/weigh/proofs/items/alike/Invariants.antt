use Rattle.std.proofs.Common.{◌≡◌, length, drop}
use Rattle.std.specs.Slice.Iter.{iter_rest}
use Rattle.weigh.proofs.items.alike.Given as goal

abbrev pub invariant-loop-x : goal.invariant-loop-x
invariant-loop-x l = (drop 1 l.fn.a ≡ drop 1 l.fn.b → iter_rest l.x-iterator.a ≡ iter_rest l.x-iterator.b) × ((iter_rest l.x-iterator.a ≡ iter_rest l.x-iterator.b → drop 1 l.fn.a ≡ drop 1 l.fn.b) × (length (iter_rest l.x-iterator.a) ≡ length (iter_rest l.x-iterator.b)))
