use native.Mathlib.Omega.{arith}
use lib.ListN.{length}
use Rattle.cells.proofs.Slots.{address-is-low, address-ends, part_at}
use Rattle.cells.proofs.slot.numbers.Goals as goal

pub overflow_add-result : goal.overflow_add-result
overflow_add-result c = omega (arith, address-is-low c.args.shape.k c.args.s _ c.address-at.ensures c.requires.0 c.requires.1.0)

pub offset_bounds-keys-at : goal.offset_bounds-keys-at
offset_bounds-keys-at c = omega (arith, address-is-low c.args.shape.k c.args.s _ c.address-at.ensures c.requires.0 c.requires.1.0)

pub slice_bounds-result-end : goal.slice_bounds-result-end
slice_bounds-result-end c = omega (arith, address-ends c.args.shape.k (length c.args.keys.now) c.args.s _ c.address-at.ensures c.requires.1.1)

pub returns-clause-are : goal.returns-clause-are
returns-clause-are c = part_at c.args.shape.k c.args.keys.now c.args.s _ c.address-at.ensures
