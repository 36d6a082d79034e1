use borrow.Author.Rules.{rules}
use native.Mathlib.Omega.{arith}
use lib.ListN.{length}
use lib.Seq.{length-take-le}
use Rattle.cells.proofs.Slots.{address-is-low, address-ends}
use Rattle.cells.proofs.Writes.{wrote_part}
use Rattle.cells.proofs.slot.put_entry.Goals as goal

pub overflow_add-at : goal.overflow_add-at
overflow_add-at c = omega (arith, address-is-low c.args.shape.k c.args.s _ c.address-at.ensures c.requires.0 c.requires.1.0)

pub offset_bounds-keys-at : goal.offset_bounds-keys-at
offset_bounds-keys-at c = omega (arith, address-is-low c.args.shape.k c.args.s _ c.address-at.ensures c.requires.0 c.requires.1.0)

pub slice_bounds-copy_from_slice-end : goal.slice_bounds-copy_from_slice-end
slice_bounds-copy_from_slice-end c = omega (arith, address-ends c.args.shape.k (length c.args.keys.now) c.args.s _ c.address-at.ensures c.requires.1.1)

pub returns : goal.returns
returns c = wrote_part c.args.shape.k c.args.keys.now _ _ c.args.s _ _ c.address-at.ensures c.requires.1.1 (omega arith) (search (length-take-le, rules)) c.copy_from_slice.ensures.after
