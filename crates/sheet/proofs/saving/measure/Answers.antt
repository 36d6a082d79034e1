use native.Mathlib.Omega.{arith}
use Rattle.sheet.proofs.Printing.{count-starts, title-over, count-goes, count-over, count-ends}
use Rattle.sheet.proofs.saving.measure.Goals as goal

pub returns-then-most-bytes : goal.returns-then-most-bytes
returns-then-most-bytes c = title-over c.args.shape.k c.args.keys.now c.args.slots.now c.args.most c.title_length-bytes.result c.title_length-bytes.ensures c.if-most-bytes.true

pub loop-s-init : goal.loop-s-init
loop-s-init c = count-starts c.args.shape.k c.args.keys.now c.args.slots.now c.args.most c.title_length-bytes.result c.title_length-bytes.ensures c.if-most-bytes.false

pub returns-then-most-bytes-2 : goal.returns-then-most-bytes-2
returns-then-most-bytes-2 c = let L = c.loop-s in count-over c.args.shape.k c.args.keys.now c.args.slots.now c.args.most L.bytes L.s-index L.invariant (omega arith) c.slot_length-line.result c.slot_length-line.ensures c.if-most-bytes-2.true

pub loop-s-preserved : goal.loop-s-preserved
loop-s-preserved c = let L = c.loop-s in count-goes c.args.shape.k c.args.keys.now c.args.slots.now c.args.most L.bytes L.s-index L.invariant (omega arith) c.slot_length-line.result c.slot_length-line.ensures c.if-most-bytes-2.false

pub returns : goal.returns
returns c = let L = c.loop-s in count-ends c.args.shape.k c.args.keys.now c.args.slots.now c.args.most L.bytes L.s-index L.invariant (omega arith)
