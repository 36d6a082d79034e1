use native.Mathlib.Omega.{arith}
use Rattle.sheet.proofs.Printing.{title-fits, write-starts, line-fits, write_goes, write-ends}
use Rattle.sheet.proofs.saving.write_text.Goals as goal

pub put_title-to-requires : goal.put_title-to-requires
put_title-to-requires c = title-fits c.args.shape.k c.args.keys.now c.args.slots.now c.args.room.now c.requires.slots_in_bounds

pub loop-s-init : goal.loop-s-init
loop-s-init c = let P = c.put_title-to in write-starts c.args.shape.k c.args.keys.now c.args.slots.now c.args.room.now c.requires.slots_in_bounds P.new.out P.result P.ensures

pub put_slot-to-requires-clause-s_in_bounds : goal.put_slot-to-requires-clause-s_in_bounds
put_slot-to-requires-clause-s_in_bounds c = let P = c.put_title-to in let L = c.loop-s in line-fits c.args.shape.k c.args.keys.now c.args.slots.now P.new.out P.result L.room L.to L.s-index L.invariant (omega arith)

pub loop-s-preserved : goal.loop-s-preserved
loop-s-preserved c = let P = c.put_title-to in let L = c.loop-s in let Q = c.put_slot-to in write_goes c.args.shape.k c.args.keys.now c.args.slots.now P.new.out P.result L.room L.to L.s-index L.invariant (omega arith) Q.new.room Q.result Q.ensures Q.auto.room

pub returns : goal.returns
returns c = let P = c.put_title-to in let L = c.loop-s in write-ends c.args.shape.k c.args.keys.now c.args.slots.now c.args.room.now c.requires.slots_in_bounds P.new.out P.result P.ensures L.room L.to L.s-index L.invariant (omega arith)
