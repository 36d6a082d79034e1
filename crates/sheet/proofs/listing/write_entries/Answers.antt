use native.Mathlib.Omega.{arith}
use mathlib.Core.Path.{◌∙◌}
use Rattle.sheet.proofs.Rooms.{rooms-on}
use Rattle.sheet.proofs.listing.write_entries.Goals as goal

pub loop-i-preserved : goal.loop-i-preserved
loop-i-preserved c = let L = c.loop-i in let e = c.entry_at-e in (omega arith, (c.put_entry.auto.keys ∙ L.invariant.1.0, rooms-on c.args.shape.k c.args.keys.now c.args.slots.now L.room c.put_entry.new.keys _ L.i e.result c.requires.in_tables (omega arith) e.ensures c.put_entry.ensures L.invariant.1.1))
