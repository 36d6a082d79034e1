use mathlib.Core.Path.{sym, ◌∙◌}
use Rattle.sheet.proofs.Fills.{fill-small, fill-part, fill-taken, fill-ranks, fill-writes, fill-short, fill-long}
use Rattle.sheet.proofs.listing.fill.Goals as goal

pub overflow_mul-pool : goal.overflow_mul-pool
overflow_mul-pool c = let P = c.args.pool.now in let C = c.collect-n in record { fits = fill-small P.shape P.keys.now P.links.now c.args.root c.args.bounds P.room c.requires.standing c.args.slots.now C.new.slots C.result c.requires.slots_len.0 C.auto.slots C.ensures }

pub returns-then-room-pool : goal.returns-then-room-pool
returns-then-room-pool c = let P = c.args.pool.now in let C = c.collect-n in fill-short P.shape P.keys.now P.links.now c.args.root c.args.bounds P.room c.requires.standing c.args.slots.now C.new.slots C.result c.requires.slots_len.0 C.auto.slots C.ensures c.args.room.now c.if-room-pool.true

pub slice_bounds-boxed-end : goal.slice_bounds-boxed-end
slice_bounds-boxed-end c = let P = c.args.pool.now in let C = c.collect-n in fill-part P.shape P.keys.now P.links.now c.args.root c.args.bounds P.room c.requires.standing c.args.slots.now C.new.slots C.result c.requires.slots_len.0 C.auto.slots C.ensures C.new.slots (C.auto.slots ∙ c.requires.slots_len.0)

pub slice_bounds-boxed-end-2 : goal.slice_bounds-boxed-end-2
slice_bounds-boxed-end-2 c = let P = c.args.pool.now in let C = c.collect-n in sym (fill-taken P.shape P.keys.now P.links.now c.args.root c.args.bounds P.room c.requires.standing c.args.slots.now C.new.slots C.result c.requires.slots_len.0 C.auto.slots C.ensures C.new.slots (C.auto.slots ∙ c.requires.slots_len.0))

pub slice_bounds-rank-end : goal.slice_bounds-rank-end
slice_bounds-rank-end c = let P = c.args.pool.now in let C = c.collect-n in fill-part P.shape P.keys.now P.links.now c.args.root c.args.bounds P.room c.requires.standing c.args.slots.now C.new.slots C.result c.requires.slots_len.0 C.auto.slots C.ensures c.args.spare.now c.requires.slots_len.1

pub slice_bounds-rank-end-2 : goal.slice_bounds-rank-end-2
slice_bounds-rank-end-2 c = let P = c.args.pool.now in let C = c.collect-n in sym (fill-taken P.shape P.keys.now P.links.now c.args.root c.args.bounds P.room c.requires.standing c.args.slots.now C.new.slots C.result c.requires.slots_len.0 C.auto.slots C.ensures c.args.spare.now c.requires.slots_len.1)

pub rank-requires-clause-in_tables : goal.rank-requires-clause-in_tables
rank-requires-clause-in_tables c = let P = c.args.pool.now in let C = c.collect-n in (fill-ranks P.shape P.keys.now P.links.now c.args.root c.args.bounds P.room c.requires.standing c.args.slots.now C.new.slots C.result c.requires.slots_len.0 C.auto.slots C.ensures c.args.spare.now c.requires.slots_len.1).1

pub write_entries-requires-clause-in_tables : goal.write_entries-requires-clause-in_tables
write_entries-requires-clause-in_tables c = let P = c.args.pool.now in let C = c.collect-n in let R = c.rank in (fill-writes P.shape P.keys.now P.links.now c.args.root c.args.bounds P.room c.requires.standing c.args.slots.now C.new.slots C.result c.requires.slots_len.0 C.auto.slots C.ensures R.new.slots R.auto.slots R.ensures c.args.room.now c.if-room-pool.false).1

pub returns : goal.returns
returns c = let P = c.args.pool.now in let C = c.collect-n in let R = c.rank in fill-long P.shape P.keys.now P.links.now c.args.root c.args.bounds P.room c.requires.standing c.args.slots.now C.new.slots C.result c.requires.slots_len.0 C.auto.slots C.ensures R.new.slots R.auto.slots R.ensures c.args.room.now c.write_entries.new.room c.if-room-pool.false c.write_entries.ensures
