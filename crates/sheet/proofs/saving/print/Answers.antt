use Rattle.sheet.proofs.Prints.{print-gathers, print-ranks, print-reads, print-long, print-short}
use mathlib.Core.Path.{◌≡◌}
use Rattle.std.specs.declared.option.Option.TheVariants.{Some, None}
use Rattle.sheet.proofs.saving.print.Goals as goal

pub gather-n-requires-clause-fitting : goal.gather-n-requires-clause-fitting
gather-n-requires-clause-fitting c = let P = c.args.pool.now in (print-gathers P.shape P.keys.now P.links.now c.args.root P.room c.requires.standing c.args.slots.now c.requires.slots_len.0).1

pub rank-requires-clause-in_tables : goal.rank-requires-clause-in_tables
rank-requires-clause-in_tables c = let P = c.args.pool.now in let C = c.gather-n in (print-ranks P.shape P.keys.now P.links.now c.args.root P.room c.requires.standing c.args.slots.now C.new.slots C.result c.requires.slots_len.0 C.auto.slots C.ensures c.args.spare.now c.requires.slots_len.1).1

pub measure-requires : goal.measure-requires
measure-requires c = let P = c.args.pool.now in let C = c.gather-n in let R = c.rank in print-reads P.shape P.keys.now P.links.now c.args.root P.room c.requires.standing c.args.slots.now C.new.slots C.result c.requires.slots_len.0 C.auto.slots C.ensures R.new.slots R.auto.slots R.ensures

pub returns-in_err-bytes : goal.returns-in_err-bytes
returns-in_err-bytes c = let P = c.args.pool.now in let C = c.gather-n in let R = c.rank in let w : c.measure.result ≡ None = c.in_err-bytes.was in rw c.from_residual.ensures (rw w at (print-short P.shape P.keys.now P.links.now c.args.root P.room c.requires.standing c.args.slots.now C.new.slots C.result c.requires.slots_len.0 C.auto.slots C.ensures R.new.slots R.auto.slots R.ensures c.args.room.now c.measure.result c.measure.ensures w))

pub write_text-requires-clause-k_bound : goal.write_text-requires-clause-k_bound
write_text-requires-clause-k_bound c = let P = c.args.pool.now in let C = c.gather-n in let R = c.rank in print-reads P.shape P.keys.now P.links.now c.args.root P.room c.requires.standing c.args.slots.now C.new.slots C.result c.requires.slots_len.0 C.auto.slots C.ensures R.new.slots R.auto.slots R.ensures

pub returns : goal.returns
returns c = let P = c.args.pool.now in let C = c.gather-n in let R = c.rank in let w : c.measure.result ≡ Some c.in_ok-bytes.bytes = c.in_ok-bytes.was in rw w at (print-long P.shape P.keys.now P.links.now c.args.root P.room c.requires.standing c.args.slots.now C.new.slots C.result c.requires.slots_len.0 C.auto.slots C.ensures R.new.slots R.auto.slots R.ensures c.args.room.now c.measure.result c.measure.ensures c.in_ok-bytes.bytes w c.write_text.new.room c.write_text.ensures)
