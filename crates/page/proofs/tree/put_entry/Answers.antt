use native.Mathlib.Nat.{mod-lt}
use native.Mathlib.Omega.{arith}
use lib.ListN.{take}
use Rattle.page.proofs.Short.{part-long, line-short, line-ready, read_back, entry-put-in}
use Rattle.page.proofs.Lines.{slot-fits, depth-fits, cut_fits, pairs-fit, entry-put}
use Rattle.page.proofs.tree.put_entry.Goals as goal

pub put_number-a-requires : goal.put_number-a-requires
put_number-a-requires c =
    let X = c.entry_at-e in
    let f = line-ready c.args.shape.k c.args.depth c.args.s X.result.f _ X.type_inv.1.1.0 c.requires.le_k.0.1 c.ranges.depth.fits c.ranges.s.fits c.args.room.now c.args.at c.requires.at_in_bounds in
    slot-fits c.args.shape.k c.args.depth c.args.s (take c.args.shape.k X.result.f) c.args.room.now c.args.at f

pub put_number-b-requires : goal.put_number-b-requires
put_number-b-requires c =
    let X = c.entry_at-e in
    let A = c.put_number-a in
    let f = line-ready c.args.shape.k c.args.depth c.args.s X.result.f _ X.type_inv.1.1.0 c.requires.le_k.0.1 c.ranges.depth.fits c.ranges.s.fits c.args.room.now c.args.at c.requires.at_in_bounds in
    depth-fits c.args.shape.k c.args.depth c.args.s (take c.args.shape.k X.result.f) c.args.room.now c.args.at f A.new.room A.result A.ensures

pub put_cut-c-requires : goal.put_cut-c-requires
put_cut-c-requires c =
    let X = c.entry_at-e in
    let A = c.put_number-a in
    let B = c.put_number-b in
    let f = line-ready c.args.shape.k c.args.depth c.args.s X.result.f _ X.type_inv.1.1.0 c.requires.le_k.0.1 c.ranges.depth.fits c.ranges.s.fits c.args.room.now c.args.at c.requires.at_in_bounds in
    let m = mod-lt c.args.depth {m = c.args.shape.k} (omega arith) in
    (omega arith, cut_fits c.args.shape.k c.args.depth c.args.s (take c.args.shape.k X.result.f) c.args.room.now c.args.at f A.new.room A.result A.ensures B.new.room B.result B.ensures)

pub put_line-requires : goal.put_line-requires
put_line-requires c =
    let X = c.entry_at-e in
    let A = c.put_number-a in
    let B = c.put_number-b in
    let D = c.put_cut-c in
    let n = part-long c.args.shape.k c.args.depth c.args.s X.result.f _ X.type_inv.1.1.0 c.requires.le_k.0.1 c.ranges.depth.fits c.ranges.s.fits in
    let f = line-ready c.args.shape.k c.args.depth c.args.s X.result.f _ X.type_inv.1.1.0 c.requires.le_k.0.1 c.ranges.depth.fits c.ranges.s.fits c.args.room.now c.args.at c.requires.at_in_bounds in
    (pairs-fit c.args.shape.k c.args.depth c.args.s (take c.args.shape.k X.result.f) c.args.room.now c.args.at f A.new.room A.result A.ensures B.new.room B.result B.ensures D.new.room D.result D.ensures, omega arith)

pub returns : goal.returns
returns c =
    let X = c.entry_at-e in
    let A = c.put_number-a in
    let B = c.put_number-b in
    let D = c.put_cut-c in
    let P = c.put_line in
    let h = line-short c.args.shape.k c.args.depth c.args.s X.result.f _ X.type_inv.1.1.0 c.requires.le_k.0.1 c.ranges.depth.fits c.ranges.s.fits in
    let f = line-ready c.args.shape.k c.args.depth c.args.s X.result.f _ X.type_inv.1.1.0 c.requires.le_k.0.1 c.ranges.depth.fits c.ranges.s.fits c.args.room.now c.args.at c.requires.at_in_bounds in
    entry-put-in c.args.shape.k c.args.keys.now c.args.s c.args.depth (take c.args.shape.k X.result.f) c.args.room.now P.new.out c.args.at P.result (read_back c.args.shape.k c.args.keys.now c.args.s X.result c.requires.le_k.1 X.ensures) h
    (entry-put c.args.shape.k c.args.depth c.args.s (take c.args.shape.k X.result.f) c.args.room.now c.args.at f A.new.room A.result A.ensures B.new.room B.result B.ensures D.new.room D.result D.ensures P.new.out P.result P.ensures)
