use Rattle.page.proofs.Lines.{entries_fit, height-fits, free-fits, end_fits, totals-put}
use Rattle.page.proofs.pool.put_totals.Goals as goal

pub put_number-a-requires : goal.put_number-a-requires
put_number-a-requires c = entries_fit c.args.entries c.args.height c.args.free c.args.room.now c.requires

pub put_number-b-requires : goal.put_number-b-requires
put_number-b-requires c =
    let A = c.put_number-a in
    height-fits c.args.entries c.args.height c.args.free c.args.room.now c.requires A.new.room A.result A.ensures

pub put_number-c-requires : goal.put_number-c-requires
put_number-c-requires c =
    let A = c.put_number-a in
    let B = c.put_number-b in
    free-fits c.args.entries c.args.height c.args.free c.args.room.now c.requires A.new.room A.result A.ensures B.new.room B.result B.ensures

pub bounds-room-c : goal.bounds-room-c
bounds-room-c c =
    let A = c.put_number-a in
    let B = c.put_number-b in
    let D = c.put_number-c in
    end_fits c.args.entries c.args.height c.args.free c.args.room.now c.requires A.new.room A.result A.ensures B.new.room B.result B.ensures D.new.room D.result D.ensures

pub returns : goal.returns
returns c =
    let A = c.put_number-a in
    let B = c.put_number-b in
    let D = c.put_number-c in
    totals-put c.args.entries c.args.height c.args.free c.args.room.now c.requires A.new.room A.result A.ensures B.new.room B.result B.ensures D.new.room D.result D.ensures
