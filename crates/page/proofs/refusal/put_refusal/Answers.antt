use Rattle.page.proofs.Short.{refusal-fits}
use Rattle.page.proofs.Lines.{line-fits, last_fits, refusal-put}
use Rattle.page.proofs.refusal.put_refusal.Goals as goal

pub put_number-b-requires : goal.put_number-b-requires
put_number-b-requires c =
    let N = c.from in
    let A = c.put_number-a in
    let f = refusal-fits c.args.why c.args.line c.args.room.now c.ranges.line.fits c.requires in
    line-fits c.args.why c.args.line N.result N.ensures c.args.room.now f A.new.room A.result A.ensures

pub bounds-room-b : goal.bounds-room-b
bounds-room-b c =
    let N = c.from in
    let A = c.put_number-a in
    let B = c.put_number-b in
    let f = refusal-fits c.args.why c.args.line c.args.room.now c.ranges.line.fits c.requires in
    last_fits c.args.why c.args.line N.result N.ensures c.args.room.now f A.new.room A.result A.ensures B.new.room B.result B.ensures

pub returns : goal.returns
returns c =
    let N = c.from in
    let A = c.put_number-a in
    let B = c.put_number-b in
    let f = refusal-fits c.args.why c.args.line c.args.room.now c.ranges.line.fits c.requires in
    refusal-put c.args.why c.args.line N.result N.ensures c.args.room.now f A.new.room A.result A.ensures B.new.room B.result B.ensures
