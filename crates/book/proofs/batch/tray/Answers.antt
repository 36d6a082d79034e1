use Rattle.book.proofs.Trays.{tray-shut, tray-wrong, tray-done}
use Rattle.book.proofs.batch.tray.Goals as goal

pub returns-in-Err : goal.returns-in-Err
returns-in-Err c =
    let g = c.tray in
    let r = tray-shut c.args.head c.args.keys.now c.args.links.now c.args.scratch.now c.args.items.now g.result g.ensures c.in-Err.why c.in-Err.is c.refused.result c.refused.ensures in
    record { answer = r.0; keys = r.1.0; links = r.1.1.0; scratch = r.1.1.1 }

pub returns-in-Some : goal.returns-in-Some
returns-in-Some c =
    let g = c.tray in
    let o = c.in_default.is in
    let w = c.first_wrong in
    let r = tray-wrong c.args.head c.args.keys.now c.args.links.now c.args.scratch.now c.args.items.now g.result g.ensures o w.result w.ensures c.in-Some.place c.in-Some.why c.in-Some.is c.refused_at.result c.refused_at.ensures in
    record { answer = r.0; keys = r.1.0; links = r.1.1.0; scratch = r.1.1.1 }

pub returns : goal.returns
returns c =
    let g = c.tray in
    let o = c.in_default.is in
    let w = c.first_wrong in
    let q = c.in_default-first_wrong.is in
    let y = c.work-after in
    let r = tray-done c.args.head c.args.keys.now c.args.links.now c.args.scratch.now c.args.items.now g.result g.ensures o w.result w.ensures q y.result y.new.keys y.new.links y.new.scratch c.plain.result c.plain.ensures y.ensures.scratch y.ensures.pool in
    record { answer = r.0; keys = r.1.0; links = r.1.1.0; scratch = r.1.1.1 }
