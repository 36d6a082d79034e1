use Rattle.book.proofs.Lists.{list-shut, list_done, list-short}
use Rattle.book.proofs.list.Goals as goal

pub returns-in-Err : goal.returns-in-Err
returns-in-Err c =
    let g = c.pool in
    let r = list-shut c.args.head c.args.keys.now c.args.links.now g.result g.ensures c.args.bounds c.args.room.now c.in-Err.why c.in-Err.is c.refused.result c.refused.ensures in
    record { answer = r.0; room = r.1 }

pub returns-in-Ok : goal.returns-in-Ok
returns-in-Ok c =
    let g = c.pool in
    let f = c.list in
    let r = list_done c.args.head c.args.keys.now c.args.links.now g.result g.ensures c.args.bounds c.args.room.now c.in_default.is f.new.room f.result f.ensures c.in-Ok.count c.in-Ok.is c.counted.result c.counted.ensures in
    record { answer = r.0; room = r.1 }

pub returns-in-Err-list : goal.returns-in-Err-list
returns-in-Err-list c =
    let g = c.pool in
    let f = c.list in
    let r = list-short c.args.head c.args.keys.now c.args.links.now g.result g.ensures c.args.bounds c.args.room.now c.in_default.is f.new.room f.result f.ensures c.in-Err-list.field-0 c.in-Err-list.is c.refused-in-Err-list.result c.refused-in-Err-list.ensures in
    record { answer = r.0; room = r.1 }
