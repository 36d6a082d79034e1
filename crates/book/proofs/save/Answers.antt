use Rattle.book.proofs.Saves.{save-shut, save-done, save-short}
use Rattle.book.proofs.save.Goals as goal

pub returns-in-Err : goal.returns-in-Err
returns-in-Err c =
    let g = c.pool in
    let r = save-shut c.args.head c.args.keys.now c.args.links.now g.result g.ensures c.args.room.now c.in-Err.why c.in-Err.is c.refused.result c.refused.ensures in
    record { answer = r.0; page = r.1 }

pub returns-in-Some : goal.returns-in-Some
returns-in-Some c =
    let g = c.pool in
    let f = c.save in
    let r = save-done c.args.head c.args.keys.now c.args.links.now g.result g.ensures c.args.room.now c.in_default.is f.new.room f.result f.ensures c.in-Some.bytes c.in-Some.is c.wrote.result c.wrote.ensures in
    record { answer = r.0; page = r.1 }

pub returns-in-None : goal.returns-in-None
returns-in-None c =
    let g = c.pool in
    let f = c.save in
    let r = save-short c.args.head c.args.keys.now c.args.links.now g.result g.ensures c.args.room.now c.in_default.is f.new.room f.result f.ensures c.in-None.is c.refused-in-None.result c.refused-in-None.ensures in
    record { answer = r.0; page = r.1 }
