use Rattle.weigh.proofs.Held.{few-of}
use Rattle.book.proofs.Written.{sound-pool, not_full, add-shut, add-present, add-full, add_done}
use Rattle.book.proofs.add.Goals as goal

pub returns-in-Err : goal.returns-in-Err
returns-in-Err c =
    let g = c.pool in
    let r = add-shut c.args.head c.args.keys.now c.args.links.now c.args.scratch.now c.args.entry g.result g.ensures c.in-Err.why c.in-Err.is c.refused.result c.refused.ensures in
    record { answer = r.0; keys = r.1.0; links = r.1.1.0; scratch = r.1.1.1 }

pub returns-then-is_there : goal.returns-then-is_there
returns-then-is_there c =
    let g = c.pool in
    let r = add-present c.args.head c.args.keys.now c.args.links.now c.args.scratch.now c.args.entry g.result g.ensures c.in_default.is c.is_there.result c.is_there.ensures c.if-is_there.true c.refused-then-is_there.result c.refused-then-is_there.ensures in
    record { answer = r.0; keys = r.1.0; links = r.1.1.0; scratch = r.1.1.1 }

pub returns-then-head : goal.returns-then-head
returns-then-head c =
    let g = c.pool in
    let r = add-full c.args.head c.args.keys.now c.args.links.now c.args.scratch.now c.args.entry g.result g.ensures c.in_default.is c.is_there.result c.is_there.ensures c.if-is_there.false c.if-head.true c.refused-then-head.result c.refused-then-head.ensures in
    record { answer = r.0; keys = r.1.0; links = r.1.1.0; scratch = r.1.1.1 }

pub add-after-requires-clause-sound : goal.add-after-requires-clause-sound
add-after-requires-clause-sound c = let g = c.pool in let p = sound-pool c.args.head c.args.keys.now c.args.links.now c.args.scratch.now g.result g.ensures c.in_default.is in let n = few-of c.args.head c.args.keys.now c.args.links.now p.good in (p, not_full c.args.head.n c.args.head.c n c.if-head.false)

pub returns : goal.returns
returns c =
    let g = c.pool in
    let y = c.add-after in
    let r = add_done c.args.head c.args.keys.now c.args.links.now c.args.scratch.now c.args.entry g.result g.ensures c.in_default.is c.is_there.result c.is_there.ensures y.result y.new.keys y.new.links y.new.scratch c.plain.result c.plain.ensures y.ensures.scratch c.if-is_there.false c.if-head.false y.ensures.pool in
    record { answer = r.0; keys = r.1.0; links = r.1.1.0; scratch = r.1.1.1 }
