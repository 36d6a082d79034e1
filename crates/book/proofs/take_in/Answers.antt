use Rattle.book.proofs.TakesIn.{take-shut, take-broken, take-mismatch, take-full, take_done}
use Rattle.book.proofs.take_in.Goals as goal

pub returns-in-Err : goal.returns-in-Err
returns-in-Err c =
    let g = c.pool in
    let r = take-shut c.args.head c.args.keys.now c.args.links.now c.args.scratch.now c.args.text.now g.result g.ensures c.in-Err.why c.in-Err.is c.refused.result c.refused.ensures in
    record { answer = r.0; keys = r.1.0; links = r.1.1.0; scratch = r.1.1.1 }

pub returns-then-fields-head : goal.returns-then-fields-head
returns-then-fields-head c =
    let g = c.pool in
    let o = c.in_default.is in
    let t = c.take_apart in
    let r = take-mismatch c.args.head c.args.keys.now c.args.links.now c.args.scratch.now c.args.text.now g.result g.ensures o t.result t.ensures _ c.in-Ok.is c.if-fields-head.true c.refused-then-fields-head.result c.refused-then-fields-head.ensures in
    record { answer = r.0; keys = r.1.0; links = r.1.1.0; scratch = r.1.1.1 }

pub returns-then-too_many : goal.returns-then-too_many
returns-then-too_many c =
    let g = c.pool in
    let o = c.in_default.is in
    let t = c.take_apart in
    let e = c.if-fields-head.false in
    let m = c.too_many in
    let r = take-full c.args.head c.args.keys.now c.args.links.now c.args.scratch.now c.args.text.now g.result g.ensures o t.result t.ensures _ c.in-Ok.is e m.result m.ensures c.if-too_many.true c.refused-then-too_many.result c.refused-then-too_many.ensures in
    record { answer = r.0; keys = r.1.0; links = r.1.1.0; scratch = r.1.1.1 }

pub returns-in-Err-take_apart : goal.returns-in-Err-take_apart
returns-in-Err-take_apart c =
    let g = c.pool in
    let o = c.in_default.is in
    let t = c.take_apart in
    let r = take-broken c.args.head c.args.keys.now c.args.links.now c.args.scratch.now c.args.text.now g.result g.ensures o t.result t.ensures _ c.in-Err-take_apart.is c.broken.result c.broken.ensures in
    record { answer = r.0; keys = r.1.0; links = r.1.1.0; scratch = r.1.1.1 }

pub returns-else-too_many : goal.returns-else-too_many
returns-else-too_many c =
    let g = c.pool in
    let o = c.in_default.is in
    let t = c.take_apart in
    let e = c.if-fields-head.false in
    let m = c.too_many in
    let y = c.take_in-after in
    let r = take_done c.args.head c.args.keys.now c.args.links.now c.args.scratch.now c.args.text.now g.result g.ensures o t.result t.ensures _ c.in-Ok.is e m.result m.ensures c.if-too_many.false y.result y.new.keys y.new.links y.new.scratch c.plain.result c.plain.ensures y.ensures.scratch y.ensures.pool in
    record { answer = r.0; keys = r.1.0; links = r.1.1.0; scratch = r.1.1.1 }
