use Rattle.book.proofs.Written.{strike-shut, strike-missing, strike-done}
use Rattle.book.proofs.strike.Goals as goal

pub returns-in-Err : goal.returns-in-Err
returns-in-Err c =
    let g = c.pool in
    let r = strike-shut c.args.head c.args.keys.now c.args.links.now c.args.scratch.now c.args.entry g.result g.ensures c.in-Err.why c.in-Err.is c.refused.result c.refused.ensures in
    record { answer = r.0; keys = r.1.0; links = r.1.1.0; scratch = r.1.1.1 }

pub returns-then-not-is_there : goal.returns-then-not-is_there
returns-then-not-is_there c =
    let g = c.pool in
    let r = strike-missing c.args.head c.args.keys.now c.args.links.now c.args.scratch.now c.args.entry g.result g.ensures c.in_default.is c.is_there.result c.is_there.ensures c.if-not-is_there.true c.refused-then-not-is_there.result c.refused-then-not-is_there.ensures in
    record { answer = r.0; keys = r.1.0; links = r.1.1.0; scratch = r.1.1.1 }

pub returns : goal.returns
returns c =
    let g = c.pool in
    let y = c.strike-after in
    let r = strike-done c.args.head c.args.keys.now c.args.links.now c.args.scratch.now c.args.entry g.result g.ensures c.in_default.is c.is_there.result c.is_there.ensures y.result y.new.keys y.new.links y.new.scratch c.plain.result c.plain.ensures y.ensures.scratch c.if-not-is_there.false y.ensures.pool in
    record { answer = r.0; keys = r.1.0; links = r.1.1.0; scratch = r.1.1.1 }
