use Rattle.std.proofs.Common.{take, arith}
use Rattle.ask.proofs.Bests.{visited}
use Rattle.ask.proofs.near.visit.Goals as goal

pub returns : goal.returns
returns c =
    let A = c.args in
    let N = c.numbers in
    let some = c.requires.keyed.0.some in
    let d = rw (N.ensures.long, N.ensures.are) at c.distance_of-d.ensures in
    visited A.shape.k A.keys.now A.steps (take A.shape.k A.q.f) A.best A.s c.distance_of-d.result c.better.result (λ z. omega arith) d c.better.ensures
