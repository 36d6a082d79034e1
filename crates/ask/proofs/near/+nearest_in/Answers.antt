use borrow.Author.Rules.{rules}
use borrow.Author.Tests.{tests}
use mathlib.Core.Path.{◌≡◌}
use Prim.Native.Nat.{◌≤◌}
use native.Mathlib.Omega.{arith}
use lib.ListN.{length, take}
use lib.Seq.{length-take-le}
use Rattle.ask.proofs.Nears.{nearer-by, searched-nil, searched-near, searched-both, near-falls, far-falls, near-stands, far-stands}
use Rattle.ask.proofs.Standing.{slot-here, keyed-here, low-here, pooled}
use Rattle.ask.proofs.Visits.{pool-kept, pool-tabled}
use Rattle.ask.proofs.near.+nearest_in.Goals as goal

pub returns-then-s-eq0 : goal.returns-then-s-eq0
returns-then-s-eq0 t c =
    let A = c.args in
    let Q = A.query.now in
    let P = Q.pool in
    searched-nil P.shape P.keys.now P.links.now Q.steps (take P.shape.k Q.numbers) A.s A.cut A.best c.requires.here.1 c.if-s-eq0.true

pub visit-here-requires-clause-le_k : goal.visit-here-requires-clause-le_k
visit-here-requires-clause-le_k t c =
    let A = c.args in
    let P = A.query.now.pool in
    (P.room.k_low, (P.room.k_high, low-here P.shape P.keys.now P.links.now A.s A.cut P.shape.c P.room c.if-s-eq0.false c.requires.standing))

pub visit-here-requires-clause-keyed : goal.visit-here-requires-clause-keyed
visit-here-requires-clause-keyed t c =
    let A = c.args in
    let P = A.query.now.pool in
    (keyed-here P.shape P.keys.now P.links.now A.s A.cut P.shape.c P.room c.if-s-eq0.false c.requires.standing, pool-tabled P.shape (length P.keys.now) (length P.links.now) P.room A.best c.requires.here.1)

pub turn_at-turn-requires-clause-cut_lt_k : goal.turn_at-turn-requires-clause-cut_lt_k
turn_at-turn-requires-clause-cut_lt_k t c =
    let A = c.args in
    let P = A.query.now.pool in
    (c.requires.here.0, (P.room.k_high, low-here P.shape P.keys.now P.links.now A.s A.cut P.shape.c P.room c.if-s-eq0.false c.requires.standing))

pub turn_at-turn-requires-clause-keyed : goal.turn_at-turn-requires-clause-keyed
turn_at-turn-requires-clause-keyed t c =
    let A = c.args in
    let P = A.query.now.pool in
    let ne = c.if-s-eq0.false in
    (keyed-here P.shape P.keys.now P.links.now A.s A.cut P.shape.c P.room ne c.requires.standing, slot-here P.shape P.keys.now P.links.now A.s A.cut P.shape.c P.room ne c.requires.standing)

pub nearest_in-after-requires : goal.nearest_in-after-requires
nearest_in-after-requires t c =
    let A = c.args in
    let Q = A.query.now in
    let P = Q.pool in
    let ne = c.if-s-eq0.false in
    (rw (← c.decreases) (near-falls P.shape P.keys.now P.links.now Q.steps (take P.shape.k Q.numbers) A.s A.cut c.next_cut-next.result c.turn_at-turn.result P.room c.requires.here.0 ne c.turn_at-turn.ensures c.next_cut-next.ensures P.shape.c c.requires.standing), ((c.next_cut-next.ensures.low, pool-kept P.shape.c A.best c.visit-here.result A.s c.requires.here.1 (omega arith) (pooled P.shape P.keys.now P.links.now A.s A.cut P.shape.c P.room ne c.requires.standing) c.visit-here.ensures.which), near-stands P.shape P.keys.now P.links.now Q.steps (take P.shape.k Q.numbers) A.s A.cut c.next_cut-next.result c.turn_at-turn.result P.room c.requires.here.0 ne c.turn_at-turn.ensures c.next_cut-next.ensures P.shape.c c.requires.standing))

pub nearest_in-requires : goal.nearest_in-requires
nearest_in-requires t c =
    let A = c.args in
    let Q = A.query.now in
    let P = Q.pool in
    let ne = c.if-s-eq0.false in
    (rw (← c.decreases) (far-falls P.shape P.keys.now P.links.now Q.steps (take P.shape.k Q.numbers) A.s A.cut c.next_cut-next.result c.turn_at-turn.result P.room c.requires.here.0 ne c.turn_at-turn.ensures c.next_cut-next.ensures P.shape.c c.requires.standing), ((c.next_cut-next.ensures.low, c.nearest_in-after.ensures.pooled), far-stands P.shape P.keys.now P.links.now Q.steps (take P.shape.k Q.numbers) A.s A.cut c.next_cut-next.result c.turn_at-turn.result P.room c.requires.here.0 ne c.turn_at-turn.ensures c.next_cut-next.ensures P.shape.c c.requires.standing))

pub returns-then-is_some_and : goal.returns-then-is_some_and
returns-then-is_some_and t c =
    let A = c.args in
    let Q = A.query.now in
    let P = Q.pool in
    let ne = c.if-s-eq0.false in
    let k : P.shape.k ≤ 4 = P.room.k_high in
    let n : (length Q.steps ≡ 4) × (length Q.numbers ≡ 4) = (search rules, search rules) in
    let four : P.shape.k ≤ length Q.steps = omega arith in
    searched-near P.shape P.keys.now P.links.now Q.steps (take P.shape.k Q.numbers) A.s A.cut c.next_cut-next.result c.turn_at-turn.result P.room c.requires.here.0 ne c.turn_at-turn.ensures c.next_cut-next.ensures four (length-take-le P.shape.k Q.numbers (omega arith)) (Q.stepped A.cut c.requires.here.0) (keyed-here P.shape P.keys.now P.links.now A.s A.cut P.shape.c P.room ne c.requires.standing) A.best c.visit-here.result c.nearest_in-after.result c.visit-here.ensures c.nearest_in-after.ensures (nearer-by _ _ _ (λ x h. search (rules, tests)) c.if-is_some_and.ensures)

pub returns-else-is_some_and : goal.returns-else-is_some_and
returns-else-is_some_and t c =
    let A = c.args in
    let Q = A.query.now in
    let P = Q.pool in
    let ne = c.if-s-eq0.false in
    let k : P.shape.k ≤ 4 = P.room.k_high in
    let n : (length Q.steps ≡ 4) × (length Q.numbers ≡ 4) = (search rules, search rules) in
    let four : P.shape.k ≤ length Q.steps = omega arith in
    searched-both P.shape P.keys.now P.links.now Q.steps (take P.shape.k Q.numbers) A.s A.cut c.next_cut-next.result c.turn_at-turn.result P.room c.requires.here.0 ne c.turn_at-turn.ensures c.next_cut-next.ensures four (length-take-le P.shape.k Q.numbers (omega arith)) (Q.stepped A.cut c.requires.here.0) (keyed-here P.shape P.keys.now P.links.now A.s A.cut P.shape.c P.room ne c.requires.standing) A.best c.visit-here.result c.nearest_in-after.result c.visit-here.ensures c.nearest_in-after.ensures c.nearest_in.result c.nearest_in.ensures
