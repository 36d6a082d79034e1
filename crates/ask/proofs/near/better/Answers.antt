use Rattle.std.proofs.Common.{rules, inl, inr}
use Rattle.ask.proofs.Visits.{tie-stays, tie-yields, less_other, same-other}
use Rattle.ask.proofs.near.better.Goals as goal

pub returns-in-Greater : goal.returns-in-Greater
returns-in-Greater c =
    let A = c.args in
    let b = c.in-Some.b in
    rw c.in-Some.is (tie-yields A.shape.k A.keys.now b A.s A.d c.compare_slots.result (search rules) c.compare_slots.ensures c.in-Greater.is c.if-b-d.false)

pub returns-in-Less : goal.returns-in-Less
returns-in-Less c =
    let A = c.args in
    let b = c.in-Some.b in
    let o = c.compare_slots.result in
    rw c.in-Some.is (tie-stays A.shape.k A.keys.now b A.s A.d o (search rules) c.compare_slots.ensures (elim c.in-Less.is [ inl e ↦ less_other o e | inr e ↦ same-other o e ]) c.if-d-b.false)
