use Rattle.std.proofs.Common.{SFits, w64, sym, ◌∙◌, inl, inr, rules}
use Rattle.std.specs.Slice.Iter.{iter_rest}
use Rattle.std.proofs.lemmas.Int.{to_z-of_z}
use Rattle.gauge.proofs.Boxes.{box-cons, no-bound, no-more}
use Rattle.gauge.proofs.bounds.inside.Goals as goal

pub loop-b-preserved : goal.loop-b-preserved
loop-b-preserved c =
    let h = c.in-Some in
    let t = c.next.new.self in
    let fits : SFits w64 h.x.now = search rules in
    let d = simp to_z-of_z at c.within.ensures in
    rw (h.ensures.steps.0, h.ensures.steps.1, box-cons h.b.now (iter_rest t.a) h.x.now (iter_rest t.b), ← d, c.if-not-within.false) at c.loop-b.invariant

pub returns-then-not-within : goal.returns-then-not-within
returns-then-not-within c =
    let h = c.in-Some in
    let t = c.next.new.self in
    let fits : SFits w64 h.x.now = search rules in
    let d = simp to_z-of_z at c.within.ensures in
    sym (rw (h.ensures.steps.0, h.ensures.steps.1, box-cons h.b.now (iter_rest t.a) h.x.now (iter_rest t.b), ← d, c.if-not-within.true) at c.loop-b.invariant)

pub returns : goal.returns
returns c =
    let s = c.loop-b.b-iterator in
    sym (c.loop-b.invariant ∙ elim c.in-None.ensures.steps [ inl e ↦ no-bound (iter_rest s.a) (iter_rest s.b) e.1.0 | inr e ↦ no-more (iter_rest s.a) (iter_rest s.b) e.1.0 ])
