use Rattle.std.proofs.Common.{◌≡◌, suc, SFits, w64, inl, inr, arith, rules}
use Rattle.std.specs.Slice.Iter.{iter_rest}
use Rattle.std.proofs.lemmas.Int.{to_z-of_z}
use Rattle.model.specs.Entry.{distance}
use Rattle.gauge.proofs.Boxes.{dist-cons, dist-front, no-step, no-field, no-number}
use Rattle.gauge.proofs.distance.distance_of.Goals as goal

pub loop-step-preserved : goal.loop-step-preserved
loop-step-preserved c =
    let h = c.in-Some in
    let e = h.ensures.steps in
    let t = c.next.new.self in
    let fx : SFits w64 h.x.now = search rules in
    let fy : SFits w64 h.y.now = search rules in
    let d = simp to_z-of_z at c.field_distance.ensures in
    let far = rw (e.0.0, e.0.1, e.1, dist-cons h.step.now (iter_rest t.a.a) h.x.now (iter_rest t.a.b) h.y.now (iter_rest t.b), ← d) at c.loop-step.invariant.far in
    let steps = rw (e.0.0, e.1) at c.loop-step.invariant.by_index in
    record { far = grind arith; by_index = λ i l. steps (suc i) (omega arith) }

pub returns : goal.returns
returns c =
    let s = c.loop-step.step-iterator in
    let a = iter_rest s.a.a in
    let b = iter_rest s.a.b in
    let p = iter_rest s.b in
    let front = dist-front c.args.steps c.args.q.f c.args.part.now in
    let far = c.loop-step.invariant.far in
    let end : distance a b p ≡ 0 = elim c.in-None.ensures.steps [ inl e ↦ elim e.1 [ inl z ↦ no-step a b p z.1.0 | inr z ↦ no-field a b p z.1.0 ] | inr e ↦ no-number a b p e.1.0 ] in
    omega arith
