use mathlib.Core.Path.{◌≡◌}
use lib.ListN.{length}
use Rattle.ask.proofs.Collects as laws
use Rattle.ask.proofs.Standing as standing
use borrow.Author.Rules.{rules}
use Rattle.ask.proofs.boxes.+collect.Goals as goal
use Rattle.ask.proofs.boxes.+collect.Goals.{then-w, else-w}

pub returns-then-s-eq0 : goal.returns-then-s-eq0
returns-then-s-eq0 t c =
    let P = c.args.pool.now in
    laws.collected-nil P.shape.k P.keys.now P.links.now c.args.s c.args.cut c.args.bounds c.args.slots.now c.args.at c.if-s-eq0.true

pub weigh_slot-w-requires-clause-cut_lt_k : goal.weigh_slot-w-requires-clause-cut_lt_k
weigh_slot-w-requires-clause-cut_lt_k t c =
    let P = c.args.pool.now in
    (c.requires.cut_lt_k, (P.room.k_high, standing.low-here P.shape P.keys.now P.links.now c.args.s c.args.cut _ P.room c.if-s-eq0.false c.requires.at_in_bounds.1))

pub weigh_slot-w-requires-clause-keyed : goal.weigh_slot-w-requires-clause-keyed
weigh_slot-w-requires-clause-keyed t c =
    let P = c.args.pool.now in
    standing.keyed-here P.shape P.keys.now P.links.now c.args.s c.args.cut _ P.room c.if-s-eq0.false c.requires.at_in_bounds.1

pub left_of-l-requires : goal.left_of-l-requires
left_of-l-requires t c =
    let P = c.args.pool.now in
    standing.slot-here P.shape P.keys.now P.links.now c.args.s c.args.cut _ P.room c.if-s-eq0.false c.requires.at_in_bounds.1

pub collect-m-requires : goal.collect-m-requires
collect-m-requires t c =
    let P = c.args.pool.now in
    let ne = c.if-s-eq0.false in
    let l = c.left_of-l in
    let d = c.next_cut-next in
    let g = c.requires.at_in_bounds.1 in
    (rw (← c.decreases, l.ensures) (standing.left-falls P.shape.k P.keys.now P.links.now c.args.s c.args.cut ne g.tree g.stands), (d.ensures.low, (c.requires.at_in_bounds.0, rw l.ensures (standing.standing-left P.shape P.keys.now P.links.now c.args.s c.args.cut _ P.room ne g d.result d.ensures))))

pub note-n-requires : goal.note-n-requires
note-n-requires t c =
    let P = c.args.pool.now in
    let four : length c.args.bounds ≡ 4 = search rules in
    let low : laws.Lower P.shape.k P.keys.now P.links.now c.args.s c.args.cut c.args.bounds c.if-s-eq0.false c.args.slots.now c.if-w.slots c.args.at c.if-w.m =
    elim c.if-w.branch [ then-w w ↦ rw (w.slots-is, w.m-is) (search laws.lower-taken) | else-w w ↦ rw (w.slots-is, w.m-is) (search laws.lower-skipped) ] in
    search (laws.note-fits, rules)

pub right_of-r-requires : goal.right_of-r-requires
right_of-r-requires t c = search (standing.slot-here, rules)

pub collect-requires : goal.collect-requires
collect-requires t c =
    let P = c.args.pool.now in
    let four : length c.args.bounds ≡ 4 = search rules in
    let low : laws.Lower P.shape.k P.keys.now P.links.now c.args.s c.args.cut c.args.bounds c.if-s-eq0.false c.args.slots.now c.if-w.slots c.args.at c.if-w.m =
    elim c.if-w.branch [ then-w w ↦ rw (w.slots-is, w.m-is) (search laws.lower-taken) | else-w w ↦ rw (w.slots-is, w.m-is) (search laws.lower-skipped) ] in
    let g = c.requires.at_in_bounds.1 in
    (rw (← c.decreases, c.right_of-r.ensures) (search standing.right-falls), (c.next_cut-next.ensures.low, (search (laws.upper_fits, rules), search (laws.upper-stands, rules))))

pub returns-then-w-2 : goal.returns-then-w-2
returns-then-w-2 t c =
    let P = c.args.pool.now in
    let four : length c.args.bounds ≡ 4 = search rules in
    let low : laws.Lower P.shape.k P.keys.now P.links.now c.args.s c.args.cut c.args.bounds c.if-s-eq0.false c.args.slots.now c.if-w.slots c.args.at c.if-w.m =
    elim c.if-w.branch [ then-w w ↦ rw (w.slots-is, w.m-is) (search laws.lower-taken) | else-w w ↦ rw (w.slots-is, w.m-is) (search laws.lower-skipped) ] in
    search (laws.collected-node, laws.upper-taken)

pub returns : goal.returns
returns t c =
    let P = c.args.pool.now in
    let four : length c.args.bounds ≡ 4 = search rules in
    let low : laws.Lower P.shape.k P.keys.now P.links.now c.args.s c.args.cut c.args.bounds c.if-s-eq0.false c.args.slots.now c.if-w.slots c.args.at c.if-w.m =
    elim c.if-w.branch [ then-w w ↦ rw (w.slots-is, w.m-is) (search laws.lower-taken) | else-w w ↦ rw (w.slots-is, w.m-is) (search laws.lower-skipped) ] in
    search (laws.collected-node, laws.upper-skipped)
