use mathlib.Core.Path.{◌≡◌, ◌∙◌}
use native.Mathlib.Omega.{arith}
use lib.ListN.{length, set, length-set}
use Rattle.build.proofs.Gathering as laws
use Rattle.build.proofs.gather.+gather.Goals as goal

pub left_of-l-requires : goal.left_of-l-requires
left_of-l-requires t c =
    (laws.top c.args.links.now c.args.s c.args.at (length c.args.slots.now) c.requires.fitting c.if-s-eq0.false).slot

pub gather-m-requires : goal.gather-m-requires
gather-m-requires t c =
    let l = c.left_of-l in
    let ne = c.if-s-eq0.false in
    (rw (← c.decreases) (laws.left-falls c.args.links.now c.args.s c.args.at (length c.args.slots.now) c.requires.fitting ne l.result l.ensures), (c.requires.at_in_bounds, laws.left-fits c.args.links.now c.args.s c.args.at (length c.args.slots.now) c.requires.fitting ne l.result l.ensures))

pub offset_bounds-slots-m : goal.offset_bounds-slots-m
offset_bounds-slots-m t c =
    let k = laws.in-room c.args.links.now c.args.s c.args.at (length c.args.slots.now) c.requires.fitting c.if-s-eq0.false c.args.slots.now c.gather-m.new.slots c.left_of-l.result c.gather-m.result c.left_of-l.ensures c.gather-m.ensures c.requires.at_in_bounds in
    omega arith

pub bounds-slots-m : goal.bounds-slots-m
bounds-slots-m t c =
    let k = laws.in-room c.args.links.now c.args.s c.args.at (length c.args.slots.now) c.requires.fitting c.if-s-eq0.false c.args.slots.now c.gather-m.new.slots c.left_of-l.result c.gather-m.result c.left_of-l.ensures c.gather-m.ensures c.requires.at_in_bounds in rw c.gather-m.auto.slots k

pub right_of-r-requires : goal.right_of-r-requires
right_of-r-requires t c =
    (laws.top c.args.links.now c.args.s c.args.at (length c.args.slots.now) c.requires.fitting c.if-s-eq0.false).slot

pub overflow_add-m : goal.overflow_add-m
overflow_add-m t c =
    let k = laws.in-room c.args.links.now c.args.s c.args.at (length c.args.slots.now) c.requires.fitting c.if-s-eq0.false c.args.slots.now c.gather-m.new.slots c.left_of-l.result c.gather-m.result c.left_of-l.ensures c.gather-m.ensures c.requires.at_in_bounds in
    omega arith

pub gather-requires : goal.gather-requires
gather-requires t c =
    let r = c.right_of-r in
    let k = laws.in-room c.args.links.now c.args.s c.args.at (length c.args.slots.now) c.requires.fitting c.if-s-eq0.false c.args.slots.now c.gather-m.new.slots c.left_of-l.result c.gather-m.result c.left_of-l.ensures c.gather-m.ensures c.requires.at_in_bounds in
    let e : length (set c.gather-m.new.slots c.gather-m.result c.args.s) ≡ length c.args.slots.now = length-set c.gather-m.new.slots c.gather-m.result c.args.s ∙ c.gather-m.auto.slots in
    (rw (← c.decreases) (laws.right-falls c.args.links.now c.args.s c.args.at (length c.args.slots.now) c.requires.fitting c.if-s-eq0.false r.result r.ensures), (rw e (omega arith), rw e (laws.right-fits c.args.links.now c.args.s c.args.at (length c.args.slots.now) c.requires.fitting c.if-s-eq0.false c.args.slots.now c.gather-m.new.slots c.left_of-l.result c.gather-m.result c.left_of-l.ensures c.gather-m.ensures c.requires.at_in_bounds r.result r.ensures)))

pub returns-then-s-eq0 : goal.returns-then-s-eq0
returns-then-s-eq0 t c =
    laws.gathered-nil c.args.links.now c.args.slots.now c.args.s c.args.at c.requires.at_in_bounds c.if-s-eq0.true

pub returns-else-s-eq0 : goal.returns-else-s-eq0
returns-else-s-eq0 t c =
    laws.gathered-node c.args.links.now c.args.slots.now c.gather-m.new.slots c.gather.new.slots c.args.s c.args.at c.gather-m.result c.gather.result c.left_of-l.result c.right_of-r.result c.requires.at_in_bounds c.requires.fitting c.if-s-eq0.false c.gather-m.auto.slots c.left_of-l.ensures c.gather-m.ensures c.right_of-r.ensures c.gather.ensures
