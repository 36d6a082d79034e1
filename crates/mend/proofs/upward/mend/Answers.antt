use mathlib.Core.Path.{refl, sym, ◌∙◌}
use Prim.Native.Nat.{◌-◌}
use native.Mathlib.Omega.{arith}
use lib.ListN.{length}
use lib.Seq.{length_front}
use Rattle.mend.proofs.Heights as heights
use Rattle.mend.proofs.Mending as laws
use Rattle.mend.proofs.upward.mend.Goals as goal

pub height_of-requires : goal.height_of-requires
height_of-requires c =
    laws.left-bound c.requires.room.0 c.requires.mendable

pub height_of-requires-2 : goal.height_of-requires-2
height_of-requires-2 c =
    laws.right-bound c.requires.room.0 c.requires.mendable

pub refresh-requires-clause-slot : goal.refresh-requires-clause-slot
refresh-requires-clause-slot c =
    (c.requires.mendable.here, (laws.left-bound c.requires.room.0 c.requires.mendable, laws.right-bound c.requires.room.0 c.requires.mendable))

pub refresh-requires-clause-r_bound : goal.refresh-requires-clause-r_bound
refresh-requires-clause-r_bound c =
    laws.sum_fits c.requires.room.0 c.requires.mendable

pub returns-then-even-clause-tree : goal.returns-then-even-clause-tree
returns-then-even-clause-tree c =
    laws.mended-even c.requires.room.0 c.requires.mendable c.refresh.auto.links c.refresh.ensures c.args.cut (heights.even-told c.height_of.ensures c.height_of-2.ensures c.is_even-even.ensures c.if-even.true)

pub three_at-requires : goal.three_at-requires
three_at-requires c =
    let R = c.refresh in
    (rw R.auto.links c.requires.mendable.here, laws.lying c.requires.room.0 c.requires.mendable R.auto.links R.ensures)

pub rebuild_three-requires-clause-chosen : goal.rebuild_three-requires-clause-chosen
rebuild_three-requires-clause-chosen c =
    laws.three-chosen c.requires.room.0 c.requires.mendable c.refresh.auto.links c.refresh.ensures c.in-Some.ensures

pub returns-in-Some-clause-tree : goal.returns-in-Some-clause-tree
returns-in-Some-clause-tree c =
    let R = c.refresh in
    let all = laws.three-all c.requires.room.0 c.requires.mendable R.auto.links R.ensures c.in-Some.ensures in
    laws.mended-rebuilt c.requires.room.0 c.requires.mendable R.auto.links R.ensures all (heights.even-told c.height_of.ensures c.height_of-2.ensures c.is_even-even.ensures c.if-even.false) c.rebuild_three.ensures

pub gather-n-requires-clause-fitting : goal.gather-n-requires-clause-fitting
gather-n-requires-clause-fitting c =
    let R = c.refresh in
    let q = laws.scratch-long c.requires.lists.scratch in
    laws.fitting c.requires.room.0 c.requires.mendable R.auto.links R.ensures (length c.args.lists.now.scratch.now - 0) (omega arith)

pub slice_bounds-slots-end : goal.slice_bounds-slots-end
slice_bounds-slots-end c =
    let R = c.refresh in
    let G = c.gather-n in
    laws.fits-scratch c.requires.room.0 c.requires.mendable R.auto.links R.ensures (laws.scratch-long c.requires.lists.scratch) G.ensures

pub slice_bounds-slots-end-2 : goal.slice_bounds-slots-end-2
slice_bounds-slots-end-2 c =
    let R = c.refresh in
    let G = c.gather-n in
    sym (laws.front-long c.requires.room.0 c.requires.mendable R.auto.links R.ensures (laws.scratch-long c.requires.lists.scratch) G.ensures)

pub slice_bounds-rebuild-end : goal.slice_bounds-rebuild-end
slice_bounds-rebuild-end c =
    let R = c.refresh in
    let G = c.gather-n in
    rw c.requires.lists.spare (laws.in-scratch c.requires.room.0 c.requires.mendable R.auto.links R.ensures (laws.scratch-long c.requires.lists.scratch) G.ensures)

pub slice_bounds-rebuild-end-2 : goal.slice_bounds-rebuild-end-2
slice_bounds-rebuild-end-2 c =
    let R = c.refresh in
    let G = c.gather-n in
    sym (laws.spare-front c.requires.room.0 c.requires.mendable R.auto.links R.ensures (laws.scratch-long c.requires.lists.scratch) G.ensures c.args.lists.now.spare.now c.requires.lists.spare)

pub rebuild-root-requires-clause-chosen : goal.rebuild-root-requires-clause-chosen
rebuild-root-requires-clause-chosen c =
    let R = c.refresh in
    let G = c.gather-n in
    let q = laws.scratch-long c.requires.lists.scratch in (
      laws.chosen-front c.requires.room.0 c.requires.mendable R.auto.links R.ensures q G.ensures,
      laws.spare-front c.requires.room.0 c.requires.mendable R.auto.links R.ensures q G.ensures c.args.lists.now.spare.now c.requires.lists.spare ∙ sym (laws.front-long c.requires.room.0 c.requires.mendable R.auto.links R.ensures q G.ensures),
    )

pub returns-clause-tree : goal.returns-clause-tree
returns-clause-tree c =
    let R = c.refresh in
    let G = c.gather-n in
    let all = laws.front c.requires.room.0 c.requires.mendable R.auto.links R.ensures (laws.scratch-long c.requires.lists.scratch) G.ensures in
    laws.mended-rebuilt c.requires.room.0 c.requires.mendable R.auto.links R.ensures all (heights.even-told c.height_of.ensures c.height_of-2.ensures c.is_even-even.ensures c.if-even.false) c.rebuild-root.ensures

pub returns-clause-lists : goal.returns-clause-lists
returns-clause-lists c =
    let R = c.refresh in
    let G = c.gather-n in
    let B = c.rebuild-root in
    let q = laws.scratch-long c.requires.lists.scratch in
    record {
      blank = record {
        scratch = laws.scratch-clear c.requires.room.0 c.requires.mendable R.auto.links R.ensures q G.ensures B.new.slots c.fill.new.self c.requires.lists.scratch B.auto.slots (c.fill.ensures.after (λ y e. e));
        spare = length_front c.args.lists.now.spare.now B.new.spare c.gather-n.result B.auto.spare ∙ c.requires.lists.spare;
      };
      scratch = refl;
      spare = refl;
    }
