use Rattle.cells.proofs.Reps.{open-node}
use Rattle.alter.proofs.Inserting as laws
use Rattle.alter.proofs.insert.+insert_insert_on.Goals as goal
use Rattle.alter.proofs.insert.+insert_insert_on.Goals.{insert-in-Less, insert-in-Greater}

pub insert-returns-then-s-eq0-clause-tree : goal.insert-returns-then-s-eq0-clause-tree
insert-returns-then-s-eq0-clause-tree t c =
    laws.inserted-nil c.if-s-eq0.true c.requires.insertable

pub insert-returns-in-Equal-clause-tree : goal.insert-returns-in-Equal-clause-tree
insert-returns-in-Equal-clause-tree t c = laws.inserted-equal c.if-s-eq0.false c.compare_slots.ensures c.in-Equal.is

pub insert-returns-clause-tree : goal.insert-returns-clause-tree
insert-returns-clause-tree t c =
    let done = c.insert_on.ensures.tree in
    elim c.match-compare_slots.branch [
      | insert-in-Less w ↦ laws.inserted-less c.if-s-eq0.false c.compare_slots.ensures w.in-Less.is (rw w.side-is at done)
      | insert-in-Greater w ↦ laws.inserted-greater c.if-s-eq0.false c.compare_slots.ensures w.in-Greater.is (rw w.side-is at done)
    ]

pub insert_on-child_of-child-requires : goal.insert_on-child_of-child-requires
insert_on-child_of-child-requires t c =
    laws.slot-here c.args.side c.requires.room.1.0 c.requires.insertable c.requires.room.1.1

pub insert_on-insert-grown-requires : goal.insert_on-insert-grown-requires
insert_on-insert-grown-requires t c =
    let N = c.next_cut-next in
    let H = c.child_of-child in
    (rw (← c.decreases) (laws.child-falls c.args.side c.requires.room.1.0 c.requires.insertable c.requires.room.1.1 H.ensures), ((c.requires.room.0, N.ensures.low), (laws.child-insertable c.args.side c.requires.room.1.0 c.requires.insertable c.requires.room.1.1 H.ensures, c.requires.lists)))

pub insert_on-returns-clause-tree : goal.insert_on-returns-clause-tree
insert_on-returns-clause-tree t c =
    let N = c.next_cut-next in
    let H = c.child_of-child in
    let I = c.insert-grown in
    let M = c.mend_on in
    laws.inserted-on c.args.side c.requires.room.1.0 c.requires.insertable c.requires.room.1.1 N.ensures H.ensures I.auto.links I.ensures.tree M.ensures.tree

pub insert-compare_slots-requires-clause-cut_lt_k : goal.insert-compare_slots-requires-clause-cut_lt_k
insert-compare_slots-requires-clause-cut_lt_k t c =
    let room = c.requires.room.0 in
    let a = laws.table-slot room c.requires.insertable.leaf.1 in
    let b = laws.table-slot room (open-node c.args.shape.k c.args.keys.now c.args.links.now c.args.s c.requires.insertable.tree c.requires.insertable.rep c.if-s-eq0.false).slot in
    (c.requires.room.1, (room.k_high, (a.0, b.0)))

pub insert-compare_slots-requires-clause-keyed : goal.insert-compare_slots-requires-clause-keyed
insert-compare_slots-requires-clause-keyed t c =
    let room = c.requires.room.0 in
    let a = laws.table-slot room c.requires.insertable.leaf.1 in
    let b = laws.table-slot room (open-node c.args.shape.k c.args.keys.now c.args.links.now c.args.s c.requires.insertable.tree c.requires.insertable.rep c.if-s-eq0.false).slot in
    (a.1, b.1)

pub insert_on-mend_on-requires-clause-mendable_on : goal.insert_on-mend_on-requires-clause-mendable_on
insert_on-mend_on-requires-clause-mendable_on t c =
    let N = c.next_cut-next in
    let H = c.child_of-child in
    let I = c.insert-grown in
    laws.mendable-on c.args.side c.requires.room.1.0 c.requires.insertable c.requires.room.1.1 N.ensures H.ensures I.auto.links I.ensures.tree
