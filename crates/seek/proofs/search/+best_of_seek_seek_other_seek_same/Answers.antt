use Rattle.cells.specs.Slots.{tall}
use Rattle.seek.proofs.Seeking as laws
use Rattle.seek.proofs.search.+best_of_seek_seek_other_seek_same.Goals as goal

pub best_of-further-requires-clause-home_lt_k : goal.best_of-further-requires-clause-home_lt_k
best_of-further-requires-clause-home_lt_k t c =
    let P = c.args.pool.now in
    let H = c.requires.here in
    let best = laws.pool-keyed P.shape P.keys.now P.links.now P.room c.args.best H.1.1 in
    let x = laws.pool-keyed P.shape P.keys.now P.links.now P.room c.seek-sought.result (laws.sought-pooled P.shape P.keys.now P.links.now P.room c.args.side c.args.home H.0 c.args.s c.args.cut _ c.seek-sought.result c.if-s-eq0.false c.requires.standing c.seek-sought.ensures) in
    (H.0, (P.room.k_high, (best.1, x.1)))

pub best_of-further-requires-clause-keyed : goal.best_of-further-requires-clause-keyed
best_of-further-requires-clause-keyed t c =
    let P = c.args.pool.now in
    let H = c.requires.here in
    let best = laws.pool-keyed P.shape P.keys.now P.links.now P.room c.args.best H.1.1 in
    let x = laws.pool-keyed P.shape P.keys.now P.links.now P.room c.seek-sought.result (laws.sought-pooled P.shape P.keys.now P.links.now P.room c.args.side c.args.home H.0 c.args.s c.args.cut _ c.seek-sought.result c.if-s-eq0.false c.requires.standing c.seek-sought.ensures) in
    (best.0, x.0)

pub seek_other-left_of-l-requires : goal.seek_other-left_of-l-requires
seek_other-left_of-l-requires t c = laws.here c.args.pool.now.room c.requires.here.1.1 c.requires.standing

pub seek_other-right_of-r-requires : goal.seek_other-right_of-r-requires
seek_other-right_of-r-requires t c = laws.here c.args.pool.now.room c.requires.here.1.1 c.requires.standing

pub seek_other-best_of-best-requires : goal.seek_other-best_of-best-requires
seek_other-best_of-best-requires t c =
    let R = c.args.pool.now.room in let H = c.requires.here in
    let d = c.next_cut-next.ensures in
    let low = laws.lower-call R H.1.1 c.requires.standing d c.left_of-l.ensures in
    (rw (← c.decreases) low.0, ((H.0, (d.low, laws.in-pool R H.1.1 c.requires.standing)), low.1))

pub seek_other-best_of-requires : goal.seek_other-best_of-requires
seek_other-best_of-requires t c =
    let P = c.args.pool.now in
    let R = P.room in let H = c.requires.here in
    let d = c.next_cut-next.ensures in
    let low = laws.lower-call R H.1.1 c.requires.standing d c.left_of-l.ensures in
    let high = laws.upper-call R H.1.1 c.requires.standing d c.right_of-r.ensures in
    let p = laws.better-pooled P.shape P.keys.now P.links.now R c.args.side c.args.home H.0 c.args.s c.left_of-l.result c.next_cut-next.result P.shape.c c.best_of-best.result (laws.in-pool R H.1.1 c.requires.standing) low.1 c.best_of-best.ensures in
    (rw (← c.decreases) high.0, ((H.0, (d.low, p)), high.1))

pub seek_other-returns : goal.seek_other-returns
seek_other-returns t c =
    let P = c.args.pool.now in
    let d = c.next_cut-next in
    let l = c.left_of-l in
    let r = c.right_of-r in
    laws.sought-other P.shape.k P.keys.now P.links.now c.args.side c.args.home c.args.s c.args.cut d.result l.result r.result c.best_of-best.result c.best_of.result d.ensures l.ensures r.ensures c.best_of-best.ensures c.best_of.ensures

pub seek_same-child_of-far-requires : goal.seek_same-child_of-far-requires
seek_same-child_of-far-requires t c = laws.here c.args.pool.now.room c.requires.here.1.1 c.requires.standing

pub seek_same-returns-then-far-eq0 : goal.seek_same-returns-then-far-eq0
seek_same-returns-then-far-eq0 t c =
    let P = c.args.pool.now in
    let e = rw c.other.ensures at c.child_of-far.ensures in
    laws.sought-here P.shape P.keys.now P.links.now P.room c.args.side c.args.home c.args.s c.args.cut c.child_of-far.result c.requires.here.0 e c.if-far-eq0.true

pub seek_same-seek-requires : goal.seek_same-seek-requires
seek_same-seek-requires t c =
    let P = c.args.pool.now in
    let e = rw c.other.ensures at c.child_of-far.ensures in
    let d = c.next_cut-next in
    let far = c.child_of-far.result in
    let h = laws.far-falls P.shape P.keys.now P.links.now P.room c.args.side c.args.home c.args.s c.args.cut far c.requires.here.0 e (laws.some c.args.s c.requires.here.1.1) _ c.requires.standing in
    (rw (← c.decreases) (laws.less-far (tall P.links.now far) (tall P.links.now c.args.s) h), ((rw c.requires.here.0 c.requires.here.1.0, (d.ensures.low, laws.none-not far c.if-far-eq0.false)), laws.standing-far P.shape P.keys.now P.links.now P.room c.args.side c.args.home c.args.s c.args.cut far c.requires.here.0 e (laws.some c.args.s c.requires.here.1.1) _ c.requires.standing d.result d.ensures))

pub seek_same-returns : goal.seek_same-returns
seek_same-returns t c =
    let P = c.args.pool.now in
    let e = rw c.other.ensures at c.child_of-far.ensures in
    let d = c.next_cut-next in
    let far = c.child_of-far.result in
    laws.sought-far P.shape P.keys.now P.links.now P.room c.args.side c.args.home c.args.s c.args.cut far c.requires.here.0 e d.result c.seek.result c.if-far-eq0.false d.ensures c.seek.ensures
