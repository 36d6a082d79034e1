use Rattle.page.proofs.Trees as laws
use Rattle.page.proofs.tree.+put_tree.Goals as goal

pub returns-then-s-eq0 : goal.returns-then-s-eq0
returns-then-s-eq0 t c = laws.put-nil c.args.pool.now.shape.k c.args.pool.now.keys.now c.args.pool.now.links.now c.args.s c.args.depth c.args.room.now c.args.at c.if-s-eq0.true

pub left_of-left-requires : goal.left_of-left-requires
left_of-left-requires t c = (laws.top c.args.pool.now.shape c.args.pool.now.keys.now c.args.pool.now.links.now c.args.s c.args.depth c.args.room.now c.args.at c.args.pool.now.room c.requires.0 c.requires.1 c.if-s-eq0.false).slot

pub right_of-right-requires : goal.right_of-right-requires
right_of-right-requires t c = (laws.top c.args.pool.now.shape c.args.pool.now.keys.now c.args.pool.now.links.now c.args.s c.args.depth c.args.room.now c.args.at c.args.pool.now.room c.requires.0 c.requires.1 c.if-s-eq0.false).slot

pub put_entry-here-requires-clause-le_k : goal.put_entry-here-requires-clause-le_k
put_entry-here-requires-clause-le_k t c =
    let ne = c.if-s-eq0.false in
    ((c.args.pool.now.room.k_low, c.args.pool.now.room.k_high), laws.in_table c.args.pool.now.shape c.args.pool.now.keys.now c.args.pool.now.links.now c.args.s c.args.depth c.args.room.now c.args.at c.args.pool.now.room c.requires.0 c.requires.1 ne)

pub put_entry-here-requires-clause-at_in_bounds : goal.put_entry-here-requires-clause-at_in_bounds
put_entry-here-requires-clause-at_in_bounds t c =
    let ne = c.if-s-eq0.false in
    laws.line-fits c.args.pool.now.shape c.args.pool.now.keys.now c.args.pool.now.links.now c.args.s c.args.depth c.args.room.now c.args.at c.args.pool.now.room c.requires.0 c.requires.1 ne

pub put_tree-behind-requires : goal.put_tree-behind-requires
put_tree-behind-requires t c =
    let ne = c.if-s-eq0.false in
    let L = c.left_of-left in
    let E = c.put_entry-here in
    (rw (← c.decreases) (laws.left-falls c.args.pool.now.shape c.args.pool.now.keys.now c.args.pool.now.links.now c.args.s c.args.depth c.args.room.now c.args.at c.args.pool.now.room c.requires.0 c.requires.1 ne L.result L.ensures), laws.left-ready c.args.pool.now.shape c.args.pool.now.keys.now c.args.pool.now.links.now c.args.s c.args.depth c.args.room.now c.args.at c.args.pool.now.room c.requires.0 c.requires.1 ne E.new.room E.result E.ensures L.result L.ensures)

pub put_tree-requires : goal.put_tree-requires
put_tree-requires t c =
    let ne = c.if-s-eq0.false in
    let L = c.left_of-left in
    let R = c.right_of-right in
    let E = c.put_entry-here in
    let P = c.put_tree-behind in
    (rw (← c.decreases) (laws.right-falls c.args.pool.now.shape c.args.pool.now.keys.now c.args.pool.now.links.now c.args.s c.args.depth c.args.room.now c.args.at c.args.pool.now.room c.requires.0 c.requires.1 ne R.result R.ensures), laws.right-ready c.args.pool.now.shape c.args.pool.now.keys.now c.args.pool.now.links.now c.args.s c.args.depth c.args.room.now c.args.at c.args.pool.now.room c.requires.0 c.requires.1 ne E.new.room E.result E.ensures P.new.room P.result L.result L.ensures P.ensures R.result R.ensures)

pub returns : goal.returns
returns t c =
    let ne = c.if-s-eq0.false in
    let L = c.left_of-left in
    let R = c.right_of-right in
    let E = c.put_entry-here in
    let P = c.put_tree-behind in
    let Q = c.put_tree in
    laws.put-node c.args.pool.now.shape c.args.pool.now.keys.now c.args.pool.now.links.now c.args.s c.args.depth c.args.room.now c.args.at c.args.pool.now.room c.requires.0 c.requires.1 ne E.new.room E.result E.ensures P.new.room P.result L.result L.ensures P.ensures Q.new.room Q.result R.result R.ensures Q.ensures
