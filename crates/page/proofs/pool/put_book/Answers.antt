use Rattle.page.proofs.Totals as laws
use Rattle.page.proofs.pool.put_book.Goals as goal

pub height_of-height-requires : goal.height_of-height-requires
height_of-height-requires c = laws.root-low c.args.known.now.head c.args.known.now.keys.now c.args.known.now.links.now c.args.known.now.sound

pub overflow_sub-free : goal.overflow_sub-free
overflow_sub-free c = laws.few c.args.known.now.head c.args.known.now.keys.now c.args.known.now.links.now c.args.known.now.sound

pub put_totals-at-requires : goal.put_totals-at-requires
put_totals-at-requires c =
    let H = c.height_of-height in
    laws.first_fits c.args.known.now.head c.args.known.now.keys.now c.args.known.now.links.now c.args.known.now.sound H.result H.ensures c.args.room.now c.requires

pub put_tree-requires : goal.put_tree-requires
put_tree-requires c =
    let H = c.height_of-height in
    let T = c.put_totals-at in
    rw c.from.ensures (laws.tree-ready c.args.known.now.head c.args.known.now.keys.now c.args.known.now.links.now c.args.known.now.sound H.result H.ensures c.args.room.now c.requires T.new.room T.result T.ensures)

pub returns : goal.returns
returns c =
    let H = c.height_of-height in
    let T = c.put_totals-at in
    let P = c.put_tree in
    laws.book-put c.args.known.now.head c.args.known.now.keys.now c.args.known.now.links.now c.args.known.now.sound H.result H.ensures c.args.room.now c.requires T.new.room T.result T.ensures P.new.room P.result (rw c.from.ensures at P.ensures)
