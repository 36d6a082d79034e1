use mathlib.Core.Bool.{true≢false}
use mathlib.Core.Path.{sym, ◌∙◌}
use Prim.Native.Nat.{◌-◌}
use native.Mathlib.Omega.{arith}
use Rattle.model.specs.Ask.{has}
use Rattle.model.specs.Pool.{book_of}
use Rattle.model.specs.Rebuild.{listing}
use Rattle.weigh.specs.Items.{entry_at}
use Rattle.weigh.proofs.Begun.{alike_entries, unlike_entries}
use Rattle.weigh.proofs.Lately.{pool-tells, tells, still-silent}
use Rattle.weigh.proofs.judging.there_by.Goals as goal

pub returns-then-alike : goal.returns-then-alike
returns-then-alike c =
    let xs = c.args.items.now in let K = c.args.known.now.head.k in let l = c.loop-j in
    let q = alike_entries K c.args.i (l.j - 1) xs c.item_at-item.result.now c.item_at-before.result.now c.item_at-item.ensures c.item_at-before.ensures (c.alike.ensures.0 c.if-alike.true) in
    tells K xs (entry_at K xs c.args.i) (has (entry_at K xs c.args.i) (listing (book_of c.args.known.now.head c.args.known.now.keys.now c.args.known.now.links.now).tree)) c.args.i l.j l.invariant (omega arith) q c.adds.result (rw c.item_at-before.ensures at c.adds.ensures)

pub loop-j-preserved : goal.loop-j-preserved
loop-j-preserved c =
    let xs = c.args.items.now in let K = c.args.known.now.head.k in let l = c.loop-j in
    let q = unlike_entries K c.args.i (l.j - 1) xs c.item_at-item.result.now c.item_at-before.result.now c.item_at-item.ensures c.item_at-before.ensures (λ e. true≢false (sym (c.alike.ensures.1 e) ∙ c.if-alike.false)) in
    still-silent K xs (entry_at K xs c.args.i) (has (entry_at K xs c.args.i) (listing (book_of c.args.known.now.head c.args.known.now.keys.now c.args.known.now.links.now).tree)) c.args.i l.j l.invariant (omega arith) q

pub returns : goal.returns
returns c =
    let xs = c.args.items.now in
    pool-tells c.args.known.now.head.k xs (listing (book_of c.args.known.now.head c.args.known.now.keys.now c.args.known.now.links.now).tree) c.args.i c.loop-j.j c.requires c.loop-j.invariant (omega arith) c.entry_in.result (rw c.item_at-item.ensures at c.entry_in.ensures) c.is_there.result c.is_there.ensures
