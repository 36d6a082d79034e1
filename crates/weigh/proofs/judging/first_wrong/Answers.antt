use native.Mathlib.Omega.{arith}
use Rattle.weigh.proofs.Judged.{judges-first, judges-end, judges-low, judges-wrong, strikes-some, judges-added, judges-struck}
use Rattle.weigh.proofs.judging.first_wrong.Goals as goal
use Rattle.weigh.proofs.judging.first_wrong.Goals.{then-add, else-add}

pub loop-i-init : goal.loop-i-init
loop-i-init c = judges-first c.args.known.now.head c.args.known.now.keys.now c.args.known.now.links.now c.args.known.now.sound c.args.items.now

pub returns-in-Err : goal.returns-in-Err
returns-in-Err c = let l = c.loop-i in let h = c.there_by-there in let a = c.adds-add in let z = c.judge in judges-wrong c.args.known.now.head c.args.known.now.keys.now c.args.known.now.links.now c.args.known.now.sound c.args.items.now l.n l.i l.invariant (omega arith) h.result h.ensures a.result (rw c.item_at.ensures at a.ensures) z.result z.ensures c.in-Err.why c.in-Err.is

pub overflow_add-n : goal.overflow_add-n
overflow_add-n c = let l = c.loop-i in let h = c.there_by-there in let a = c.adds-add in let z = c.judge in let m = judges-low c.args.known.now.head c.args.known.now.keys.now c.args.known.now.links.now c.args.known.now.sound c.args.items.now l.n l.i l.invariant in omega arith

pub overflow_sub-n : goal.overflow_sub-n
overflow_sub-n c = let l = c.loop-i in let h = c.there_by-there in let a = c.adds-add in let z = c.judge in strikes-some c.args.known.now.head c.args.known.now.keys.now c.args.known.now.links.now c.args.known.now.sound c.args.items.now l.n l.i l.invariant (omega arith) h.result h.ensures a.result (rw c.item_at.ensures at a.ensures) z.result z.ensures c.in_default.is c.if-add.false

pub loop-i-preserved : goal.loop-i-preserved
loop-i-preserved c =
    let l = c.loop-i in let h = c.there_by-there in let a = c.adds-add in let z = c.judge in
    elim c.if-add.branch [
      | then-add w ↦ rw w.n-is (judges-added c.args.known.now.head c.args.known.now.keys.now c.args.known.now.links.now c.args.known.now.sound c.args.items.now l.n l.i l.invariant (omega arith) h.result h.ensures a.result (rw c.item_at.ensures at a.ensures) z.result z.ensures c.in_default.is w.if-add.true)
      | else-add w ↦ rw w.n-is (judges-struck c.args.known.now.head c.args.known.now.keys.now c.args.known.now.links.now c.args.known.now.sound c.args.items.now l.n l.i l.invariant (omega arith) h.result h.ensures a.result (rw c.item_at.ensures at a.ensures) z.result z.ensures c.in_default.is w.if-add.false)
    ]

pub returns : goal.returns
returns c = let l = c.loop-i in judges-end c.args.known.now.head c.args.known.now.keys.now c.args.known.now.links.now c.args.known.now.sound c.args.items.now l.n l.i l.invariant (omega (arith, c.loop-i-test.false))
