use native.Mathlib.Omega.{arith}
use Rattle.weigh.proofs.Begun.{tray-long, tray-part, begun-on, begun-not, begun_all}
use Rattle.weigh.proofs.items.trayed.Goals as goal
use Rattle.weigh.proofs.items.trayed.Goals.{then-many-gt256-via-then-many-gt256, then-many-gt256-via-else-many-gt256+then-items-k-ne0}

pub returns-then-many-gt256 : goal.returns-then-many-gt256
returns-then-many-gt256 c =
    elim c.then-many-gt256.branch [
      | then-many-gt256-via-then-many-gt256 w ↦ tray-long c.args.k c.args.items.now w.if-many-gt256.true
      | then-many-gt256-via-else-many-gt256+then-items-k-ne0 w ↦ tray-part c.args.k c.args.items.now w.if-items-k-ne0.true
    ]

pub returns-then-not-begun : goal.returns-then-not-begun
returns-then-not-begun c = let l = c.loop-i in begun-not c.args.k c.args.items.now l.i l.invariant (omega arith) c.begun.result (rw c.item_at.ensures at c.begun.ensures) c.if-not-begun.true

pub loop-i-preserved : goal.loop-i-preserved
loop-i-preserved c = let l = c.loop-i in begun-on c.args.k c.args.items.now l.i l.invariant (omega arith) c.begun.result (rw c.item_at.ensures at c.begun.ensures) c.if-not-begun.false

pub returns : goal.returns
returns c = let l = c.loop-i in begun_all c.args.k c.args.items.now l.i l.invariant (omega arith) (omega arith) (omega arith)
