use native.Mathlib.Omega.{arith}
use mathlib.Core.Logic.{inl, inr}
use mathlib.Core.Path.{◌∙◌}
use Rattle.desk.proofs.Chains.{chain_more, chained-next}
use Rattle.desk.proofs.fresh.chain_up.Goals as goal
use Rattle.desk.proofs.fresh.chain_up.Goals.{then-s-c, else-s-c}

pub loop-before-preserved : goal.loop-before-preserved
loop-before-preserved c = let i = c.loop-before.invariant in let arm = chained-next c.args.c c.loop-before.before c.if-s-c.next (elim c.if-s-c.branch [ then-s-c w ↦ inl (w.if-s-c.true, w.next-is) | else-s-c w ↦ inr (w.if-s-c.false, w.next-is) ]) in (omega arith, (c.put_links.auto.links ∙ i.1.0, chain_more c.loop-before.links c.put_links.new.links c.args.c c.loop-before.before c.if-s-c.next (omega arith) i.1.1 c.put_links.ensures arm.0 arm.1))
