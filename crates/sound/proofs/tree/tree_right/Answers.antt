use Rattle.sound.proofs.Verdict as verdict
use Rattle.sound.proofs.tree.tree_right.Goals as goal

pub returns-then-root-eq0 : goal.returns-then-root-eq0
returns-then-root-eq0 c = search verdict.no-tree

pub returns-then-height_of-gt16 : goal.returns-then-height_of-gt16
returns-then-height_of-gt16 c = search verdict.too-tall

pub returns : goal.returns
returns c = let j = rw c.open.ensures.0 at c.pass.ensures.0 in search verdict.whole_by
