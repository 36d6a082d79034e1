use mathlib.Core.Path.{◌∙◌}
use native.Mathlib.Omega.{arith}
use Rattle.sound.proofs.Verdict as verdict
use Rattle.sound.proofs.is_sound.Goals as goal
use Rattle.sound.proofs.is_sound.Goals.{then-head-via-then-head, then-head-via-else-head+then-head-2, then-head-via-else-head+else-head-2+then-head-3}

pub returns-then-head : goal.returns-then-head
returns-then-head c =
    elim c.then-head.branch [
      | then-head-via-then-head w ↦ search verdict.root-out
      | then-head-via-else-head+then-head-2 w ↦ search verdict.free-out
      | then-head-via-else-head+else-head-2+then-head-3 w ↦ search verdict.too_many
    ]

pub returns-then-tree_right : goal.returns-then-tree_right
returns-then-tree_right c =
    verdict.answer c.args.head c.args.keys.now c.args.links.now c.requires c.tree_right.result (rw c.from.ensures at c.tree_right.ensures) c.if-tree_right.true (omega arith) (omega arith) (omega arith) c.chain_right.result (rw c.from.ensures at c.chain_right.ensures)

pub returns-else-tree_right : goal.returns-else-tree_right
returns-else-tree_right c = c.if-tree_right.false ∙ verdict.tree-wrong c.args.head c.args.keys.now c.args.links.now c.requires c.tree_right.result (rw c.from.ensures at c.tree_right.ensures) c.if-tree_right.false
