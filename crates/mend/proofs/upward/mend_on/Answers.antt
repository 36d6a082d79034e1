use Rattle.mend.proofs.Sided as laws
use Rattle.mend.proofs.upward.mend_on.Goals as goal
use Rattle.mend.proofs.upward.mend_on.Goals.{in-Left, in-Right}

pub returns-clause-tree : goal.returns-clause-tree
returns-clause-tree c =
    elim c.match-side.branch [
      | in-Left w ↦ laws.mended-left w.in-Left.is w.right_of.ensures (rw w.l-is at c.mend.ensures.tree)
      | in-Right w ↦ laws.mended-right w.in-Right.is w.left_of.ensures (rw w.l-is at c.mend.ensures.tree)
    ]
