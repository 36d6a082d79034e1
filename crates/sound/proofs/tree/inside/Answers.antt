use Rattle.sound.proofs.Marks.{inside-low, inside-high, inside-end, slot-long}
use Rattle.sound.proofs.tree.inside.Goals as goal
use Rattle.sound.proofs.tree.inside.Goals.{then-not-before-via-then-not-before, then-not-before-via-else-not-before+then-not-before-2}

pub returns-then-not-before : goal.returns-then-not-before
returns-then-not-before c =
    elim c.then-not-before.branch [
      | then-not-before-via-then-not-before w ↦ search inside-low
      | then-not-before-via-else-not-before+then-not-before-2 w ↦ search inside-high
    ]

pub returns : goal.returns
returns c = search (inside-end, slot-long)
