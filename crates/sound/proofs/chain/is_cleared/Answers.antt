use Rattle.std.proofs.Common.{length, sym, ◌∙◌}
use borrow.Author.Tests.{eqb-true}
use Rattle.sound.proofs.Walk.{cleared_is, not_cleared}
use Rattle.sound.proofs.chain.is_cleared.Goals as goal
use Rattle.sound.proofs.chain.is_cleared.Goals.{then-right_of-eq0, else-right_of-eq0}

pub returns-then-height_of-eq0 : goal.returns-then-height_of-eq0
returns-then-height_of-eq0 c =
    let A = c.args in
    let x = c.right_of in
    elim c.if-right_of-eq0.branch [
      | then-right_of-eq0 w ↦ let y = w.height_of in let h = sym w.value-is ∙ c.if-height_of-eq0.true in
          rw (cleared_is A.pool.now.shape.k A.pool.now.keys.now A.pool.now.links.now (length A.pool.now.links.now) A.s x.result y.result c.requires x.ensures y.ensures, w.if-right_of-eq0.true, h, ← c.numbers.ensures.are) c.all_zero.ensures
      | else-right_of-eq0 w ↦ absurd (w.if-right_of-eq0.false (eqb-true x.result 0 (sym w.value-is ∙ c.if-height_of-eq0.true)))
    ]

pub returns-else-height_of-eq0 : goal.returns-else-height_of-eq0
returns-else-height_of-eq0 c =
    let A = c.args in
    let x = c.right_of in
    elim c.if-right_of-eq0.branch [
      | then-right_of-eq0 w ↦ let y = w.height_of in let h = sym w.value-is ∙ c.if-height_of-eq0.false in
          rw (cleared_is A.pool.now.shape.k A.pool.now.keys.now A.pool.now.links.now (length A.pool.now.links.now) A.s x.result y.result c.requires x.ensures y.ensures, w.if-right_of-eq0.true, h) c.if-height_of-eq0.false
      | else-right_of-eq0 w ↦ c.if-height_of-eq0.false ∙ sym (not_cleared A.pool.now.shape.k A.pool.now.keys.now A.pool.now.links.now A.s x.result x.ensures w.if-right_of-eq0.false)
    ]
