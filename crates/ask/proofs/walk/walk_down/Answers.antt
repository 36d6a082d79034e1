use mathlib.Core.Path.{refl, ap, ◌∙◌}
use mir.Syntax.{w64}
use mir.Val.{of_z}
use lib.ListN.{get_or}
use lib.IntN.{pos}
use Rattle.cells.proofs.Signs.{test-less}
use borrow.Author.Rules.{rules}
use Rattle.ask.proofs.Walks.{walk-starts, ends-gone, ends-out, ends-long, ends_found, goes_left, goes-right, goes_on}
use Rattle.ask.proofs.walk.walk_down.Goals as goal
use Rattle.ask.proofs.walk.walk_down.Goals.{then-shape-at-via-then-shape-at, then-shape-at-via-else-shape-at+then-reads-eq16, then-x-y, else-x-y+in-Less, else-x-y+in-Greater}

pub loop-at-init : goal.loop-at-init
loop-at-init c = let A = c.args in walk-starts A.shape A.e.f A.keys.now A.links.now A.root (search rules)

pub returns-then-shape-at : goal.returns-then-shape-at
returns-then-shape-at c =
    elim c.then-shape-at.branch [
      | then-shape-at-via-then-shape-at w ↦ search ends-out
      | then-shape-at-via-else-shape-at+then-reads-eq16 w ↦ search ends-long
    ]

pub returns-in-Equal : goal.returns-in-Equal
returns-in-Equal c = search ends_found

pub loop-at-preserved : goal.loop-at-preserved
loop-at-preserved c = let A = c.args in let L = c.loop-at in let ne = c.loop-at-test.true in let h = c.if-shape-at.false in let l = c.if-reads-eq16.false in
    let N = c.number_at-y in
    elim c.if-x-y.branch [
      | then-x-y w ↦ goes_on A.shape A.e.f A.keys.now A.links.now A.root L.at L.cut L.reads L.invariant ne h l c.requires (search rules) _ _ refl N.ensures (λ e. w.if-x-y.true (ap (of_z w64) e)) c.if-x-y.at c.next_cut-cut.result _ c.left_of-l.result c.right_of-r.result (test-less N.result (get_or A.e.f L.cut (pos 0)) N.type_inv (search rules)) (w.at-is ∙ w.either-at.ensures) c.left_of-l.ensures c.right_of-r.ensures c.next_cut-cut.ensures
      | else-x-y+in-Less w ↦ goes_left A.shape A.e.f A.keys.now A.links.now A.root L.at L.cut L.reads L.invariant w.compare_entry.result ne h l w.compare_entry.ensures c.if-x-y.at c.next_cut-cut.result w.in-Less.is (w.at-is ∙ c.left_of-l.ensures) c.next_cut-cut.ensures
      | else-x-y+in-Greater w ↦ goes-right A.shape A.e.f A.keys.now A.links.now A.root L.at L.cut L.reads L.invariant w.compare_entry.result ne h l w.compare_entry.ensures c.if-x-y.at c.next_cut-cut.result w.in-Greater.is (w.at-is ∙ c.right_of-r.ensures) c.next_cut-cut.ensures
    ]

pub returns : goal.returns
returns c = search ends-gone
