use Rattle.std.proofs.Common.{ap, ◌∙◌, pos, rules}
use Rattle.model.proofs.Machine.{back}
use Rattle.sound.specs.Tree.{Side}
use Rattle.sound.specs.declared.tree.Fence.{Fence}
use Rattle.sound.proofs.Pass as laws
use Rattle.sound.proofs.tree.+pass_side.Goals as goal
use Rattle.sound.proofs.tree.+pass_side.Goals.{pass-then-left-eq0-via-then-left-eq0, pass-then-left-eq0-via-else-left-eq0+then-not-topped, pass-then-left-eq0-via-else-left-eq0+else-not-topped+then-not-enclosed}

pub pass-returns-then-left-eq0 : goal.pass-returns-then-left-eq0
pass-returns-then-left-eq0 t c =
    elim c.then-left-eq0.branch [
      | pass-then-left-eq0-via-then-left-eq0 w ↦ search (laws.none_left, rules)
      | pass-then-left-eq0-via-else-left-eq0+then-not-topped w ↦ search (laws.not-topped, rules)
      | pass-then-left-eq0-via-else-left-eq0+else-not-topped+then-not-enclosed w ↦ search (laws.not-inside, rules)
    ]

pub pass-returns-then-l-r-eq0 : goal.pass-returns-then-l-r-eq0
pass-returns-then-l-r-eq0 t c = search (laws.leaf, rules)

pub pass-side-requires : goal.pass-side-requires
pass-side-requires t c =
    let A = c.args in
    let P = A.pool.now in
    laws.side-ready P.shape P.keys.now P.links.now A.cut A.s A.left A.fence.now.bounds P.room c.requires.0 c.requires.1.0 Side.high t c.decreases (c.topped.ensures.good c.if-not-topped.false) c.next_cut-next.result c.next_cut-next.ensures c.left_of-l.result c.left_of-l.ensures c.requires.1.1 _ (back _ c.number_at-x.type_inv ∙ c.number_at-x.ensures)

pub pass-returns-in_err-rest : goal.pass-returns-in_err-rest
pass-returns-in_err-rest t c = rw c.from_residual.ensures (search (laws.left-bad, rules))

pub pass-side-requires-2 : goal.pass-side-requires-2
pass-side-requires-2 t c =
    let A = c.args in
    let P = A.pool.now in
    rw c.side.ensures.1 (laws.side-ready P.shape P.keys.now P.links.now A.cut A.s A.left A.fence.now.bounds P.room c.requires.0 c.requires.1.0 Side.low t c.decreases (c.topped.ensures.good c.if-not-topped.false) c.next_cut-next.result c.next_cut-next.ensures c.right_of-r.result c.right_of-r.ensures c.requires.1.1 _ (back _ c.number_at-x.type_inv ∙ c.number_at-x.ensures))

pub pass-returns : goal.pass-returns
pass-returns t c =
    let A = c.args in
    let P = A.pool.now in
    let X = c.side in
    let Y = c.side-2 in
    (laws.both-sides P.shape P.keys.now P.links.now A.cut A.s A.left A.fence.now.bounds P.room c.requires.0 c.requires.1.0 c.left_of-l.result c.left_of-l.ensures c.if-left-eq0.false (c.topped.ensures.good c.if-not-topped.false) (c.enclosed.ensures.good c.if-not-enclosed.false) c.next_cut-next.result c.next_cut-next.ensures X.result X.ensures.0 c.in_ok-rest.rest c.in_ok-rest.was c.right_of-r.result c.right_of-r.ensures Y.result (rw X.ensures.1 at Y.ensures.0), Y.ensures.1 ∙ X.ensures.1)

pub side-returns-then-s-eq0 : goal.side-returns-then-s-eq0
side-returns-then-s-eq0 t c = search (laws.nothing, rules)

pub side-returns : goal.side-returns
side-returns t c =
    let A = c.args in
    let P = c.put-bound in
    let X = c.pass-rest in
    let b = laws.put_back A.fence.now.bounds X.new.fence.bounds A.at A.from P.result.0 0 P.ensures.was.0 (ap (λ (f : Fence). f.bounds) X.ensures.1 ∙ P.ensures.bounds) in
    let e = laws.put_back A.fence.now.edges X.new.fence.edges A.at _ _ (pos 0) (back _ (search rules) ∙ P.ensures.was.1) (ap (λ (f : Fence). f.edges) X.ensures.1 ∙ P.ensures.edges) in
    (rw P.ensures.bounds at X.ensures.0, λ i. record { bounds = (c.put.ensures.bounds ∙ b) i; edges = (c.put.ensures.edges ∙ e) i })
