use Rattle.std.proofs.Common.{arith}
use Rattle.std.proofs.lemmas.Result.{err_from_is_err_and}
use Rattle.text.proofs.BookBack as laws
use Rattle.text.proofs.book.read_body.Goals as goal

pub returns-in_err-f : goal.returns-in_err-f
returns-in_err-f c =
    let p = err_from_is_err_and c.from_residual.result c.from_residual.ensures.1 in
    let h = c.in_err-f.ensures in
    rw (p.1, p.2, laws.same_err (rw h.ok_part at h.value)) (laws.body-line c.args.text.now c.args.title.fields c.args.title.entries _ _ _ c.loop-i.invariant (omega arith) (omega arith) (rw h.ok_part at c.read_line.ensures.read))

pub returns-then-not-follows : goal.returns-then-not-follows
returns-then-not-follows c =
    laws.body-order c.args.text.now c.args.title.fields c.args.title.entries _ _ _ c.loop-i.invariant (omega arith) (omega arith) _ _ (rw c.in_ok-f.ensures.ok_part at c.read_line.ensures.read) c.if-not-follows.ensures

pub loop-i-preserved : goal.loop-i-preserved
loop-i-preserved c =
    laws.body-on c.args.text.now c.args.title.fields c.args.title.entries _ _ _ c.loop-i.invariant (omega arith) (omega arith) _ _ (rw c.in_ok-f.ensures.ok_part at c.read_line.ensures.read) c.if-not-follows.ensures
