use Rattle.std.proofs.Common.{◌∙◌}
use Rattle.std.proofs.lemmas.Result.{err_from_is_err_and}
use Rattle.text.proofs.BookBack.{same_err}
use Rattle.text.proofs.TitleBack as laws
use Rattle.text.proofs.book.take_apart.Goals as goal

pub returns-in_err-title : goal.returns-in_err-title
returns-in_err-title c =
    let p = err_from_is_err_and c.from_residual.result c.from_residual.ensures.1 in
    let h = c.in_err-title.ensures in
    rw (p.1, p.2, same_err (rw h.ok_part at h.value)) (laws.text-bad _ (rw h.ok_part at c.read_title.ensures))

pub read_body-requires : goal.read_body-requires
read_body-requires c = laws.text-sizes _ _ _ c.in_ok-title.body.now (rw c.in_ok-title.ensures.ok_part at c.read_title.ensures)

pub returns : goal.returns
returns c = c.read_body.ensures ∙ laws.text-body _ _ _ c.in_ok-title.body.now (rw c.in_ok-title.ensures.ok_part at c.read_title.ensures)
