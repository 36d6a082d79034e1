use Rattle.std.proofs.Common.{sym, ◌∙◌}
use Rattle.text.proofs.BookBack as laws
use Rattle.text.proofs.book.first_entry.Goals as goal

pub unwrap-end-requires : goal.unwrap-end-requires
unwrap-end-requires c = rw c.line_end.ensures (laws.cut-found c.args.text.now c.requires.0 c.requires.1)

pub returns : goal.returns
returns c = laws.behind-first c.args.text.now _ (sym c.line_end.ensures ∙ c.unwrap-end.ensures)
