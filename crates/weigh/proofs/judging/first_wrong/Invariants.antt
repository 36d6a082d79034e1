use Rattle.weigh.specs.Books.{book_in}
use Rattle.weigh.proofs.Judged.{Judging}
use Rattle.weigh.proofs.judging.first_wrong.Given as goal

abbrev pub invariant-loop-i : goal.invariant-loop-i
invariant-loop-i l = Judging l.known.head (book_in l.known) l.items l.n l.i
