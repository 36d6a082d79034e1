use Rattle.model.specs.Ask.{has}
use Rattle.weigh.specs.Books.{book_in}
use Rattle.model.specs.Rebuild.{listing}
use Rattle.weigh.specs.Items.{entry_at}
use Rattle.weigh.proofs.Lately.{Silent}
use Rattle.weigh.proofs.judging.there_by.Given as goal

abbrev pub invariant-loop-j : goal.invariant-loop-j
invariant-loop-j l = Silent l.k l.items (entry_at l.k l.items l.i) (has (entry_at l.k l.items l.i) (listing (book_in l.known).tree)) l.i l.j
