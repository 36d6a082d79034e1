use Rattle.weigh.specs.Books.{book_in}
use Rattle.model.specs.Rebuild.{listing}
use Rattle.weigh.proofs.Counted.{Counting}
use Rattle.weigh.proofs.lines.count_new.Given as goal

abbrev pub invariant-loop : goal.invariant-loop
invariant-loop l = Counting (listing (book_in l.known).tree) l.text l.lines l.rest l.new l.counter
