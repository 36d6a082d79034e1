-- The book of a pool that is known to be sound, and its entries.
use Rattle.std.specs.Prelude.{List}
use Rattle.model.specs.Book.{Book}
use Rattle.model.specs.Entry.{Entry}
use Rattle.model.specs.Pool.{book_of}
use Rattle.model.specs.Rebuild.{listing}
use Rattle.weigh.specs.declared.known.Known.{Known}

abbrev pub book_in : Known → Book
book_in p = book_of p.head p.keys.now p.links.now

abbrev pub entries_held : Known → List Entry
entries_held p = listing (book_in p).tree
