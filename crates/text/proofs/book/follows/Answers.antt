use Rattle.text.proofs.Listing.{later-rises}
use Rattle.text.proofs.book.follows.Goals as goal

pub returns-in-Some : goal.returns-in-Some
returns-in-Some c = let e = later-rises _ _ c.in-Some.last _ c.in-Some.is _ c.in_order.ensures in cc
