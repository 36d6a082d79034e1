use Rattle.cells.specs.Slots.{tall}
use Rattle.page.proofs.tree.+put_tree.Given as goal

abbrev pub decreases-put_tree : goal.decreases-put_tree
decreases-put_tree l = tall l.pool.now.links.now l.s
