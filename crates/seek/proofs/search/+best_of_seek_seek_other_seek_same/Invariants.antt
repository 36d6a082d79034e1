use Rattle.cells.specs.Slots.{tall}
use Prim.Native.Nat.{◌+◌, ◌*◌}
use Rattle.seek.proofs.search.+best_of_seek_seek_other_seek_same.Given as goal

abbrev pub decreases-best_of : goal.decreases-best_of
decreases-best_of l = 3 * tall l.pool.now.links.now l.s + 2

abbrev pub decreases-seek : goal.decreases-seek
decreases-seek l = 3 * tall l.pool.now.links.now l.s + 1

abbrev pub decreases-seek_other : goal.decreases-seek_other
decreases-seek_other l = 3 * tall l.pool.now.links.now l.s

abbrev pub decreases-seek_same : goal.decreases-seek_same
decreases-seek_same l = 3 * tall l.pool.now.links.now l.s
