use Prim.Native.Nat.{◌+◌, ◌*◌}
use Rattle.cells.specs.Slots.{tall}
use Rattle.alter.proofs.insert.+insert_insert_on.Given as goal

abbrev pub decreases-insert : goal.decreases-insert
decreases-insert l = 2 * tall l.links.now l.s + 1

abbrev pub decreases-insert_on : goal.decreases-insert_on
decreases-insert_on l = 2 * tall l.links.now l.s
