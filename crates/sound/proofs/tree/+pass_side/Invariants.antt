use Rattle.std.proofs.Common.{◌+◌, ◌*◌}
use Rattle.cells.specs.Slots.{tall}
use Rattle.sound.proofs.tree.+pass_side.Given as goal

abbrev pub decreases-pass : goal.decreases-pass
decreases-pass l = 2 * tall l.pool.now.links.now l.s

abbrev pub decreases-side : goal.decreases-side
decreases-side l = 2 * tall l.pool.now.links.now l.s + 1
