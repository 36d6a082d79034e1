use Rattle.cells.specs.Slots.{tall}
use Prim.Native.Nat.{◌+◌, ◌*◌}
use Rattle.alter.proofs.strike.+replace_strike_strike_on.Given as goal

abbrev pub decreases-replace : goal.decreases-replace
decreases-replace l = 3 * tall l.links.now l.s + 1

abbrev pub decreases-strike : goal.decreases-strike
decreases-strike l = 3 * tall l.links.now l.s + 2

abbrev pub decreases-strike_on : goal.decreases-strike_on
decreases-strike_on l = 3 * tall l.links.now l.s
