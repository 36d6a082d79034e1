use lib.ListN.{length}
use Rattle.build.proofs.rebuild.+rebuild.Given as goal

abbrev pub decreases-rebuild : goal.decreases-rebuild
decreases-rebuild l = length l.slots.now
