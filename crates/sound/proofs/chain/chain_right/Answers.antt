use Rattle.std.proofs.Common.{rules}
use Rattle.sound.proofs.Walk.{too-short, off-pool, not-cleared, same-on}
use Rattle.sound.proofs.chain.chain_right.Goals as goal
use Rattle.sound.proofs.chain.chain_right.Goals.{then-s-eq0-via-then-s-eq0, then-s-eq0-via-else-s-eq0+then-pool-s, then-s-eq0-via-else-s-eq0+else-pool-s+then-not-is_cleared}

pub returns-then-s-eq0 : goal.returns-then-s-eq0
returns-then-s-eq0 c =
    elim c.then-s-eq0.branch [
      | then-s-eq0-via-then-s-eq0 w ↦ search (too-short, rules)
      | then-s-eq0-via-else-s-eq0+then-pool-s w ↦ search off-pool
      | then-s-eq0-via-else-s-eq0+else-pool-s+then-not-is_cleared w ↦ search not-cleared
    ]

pub loop-preserved : goal.loop-preserved
loop-preserved c = search (same-on, rules)
