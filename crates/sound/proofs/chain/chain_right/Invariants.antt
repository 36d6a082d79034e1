use Rattle.std.proofs.Common.{◌-◌}
use Rattle.sound.proofs.Walk as walk
use Rattle.sound.proofs.chain.chain_right.Given as goal

abbrev pub invariant-loop : goal.invariant-loop
invariant-loop l = walk.Same l.pool.shape.k l.pool.shape.c l.pool.keys.now l.pool.links.now l.free l.n l.s (l.n - l.counter)
