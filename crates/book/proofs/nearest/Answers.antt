use mathlib.Core.Path.{◌≡◌, sym, ◌∙◌}
use native.Mathlib.Omega.{arith}
use lib.ListN.{length}
use Rattle.cells.specs.Slots.{numbers_of}
use Rattle.weigh.proofs.Steps.{all-steps}
use Rattle.reply.proofs.Pools.{pool-room, pool-standing}
use Rattle.book.proofs.Nearby.{near-shut, near_step, near_none, near-some}
use borrow.Author.Rules.{rules}
use Rattle.book.proofs.nearest.Goals as goal

pub returns-in-Err : goal.returns-in-Err
returns-in-Err c = let g = c.pool in c.refused.ensures ∙ sym (near-shut c.args.head c.args.keys.now c.args.links.now g.result g.ensures c.args.query c.args.steps c.in-Err.why c.in-Err.is)

pub returns-then-zero_step : goal.returns-then-zero_step
returns-then-zero_step c = let g = c.pool in let z = c.zero_step in c.refused-then-zero_step.ensures ∙ sym (near_step c.args.head c.args.keys.now c.args.links.now g.result g.ensures c.args.query c.args.steps c.in_default.is z.result z.ensures c.if-zero_step.true)

pub invariant_of-pool : goal.invariant_of-pool
invariant_of-pool c = record { room = let g = c.pool in rw c.from-shape.ensures (pool-room c.args.head c.args.keys.now c.args.links.now c.args.head.c g.result g.ensures c.in_default.is) }

pub nearest-found-requires-clause-by_index : goal.nearest-found-requires-clause-by_index
nearest-found-requires-clause-by_index c =
    let g = c.pool in
    let m = pool-room c.args.head c.args.keys.now c.args.links.now c.args.head.c g.result g.ensures c.in_default.is in
    let n : length c.args.steps ≡ 4 = search rules in
    let k = m.k_low in
    let k4 = m.k_high in
    rw c.from-shape.ensures (all-steps c.args.steps c.args.head.k (omega arith) (sym c.zero_step.ensures ∙ c.if-zero_step.false))

pub nearest-found-requires-clause-standing : goal.nearest-found-requires-clause-standing
nearest-found-requires-clause-standing c = let g = c.pool in let z = c.zero_step in let o = c.in_default.is in let m = pool-room c.args.head c.args.keys.now c.args.links.now c.args.head.c g.result g.ensures o in let n : length c.args.steps ≡ 4 = search rules in let k = m.k_low in let k4 = m.k_high in rw c.from-shape.ensures (pool-standing c.args.head c.args.keys.now c.args.links.now c.args.head.c g.result g.ensures o)

pub returns-in_default-found : goal.returns-in_default-found
returns-in_default-found c = let g = c.pool in let z = c.zero_step in let n = c.nearest-found in c.plain.ensures ∙ sym (near_none c.args.head c.args.keys.now c.args.links.now g.result g.ensures c.args.query c.args.steps c.in_default.is z.result z.ensures c.if-zero_step.false n.result (rw c.from-shape.ensures at n.ensures) c.in_default-found.is)

pub returns : goal.returns
returns c = let g = c.pool in let z = c.zero_step in let n = c.nearest-found in let b = c.in-Some.b in c.close.ensures (numbers_of c.args.head.k c.args.keys.now b.slot) (rw c.from-shape.ensures at c.entry_at-e.ensures) ∙ sym (near-some c.args.head c.args.keys.now c.args.links.now g.result g.ensures c.args.query c.args.steps c.in_default.is z.result z.ensures c.if-zero_step.false n.result (rw c.from-shape.ensures at n.ensures) b c.in-Some.is)
