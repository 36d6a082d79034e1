use mathlib.Core.Path.{◌≡◌, ◌∙◌}
use Prim.Native.Nat.{◌+◌, ◌/◌}
use native.Mathlib.Omega.{arith}
use native.Mathlib.Nat.{mul-le-mul_left}
use lib.ListN.{length, length-drop}
use Rattle.model.proofs.Crowd.{InPool}
use Rattle.model.proofs.Lists.{every_map}
use Rattle.rank.specs.Ranking.{InTable}
use Rattle.rank.proofs.Merging as merging
use Rattle.build.proofs.Rebuilding as laws
use Rattle.build.proofs.rebuild.+rebuild.Goals as goal

pub rank-requires-clause-in_tables : goal.rank-requires-clause-in_tables
rank-requires-clause-in_tables t c =
    let K = c.args.key.now in
    every_map (InPool K.shape.c) (InTable K.shape.k (length K.keys.now)) (λ s p. record { keyed = record { some = p.0; fits = let a = c.requires.room.wide in let b = mul-le-mul_left K.shape.k p.1 in omega arith }; low = let a = p.1 in let b = c.requires.room.c_high in omega arith }) c.args.slots.now c.requires.chosen.0.each

pub rebuild-l-requires : goal.rebuild-l-requires
rebuild-l-requires t c =
    let l₀ = c.args.slots.now in
    let m = length l₀ / 2 in
    let many = c.if-n-lt4.false in
    let R = c.rank in
    let l = R.new.slots in
    let p = R.new.spare in
    let kl = R.auto.slots in
    let kp = R.auto.spare in
    let N = c.next_cut-cut in
    let x = merging.front_fits l m (rw kl (omega arith)) in
    let y = merging.front_fits p m (rw (kp ∙ c.requires.chosen.1) (omega arith)) in
    (rw (← c.decreases) (laws.lower-falls c.args.key.now.shape c.args.key.now.keys.now c.args.links.now c.args.key.now.cut l₀ l c.requires.room c.args.key.now.fits.0 c.requires.chosen.0 (λ e. omega arith) R.ensures kl), (c.requires.room, ((laws.ranked-parts c.args.key.now.shape c.args.key.now.keys.now c.args.links.now c.args.key.now.cut l₀ l c.requires.room c.args.key.now.fits.0 c.requires.chosen.0 (λ e. omega arith) R.ensures kl).left, omega arith)))

pub rebuild-r-requires : goal.rebuild-r-requires
rebuild-r-requires t c =
    let l₀ = c.args.slots.now in
    let m = length l₀ / 2 in
    let many = c.if-n-lt4.false in
    let R = c.rank in
    let l = R.new.slots in
    let p = R.new.spare in
    let kl = R.auto.slots in
    let kp = R.auto.spare in
    let N = c.next_cut-cut in
    let A = c.rebuild-l in
    let a = A.new.slots in
    let a' = A.new.spare in
    let ka = A.auto.slots in
    let ka' = A.auto.spare in
    let q : length p ≡ length l₀ = kp ∙ c.requires.chosen.1 in
    let x = length-drop (m + 1) l in
    let y = length-drop (m + 1) p in
    rw (merging.rest-is l m a (omega arith) ka (m + 1) (omega arith), merging.rest-is p m a' (omega arith) ka' (m + 1) (omega arith)) (rw (← c.decreases) (laws.upper-falls c.args.key.now.shape c.args.key.now.keys.now c.args.links.now c.args.key.now.cut l₀ l c.requires.room c.args.key.now.fits.0 c.requires.chosen.0 (λ e. omega arith) R.ensures kl), (rw A.auto.links c.requires.room, ((laws.ranked-parts c.args.key.now.shape c.args.key.now.keys.now c.args.links.now c.args.key.now.cut l₀ l c.requires.room c.args.key.now.fits.0 c.requires.chosen.0 (λ e. omega arith) R.ensures kl).right, omega arith)))

pub refresh-requires-clause-slot : goal.refresh-requires-clause-slot
refresh-requires-clause-slot t c =
    let l₀ = c.args.slots.now in
    let m = length l₀ / 2 in
    let many = c.if-n-lt4.false in
    let R = c.rank in
    let l = R.new.slots in
    let kl = R.auto.slots in
    let N = c.next_cut-cut in
    let A = c.rebuild-l in
    let a = A.new.slots in
    let ka = A.auto.slots in
    let D = c.rebuild-r in
    let e : length D.new.links ≡ length c.args.links.now = D.auto.links ∙ A.auto.links in
    let h = laws.not-tall c.args.key.now.shape c.args.key.now.keys.now c.args.links.now c.args.key.now.cut l₀ l c.requires.room c.args.key.now.fits.0 c.requires.chosen.0 (λ e. omega arith) R.ensures kl N.result N.ensures A.new.links D.new.links A.result D.result A.auto.links D.auto.links A.ensures (rw (merging.rest-is l m a (omega arith) ka (m + 1) (omega arith)) at D.ensures) in
    (rw e (laws.root-slot c.args.key.now.shape c.args.key.now.keys.now c.args.links.now c.args.key.now.cut l₀ l c.requires.room c.args.key.now.fits.0 c.requires.chosen.0 (λ e. omega arith) R.ensures kl), laws.fits c.args.key.now.shape c.args.key.now.keys.now c.args.links.now c.args.key.now.cut l₀ l c.requires.room c.args.key.now.fits.0 c.requires.chosen.0 (λ e. omega arith) R.ensures kl N.result N.ensures A.new.links D.new.links A.result D.result A.auto.links D.auto.links A.ensures (rw (merging.rest-is l m a (omega arith) ka (m + 1) (omega arith)) at D.ensures))

pub refresh-requires-clause-r_bound : goal.refresh-requires-clause-r_bound
refresh-requires-clause-r_bound t c =
    let l₀ = c.args.slots.now in
    let m = length l₀ / 2 in
    let many = c.if-n-lt4.false in
    let R = c.rank in
    let l = R.new.slots in
    let kl = R.auto.slots in
    let N = c.next_cut-cut in
    let A = c.rebuild-l in
    let a = A.new.slots in
    let ka = A.auto.slots in
    let D = c.rebuild-r in
    let e : length D.new.links ≡ length c.args.links.now = D.auto.links ∙ A.auto.links in
    let h = laws.not-tall c.args.key.now.shape c.args.key.now.keys.now c.args.links.now c.args.key.now.cut l₀ l c.requires.room c.args.key.now.fits.0 c.requires.chosen.0 (λ e. omega arith) R.ensures kl N.result N.ensures A.new.links D.new.links A.result D.result A.auto.links D.auto.links A.ensures (rw (merging.rest-is l m a (omega arith) ka (m + 1) (omega arith)) at D.ensures) in
    omega arith

pub returns-else-n-lt4 : goal.returns-else-n-lt4
returns-else-n-lt4 t c =
    let l₀ = c.args.slots.now in
    let m = length l₀ / 2 in
    let many = c.if-n-lt4.false in
    let R = c.rank in
    let l = R.new.slots in
    let kl = R.auto.slots in
    let N = c.next_cut-cut in
    let A = c.rebuild-l in
    let a = A.new.slots in
    let ka = A.auto.slots in
    let D = c.rebuild-r in
    let E = c.refresh in
    laws.rebuilt-node c.args.key.now.shape c.args.key.now.keys.now c.args.links.now c.args.key.now.cut l₀ l c.requires.room c.args.key.now.fits.0 c.requires.chosen.0 (λ e. omega arith) R.ensures kl N.result N.ensures A.new.links D.new.links A.result D.result A.auto.links D.auto.links A.ensures (rw (merging.rest-is l m a (omega arith) ka (m + 1) (omega arith)) at D.ensures) E.new.links E.auto.links E.ensures
