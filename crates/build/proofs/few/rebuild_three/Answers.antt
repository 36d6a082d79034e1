use mathlib.Core.Path.{◌∙◌}
use mathlib.Core.List.{[], ◌∷◌}
use Rattle.build.proofs.Leaves as laws
use Rattle.build.proofs.few.rebuild_three.Goals as goal

pub put_links-requires : goal.put_links-requires
put_links-requires c =
    let K = c.in_rank-three in
    let r = K.result in
    (laws.ranked-slots-fit c.args.key.now.shape c.args.key.now.keys.now c.args.links.now c.args.key.now.cut c.requires.room c.args.key.now.fits.0 (c.args.a ∷ c.args.b ∷ c.args.c ∷ []) (r.low ∷ r.middle ∷ r.high ∷ []) c.requires.chosen K.ensures).0

pub put_links-requires-2 : goal.put_links-requires-2
put_links-requires-2 c =
    let K = c.in_rank-three in
    let r = K.result in
    rw c.put_links.auto.links (laws.ranked-slots-fit c.args.key.now.shape c.args.key.now.keys.now c.args.links.now c.args.key.now.cut c.requires.room c.args.key.now.fits.0 (c.args.a ∷ c.args.b ∷ c.args.c ∷ []) (r.low ∷ r.middle ∷ r.high ∷ []) c.requires.chosen K.ensures).1.1.0

pub put_links-requires-3 : goal.put_links-requires-3
put_links-requires-3 c =
    let K = c.in_rank-three in
    let r = K.result in
    rw (c.put_links-2.auto.links ∙ c.put_links.auto.links) (laws.ranked-slots-fit c.args.key.now.shape c.args.key.now.keys.now c.args.links.now c.args.key.now.cut c.requires.room c.args.key.now.fits.0 (c.args.a ∷ c.args.b ∷ c.args.c ∷ []) (r.low ∷ r.middle ∷ r.high ∷ []) c.requires.chosen K.ensures).1.0

pub returns : goal.returns
returns c =
    let K = c.in_rank-three in
    let r = K.result in
    let P = c.put_links in
    let Q = c.put_links-2 in
    let M = c.put_links-3 in
    laws.rebuilt-three c.args.key.now.shape c.args.key.now.keys.now c.args.links.now c.args.key.now.cut c.requires.room c.args.key.now.fits.0 c.args.a c.args.b c.args.c r.low r.middle r.high c.requires.chosen K.ensures P.new.links Q.new.links M.new.links P.auto.links Q.auto.links M.auto.links P.ensures Q.ensures M.ensures
