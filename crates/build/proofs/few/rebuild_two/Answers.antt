use Rattle.build.proofs.Leaves as laws
use Rattle.build.proofs.few.rebuild_two.Goals as goal

pub returns : goal.returns
returns c =
    let T = c.behind-turned in
    let L = c.either-low in
    let H = c.either-high in
    let k = laws.ranked-picked c.args.key.now.shape.k c.args.key.now.keys.now c.args.key.now.cut c.args.a c.args.b T.result T.ensures L.result H.result L.ensures H.ensures in
    let P = c.put_links in
    let Q = c.put_links-2 in
    laws.rebuilt-two c.args.key.now.shape c.args.key.now.keys.now c.args.links.now c.args.key.now.cut c.requires.room c.args.key.now.fits.0 c.args.a c.args.b L.result H.result c.requires.chosen k P.new.links Q.new.links P.auto.links Q.auto.links P.ensures Q.ensures
