use native.Mathlib.Omega.{arith}
use Rattle.build.proofs.Leaves as laws
use Rattle.build.proofs.Rebuilding.{rebuilt-nil}
use Rattle.build.proofs.few.rebuild_few.Goals as goal

pub returns-in-empty : goal.returns-in-empty
returns-in-empty c = rebuilt-nil c.args.key.now.shape.k c.args.key.now.keys.now c.args.key.now.cut c.args.links.now c.args.slots.now (omega arith)

pub returns-in-len1 : goal.returns-in-len1
returns-in-len1 c =
    let P = c.put_links in
    laws.rebuilt-single c.args.key.now.shape c.args.key.now.keys.now c.args.key.now.cut c.args.links.now P.new.links c.args.slots.now c.requires.room c.requires.chosen.0 (omega arith) P.auto.links P.ensures
