use mathlib.Core.List.{[], ◌∷◌}
use Prim.Native.Nat.{◌+◌}
use native.Mathlib.Omega.{arith}
use Rattle.model.specs.Show.{cut_is}
use Rattle.page.proofs.Pieces.{next_fits, join, two}
use Rattle.page.proofs.word.put_cut.Goals as goal

pub returns : goal.returns
returns c =
    let B = c.put_bytes-to in
    let tail = (97 + c.args.cut) ∷ 32 ∷ [] in
    let n = next_fits c.args.room.now c.args.at cut_is tail B.new.out B.result c.requires.1 B.ensures in
    join c.args.room.now c.args.at cut_is tail B.new.out B.result _ _ c.requires.1 B.ensures (two B.new.out B.result (97 + c.args.cut) 32 (omega arith))
