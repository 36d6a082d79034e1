use native.Mathlib.Omega.{arith}
use Rattle.print.proofs.Writes as laws
use Rattle.print.proofs.write.put_title.Goals as goal

pub returns : goal.returns
returns c =
    let d = c.put_decimal-end.ensures in
    let w = c.put_bytes-entries.ensures in
    let k = c.put_decimal-word.ensures in
    let f = c.put_bytes-fields.ensures in
    (laws.title-all c.args.out.now c.args.at c.args.k c.args.n c.requires _ _ f.0 f.1 _ _ k.0 k.1 _ _ w.0 w.1 _ _ d.0 d.1, omega (arith, laws.title-size c.args.k c.args.n, f.1, k.1, w.1, d.1))
