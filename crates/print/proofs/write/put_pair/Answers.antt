use mathlib.Core.Path.{ap}
use native.Mathlib.Omega.{arith}
use lib.ListN.{length}
use Rattle.print.proofs.Signs.{print-back}
use Rattle.print.proofs.Writes as laws
use Rattle.print.proofs.write.put_pair.Goals as goal

pub returns : goal.returns
returns c = let b = ap length (print-back c.args.x c.ranges.x) in let z = laws.pair_size c.args.name c.args.x c.args.end in
    let e = c.put_signed-to.ensures in
    (laws.pair-written c.args.out.now c.args.at c.args.name c.args.x c.args.end c.requires _ _ (rw (print-back c.args.x c.ranges.x) at e.0) (omega arith), omega arith)
