use Rattle.std.proofs.Common.{arith, rules}
use lib.ListN.{length-set}
use Rattle.model.proofs.Machine.{back}
use Rattle.text.proofs.Pairs as laws
use Rattle.text.proofs.line.read_line.Goals as goal

pub returns-in_err-f-clause-read : goal.returns-in_err-f-clause-read
returns-in_err-f-clause-read c = rw c.from_residual.ensures (laws.line-none _ _ _ _ _ c.loop-i.invariant.read (omega arith) _ c.end_byte.ensures c.in_err-f.ensures)

pub loop-i-preserved : goal.loop-i-preserved
loop-i-preserved c =
    record {
      zeros = laws.fill_on _ _ _ c.loop-i.invariant.zeros (omega arith);
      sized = simp length-set (omega arith);
      read = laws.line-more _ _ _ _ _ c.loop-i.invariant.read (omega arith) _ c.end_byte.ensures _ _ c.in_ok-f.ensures (omega arith) _ (search (rules, back));
    }

pub returns-clause-read : goal.returns-clause-read
returns-clause-read c = laws.line-done _ _ c.loop-i.f _ _ c.loop-i.invariant.read (omega arith)
