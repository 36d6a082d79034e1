use Rattle.std.proofs.Common.{arith}
use Rattle.text.proofs.LineBack as laws
use Rattle.text.proofs.line.read_entry.Goals as goal

pub unwrap-requires : goal.unwrap-requires
unwrap-requires c = laws.read_some _ _ (omega arith) _ c.read_line.ensures.read c.requires.1

pub returns : goal.returns
returns c = laws.entry_read _ _ (omega arith) _ _ c.unwrap.ensures c.read_line.ensures.read c.read_line.ensures.filled
