use Rattle.print.proofs.Rows as laws
use Rattle.print.proofs.write.end_byte.Goals as goal

pub returns-then-i-n : goal.returns-then-i-n
returns-then-i-n c = search laws.end-last

pub returns-else-i-n : goal.returns-else-i-n
returns-else-i-n c = search laws.end-other
