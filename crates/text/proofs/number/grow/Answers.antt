use Rattle.text.proofs.Readings as laws
use Rattle.text.proofs.number.grow.Goals as goal

pub returns-then-value-gt922337203685477580 : goal.returns-then-value-gt922337203685477580
returns-then-value-gt922337203685477580 c = search laws.grown-cap

pub returns-else-value-gt922337203685477580 : goal.returns-else-value-gt922337203685477580
returns-else-value-gt922337203685477580 c = rw c.from.ensures (search laws.grown-more)
