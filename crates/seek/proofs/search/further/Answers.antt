use Rattle.seek.proofs.Seeking as laws
use Rattle.seek.proofs.search.further.Goals as goal

pub returns-in-Less-Left-2 : goal.returns-in-Less-Left-2
returns-in-Less-Left-2 c = search laws.greater-right

pub returns-in-Less-Right : goal.returns-in-Less-Right
returns-in-Less-Right c = search laws.less-right

pub returns-in-Equal-default : goal.returns-in-Equal-default
returns-in-Equal-default c = search laws.equal
