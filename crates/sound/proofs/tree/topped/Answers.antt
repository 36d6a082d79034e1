use Rattle.std.proofs.Common.{rules}
use Rattle.sound.proofs.Marks.{topped-by}
use Rattle.sound.proofs.tree.topped.Goals as goal

pub returns : goal.returns
returns c = search (topped-by, rules)
