use mathlib.Core.Path.{refl}
use Prim.Native.Nat.{◌+◌}
use Rattle.cells.proofs.Orders.{deeper-wrap, deeper-on}
use borrow.Author.Rules.{rules}
use Rattle.cells.proofs.order.next_cut.Goals as goal

pub returns-then-next-shape : goal.returns-then-next-shape
returns-then-next-shape c = let A = c.args in deeper-wrap A.shape.k A.cut (A.cut + 1) (search rules) refl (search rules)

pub returns-else-next-shape : goal.returns-else-next-shape
returns-else-next-shape c = let A = c.args in deeper-on A.shape.k A.cut (A.cut + 1) (search rules) refl (search rules)
