use borrow.Author.Rules.{rules}
use Rattle.std.proofs.lemmas.Cmp.{by_ranked}
use Rattle.cells.proofs.Orders.{spans-equal, spans-less, spans-greater}
use Rattle.cells.proofs.order.compare.Goals as goal

pub returns : goal.returns
returns c = by_ranked _ _ _ c.in_order.result c.then_with.ensures (λ e p. search (spans-less, rules)) (λ e p. search (spans-equal, rules)) (λ e p. search (spans-greater, rules))
