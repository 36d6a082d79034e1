use Rattle.mend.proofs.Littles as laws
use Rattle.mend.proofs.little.three_at.Goals as goal

pub two_at-requires : goal.two_at-requires
two_at-requires c =
    laws.right-lying c.requires.0 c.left_of.ensures c.right_of-r.ensures c.requires.1

pub returns-in_ok-two-in-0-default : goal.returns-in_ok-two-in-0-default
returns-in_ok-two-in-0-default c =
    let two = c.in_ok-two-in-0-default in
    laws.three-right c.requires.0 c.left_of.ensures c.right_of-r.ensures c.in-0-default.is-0 two.ensures

pub two_at-requires-in_default-eq0 : goal.two_at-requires-in_default-eq0
two_at-requires-in_default-eq0 c =
    laws.left-lying c.requires.0 c.left_of.ensures c.right_of-r.ensures c.requires.1

pub returns-in_ok-two-in_default-eq0 : goal.returns-in_ok-two-in_default-eq0
returns-in_ok-two-in_default-eq0 c =
    let two = c.in_ok-two-in_default-eq0 in
    laws.three-left c.requires.0 c.left_of.ensures c.right_of-r.ensures c.in_default-eq0.is-1 two.ensures
