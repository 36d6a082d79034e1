use Rattle.mend.proofs.Littles as laws
use Rattle.mend.proofs.little.two_at.Goals as goal

pub height_of-requires : goal.height_of-requires
height_of-requires c = laws.lying-bound c.requires

pub left_of-requires : goal.left_of-requires
left_of-requires c = laws.two-slot c.height_of.ensures c.if-height_of-ne2.false c.requires

pub right_of-r-requires : goal.right_of-r-requires
right_of-r-requires c = laws.two-slot c.height_of.ensures c.if-height_of-ne2.false c.requires

pub returns-in-0-default : goal.returns-in-0-default
returns-in-0-default c =
    laws.two-right c.height_of.ensures c.if-height_of-ne2.false c.left_of.ensures c.right_of-r.ensures c.in-0-default.is-0

pub returns-in_default-eq0 : goal.returns-in_default-eq0
returns-in_default-eq0 c =
    laws.two-left c.height_of.ensures c.if-height_of-ne2.false c.left_of.ensures c.right_of-r.ensures c.in_default-eq0.is-1
