use Rattle.cells.proofs.Slots.{put}
use Rattle.cells.proofs.slot.put_links.Goals as goal

pub returns : goal.returns
returns c = put c.args.links.now c.args.s c.args.l c.args.r c.args.h c.requires
