use Rattle.model.specs.Text.{decimal}
use Rattle.page.proofs.Pieces.{join}
use Rattle.page.proofs.word.put_number.Goals as goal

pub returns : goal.returns
returns c =
    let B = c.put_bytes-to in
    let D = c.put_decimal in
    join c.args.room.now c.args.at c.args.word.now (decimal c.args.n) B.new.out B.result D.new.out D.result c.requires B.ensures D.ensures
