use lib.ListN.{length}
use Rattle.reply.proofs.Gates.{shut-gate, open-gate, room}
use Rattle.book.proofs.Starts.{head-of_zeros, start-shut, start-open}
use borrow.Author.Rules.{rules}
use Rattle.book.proofs.start.Goals as goal

pub returns-in-Err : goal.returns-in-Err
returns-in-Err c =
    let g = c.sizes in
    let r = start-shut c.args.k c.args.c c.args.keys.now c.args.links.now c.refused.result c.in-Err.why (rw (head-of_zeros c.default.result (search rules)) at c.refused.ensures) (shut-gate c.args.k c.args.c (length c.args.keys.now) (length c.args.links.now) c.args.c g.result g.ensures c.in-Err.why c.in-Err.is) in
    record { answer = r.0; keys = r.1.0; links = r.1.1 }

pub returns : goal.returns
returns c =
    let g = c.sizes in
    let o = c.in_default.is in
    let r = start-open c.args.k c.args.c c.args.keys.now c.args.links.now c.begun.result c.clear_numbers.new.keys c.chain_up.new.links (open-gate c.args.k c.args.c (length c.args.keys.now) (length c.args.links.now) c.args.c g.result g.ensures o) (room c.args.k c.args.c (length c.args.keys.now) (length c.args.links.now) c.args.c g.result g.ensures o) (c.begun.ensures (room c.args.k c.args.c (length c.args.keys.now) (length c.args.links.now) c.args.c g.result g.ensures o).c_low) c.clear_numbers.ensures c.chain_up.ensures in
    record { answer = r.0; keys = r.1.0; links = r.1.1 }
