use Rattle.page.proofs.Takes.{answer-ready, taken-put}
use Rattle.page.proofs.taken.put_taken.Goals as goal

pub put_answer-requires : goal.put_answer-requires
put_answer-requires c =
    let A = c.start-fresh in
    let T = c.take_in-taken in
    answer-ready c.args.text.now c.args.k c.requires.saved_in.0 c.args.keys.now c.args.links.now c.args.scratch.now c.requires.keys_value A.result A.new.keys A.new.links (A.ensures.answer, (A.ensures.keys, A.ensures.links)) T.result T.new.keys T.new.links T.ensures.answer T.ensures.keys T.ensures.links c.args.room.now c.requires.saved_in.1

pub returns : goal.returns
returns c =
    let A = c.start-fresh in
    let T = c.take_in-taken in
    let P = c.put_answer in
    taken-put c.args.text.now c.args.k c.requires.saved_in.0 c.args.keys.now c.args.links.now c.args.scratch.now c.requires.keys_value A.result A.new.keys A.new.links (A.ensures.answer, (A.ensures.keys, A.ensures.links)) T.result T.new.keys T.new.links T.ensures.answer T.ensures.keys T.ensures.links c.args.room.now P.new.room P.result P.ensures
