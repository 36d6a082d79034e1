use native.Mathlib.Omega.{arith}
use Rattle.weigh.proofs.Saved.{text-cut, reads_first, line-ready}
use Rattle.desk.proofs.TakesIn.{puts_first, sound-on, room-on, puts-on, puts-end}
use Rattle.desk.proofs.taking.put_all.Goals as goal

pub first_entry-rest-requires : goal.first_entry-rest-requires
first_entry-rest-requires c = text-cut c.args.text.now c.args.head.k c.args.lines c.requires.sound.1

pub loop-init : goal.loop-init
loop-init c = puts_first c.args.head c.args.keys.now c.args.links.now c.requires.sound.0 c.args.text.now c.args.lines c.requires.sound.1 c.requires.text_bound c.args.lists.now c.first_entry-rest.result.now c.requires.lists (reads_first c.args.text.now c.args.head.k c.args.lines c.requires.sound.1 c.first_entry-rest.result.now c.first_entry-rest.ensures)

pub read_entry-requires : goal.read_entry-requires
read_entry-requires c = let l = c.loop in line-ready c.args.text.now c.args.head.k c.args.lines c.requires.sound.1 l.rest.now l.counter l.invariant.reading (omega arith)

pub put_in-after-requires-clause-sound : goal.put_in-after-requires-clause-sound
put_in-after-requires-clause-sound c = let l = c.loop in sound-on c.args.head c.args.keys.now c.args.links.now c.requires.sound.0 c.args.text.now c.args.lines c.requires.sound.1 l.keys l.links c.args.lists.now l.lists l.after l.rest.now l.counter l.invariant (omega arith)

pub put_in-after-requires-clause-n_lt_c : goal.put_in-after-requires-clause-n_lt_c
put_in-after-requires-clause-n_lt_c c = let l = c.loop in let r = c.read_entry in room-on c.args.head c.args.keys.now c.args.links.now c.requires.sound.0 c.args.text.now c.args.lines c.requires.sound.1 l.keys l.links c.args.lists.now l.lists l.after l.rest.now l.counter l.invariant (omega arith) r.result r.ensures

pub loop-preserved : goal.loop-preserved
loop-preserved c = let l = c.loop in let r = c.read_entry in let y = c.put_in-after in puts-on c.args.head c.args.keys.now c.args.links.now c.requires.sound.0 c.args.text.now c.args.lines c.requires.sound.1 l.keys l.links c.args.lists.now l.lists l.after l.rest.now l.counter l.invariant (omega arith) r.result r.ensures y.new.keys y.new.links y.new.lists y.result y.ensures.pool y.ensures.lists y.auto.keys y.auto.links

pub returns-clause-pool : goal.returns-clause-pool
returns-clause-pool c = let l = c.loop in puts-end c.args.head c.args.keys.now c.args.links.now c.requires.sound.0 c.args.text.now c.args.lines c.requires.sound.1 c.requires.text_bound l.keys l.links c.args.lists.now l.lists l.after l.rest.now l.counter l.invariant (omega arith)
