use native.Mathlib.Omega.{arith}
use Rattle.desk.proofs.Worked.{works-first, works-sound, works-fit, works-right, works-next, works-done}
use Rattle.desk.proofs.working.work_all.Goals as goal

pub loop-i-init : goal.loop-i-init
loop-i-init c = works-first c.args.head c.args.keys.now c.args.links.now c.requires.sound c.args.items.now c.args.lists.now c.requires.links_value c.requires.lists

pub work_one-after-requires-clause-sound : goal.work_one-after-requires-clause-sound
work_one-after-requires-clause-sound c = let l = c.loop-i in (works-sound c.args.head c.args.keys.now c.args.links.now c.requires.sound c.args.items.now l.keys l.links c.args.lists.now l.lists l.after l.i l.invariant (omega arith), works-fit c.args.head c.args.keys.now c.args.links.now c.requires.sound c.args.items.now l.keys l.links c.args.lists.now l.lists l.after l.i l.invariant (omega arith))

pub work_one-after-requires-clause-links_value : goal.work_one-after-requires-clause-links_value
work_one-after-requires-clause-links_value c = let l = c.loop-i in works-right c.args.head c.args.keys.now c.args.links.now c.requires.sound c.args.items.now l.keys l.links c.args.lists.now l.lists l.after l.i l.invariant (omega arith)

pub loop-i-preserved : goal.loop-i-preserved
loop-i-preserved c = let l = c.loop-i in let y = c.work_one-after in works-next c.args.head c.args.keys.now c.args.links.now c.requires.sound c.args.items.now l.keys l.links c.args.lists.now l.lists l.after l.i l.invariant (omega arith) y.new.keys y.new.links y.new.lists y.result y.ensures.pool y.ensures.lists y.auto.keys y.auto.links

pub returns-clause-pool : goal.returns-clause-pool
returns-clause-pool c = let l = c.loop-i in works-done c.args.head c.args.keys.now c.args.links.now c.requires.sound c.args.items.now l.keys l.links c.args.lists.now l.lists l.after l.i l.invariant (omega arith)
