use Rattle.desk.proofs.Worked.{add-new, add-room, work-added, strike-there, work-struck}
use Rattle.desk.proofs.working.work_one.Goals as goal

pub add_one-requires-clause-sound : goal.add_one-requires-clause-sound
add_one-requires-clause-sound c = let e = c.entry_in-e in let a = c.adds in let t = c.if-adds.true in (c.requires.sound.0, add-room c.args.head c.args.keys.now c.args.links.now c.requires.sound.0 c.args.items.now c.args.i c.requires.sound.1 e.result (rw c.item_at-item.ensures at e.ensures) c.requires.links_value a.result (rw c.item_at-item.ensures at a.ensures) t)

pub add_one-requires-clause-links_value : goal.add_one-requires-clause-links_value
add_one-requires-clause-links_value c = let e = c.entry_in-e in let a = c.adds in let t = c.if-adds.true in add-new c.args.head c.args.keys.now c.args.links.now c.requires.sound.0 c.args.items.now c.args.i c.requires.sound.1 e.result (rw c.item_at-item.ensures at e.ensures) c.requires.links_value a.result (rw c.item_at-item.ensures at a.ensures) t

pub returns-then-adds-clause-pool : goal.returns-then-adds-clause-pool
returns-then-adds-clause-pool c = let e = c.entry_in-e in let a = c.adds in let y = c.add_one in work-added c.args.head c.args.keys.now c.args.links.now c.requires.sound.0 c.args.items.now c.args.i c.requires.sound.1 e.result (rw c.item_at-item.ensures at e.ensures) c.requires.links_value a.result (rw c.item_at-item.ensures at a.ensures) c.if-adds.true y.new.keys y.new.links y.result y.ensures.pool

pub strike_one-requires-clause-links_value : goal.strike_one-requires-clause-links_value
strike_one-requires-clause-links_value c = let e = c.entry_in-e in let a = c.adds in strike-there c.args.head c.args.keys.now c.args.links.now c.requires.sound.0 c.args.items.now c.args.i c.requires.sound.1 e.result (rw c.item_at-item.ensures at e.ensures) c.requires.links_value a.result (rw c.item_at-item.ensures at a.ensures) c.if-adds.false

pub returns-else-adds-clause-pool : goal.returns-else-adds-clause-pool
returns-else-adds-clause-pool c = let e = c.entry_in-e in let a = c.adds in let y = c.strike_one in work-struck c.args.head c.args.keys.now c.args.links.now c.requires.sound.0 c.args.items.now c.args.i c.requires.sound.1 e.result (rw c.item_at-item.ensures at e.ensures) c.requires.links_value a.result (rw c.item_at-item.ensures at a.ensures) c.if-adds.false y.new.keys y.new.links y.result y.ensures.pool
