use mathlib.Core.Path.{◌≡◌}
use Prim.Native.Nat.{◌≤◌, ◌*◌}
use lib.ListN.{length, drop}
use lib.Seq.{sets}
use Rattle.sheet.specs.Listing.{numbers_in}
use Rattle.sheet.proofs.listing.write_entries.Given as goal

abbrev pub invariant-loop-i : goal.invariant-loop-i
invariant-loop-i l = (l.i ≤ length l.slots) × ((length l.room ≡ length l.initial.room) × (sets l.room (l.shape.k * l.i) (numbers_in l.shape.k l.keys (drop l.i l.slots)) ≡ sets l.initial.room 0 (numbers_in l.shape.k l.keys l.slots)))
