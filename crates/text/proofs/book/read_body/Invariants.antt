use mathlib.Core.Path.{◌≡◌}
use mathlib.Core.Option.{none}
use Prim.Native.Nat.{◌+◌, ◌-◌}
use Rattle.model.specs.Text.{body}
use Rattle.text.specs.Told.{last_of, summed}
use Rattle.text.proofs.BookBack.{more}
use Rattle.text.proofs.book.read_body.Given as goal

abbrev pub invariant-loop-i : goal.invariant-loop-i
invariant-loop-i l = summed (body l.n l.k 2 none l.text) ≡ more l.i (body (l.n - l.i) l.k (l.i + 2) (last_of l.k l.last) l.rest)
