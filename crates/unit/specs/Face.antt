-- What the numbers of the C face stand for: an answer's outcome as numbers, and a bound from its kind and ends.
use Rattle.std.specs.Prelude.{cond, List, [], ◌∷◌, ℕ, eqb}
use Rattle.model.specs.Answer.{refusal_in}
use Rattle.model.specs.declared.Outcome.{Outcome}
use Rattle.model.specs.declared.Outcome.TheVariants.{Found, Absent, Done, Refused}
use Rattle.model.specs.declared.Answer.{Answer}
use Rattle.model.specs.declared.Bound.{Bound}
use Rattle.model.specs.declared.Bound.TheVariants.{Free, AtLeast, AtMost, Between}
use Rattle.unit.specs.declared.face.Limit.{Limit}
use Rattle.unit.specs.declared.face.Told.{Told}

-- The number of every outcome, in the paper's order.
abbrev pub outcome_in : Outcome → ℕ
outcome_in Found = 1
outcome_in Absent = 2
outcome_in Done = 3
outcome_in (Refused r) = 4

-- An answer made flat: the outcome and the refusal as numbers, every other part as it is.
abbrev pub told : Answer → Told
told a = record { outcome = outcome_in a.outcome; refusal = refusal_in a.outcome; head = a.head; entry = a.entry; slot = a.slot; reads = a.reads; distance = a.distance; count = a.count; bytes = a.bytes; line = a.line; place = a.place }

-- The bound that a kind and two ends stand for: 0 free, 1 at least, 2 at most, any other between.
abbrev pub bound : Limit → Bound
bound l = cond (eqb l.kind 0) Free (cond (eqb l.kind 1) (AtLeast l.low) (cond (eqb l.kind 2) (AtMost l.high) (Between l.low l.high)))

-- One bound for each field.
abbrev pub bounds : List Limit → List Bound
bounds [] = []
bounds (l ∷ ls) = bound l ∷ bounds ls
