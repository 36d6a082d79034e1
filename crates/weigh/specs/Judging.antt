-- What is wrong with an item, told from what is known of its entry, and the first wrong item of a tray.
use Rattle.std.specs.Prelude.{Bool, true, false, not, List, [], ◌∷◌, ℕ, eqb, Result, Ok, Err}
use Rattle.std.specs.declared.option.Option.{Option as Maybe}
use Rattle.std.specs.declared.option.Option.TheVariants.{Some, None}
use Rattle.std.proofs.Math.Option.{Option, none, some}
use Rattle.model.specs.Answer.{Row, gate}
use Rattle.model.specs.declared.Refusal.{Refusal}
use Rattle.model.specs.declared.Refusal.TheVariants.{Present, Missing, Full}

abbrev pub verdict : Option Refusal → Result (Unit {0}) Refusal
verdict none = Ok tt
verdict (some r) = Err r

-- the rows of an add and of a strike, where the entry is there or not and n of C slots are used
abbrev pub rows_of : Bool → Bool → ℕ → ℕ → List Row
rows_of true there n C = (there, Present) ∷ (eqb n C, Full) ∷ []
rows_of false there n C = (not there, Missing) ∷ []

abbrev pub verdict_on : Bool → Bool → ℕ → ℕ → Result (Unit {0}) Refusal
verdict_on add there n C = verdict (gate (rows_of add there n C))

abbrev pub first_of : Option (ℕ × Refusal) → Maybe (ℕ × Refusal)
first_of none = None
first_of (some w) = Some w
