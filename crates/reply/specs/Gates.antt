-- The declared gate, and the lengths that it asks.
use Rattle.std.proofs.Math.Option.{Option, none, some}
use Rattle.std.specs.Prelude.{Bool, not, ◌&&◌, List, [], ◌∷◌, ◌++◌, ℕ, ◌*◌, eqb, length, ℤ, Result, Ok, Err}
use Rattle.model.specs.Answer.{Row}
use Rattle.model.specs.Gate.{rows3}
use Rattle.model.specs.Pool.{sound}
use Rattle.model.specs.Tray.{trayed}
use Rattle.model.specs.declared.Head.{Head}
use Rattle.model.specs.declared.Refusal.{Refusal}
use Rattle.model.specs.declared.Refusal.TheVariants.{Unsound, Tray}

-- a call is let in, or shut out by a refusal
abbrev pub Gate : Type 0
Gate = Result (Unit {0}) Refusal

abbrev pub told : Option Refusal → Gate
told none = Ok tt
told (some r) = Err r

-- keys, links and scratch have the lengths that the table asks
abbrev pub fitting : ℕ → ℕ → ℕ → ℕ → ℕ → Bool
fitting K C nk nl ns = (eqb nk (K * C) && eqb nl (3 * C)) && eqb ns C

-- row 4
abbrev pub judged : Head → List ℤ → List ℕ → List Row
judged h ks ls = (not (sound h ks ls), Unsound) ∷ []

-- rows 1 to 4, where ns is the length of the scratch
abbrev pub pooled : Head → List ℤ → List ℕ → ℕ → List Row
pooled h ks ls ns = rows3 h.k h.c (fitting h.k h.c (length ks) (length ls) ns) ++ judged h ks ls

-- the rows of a tray of these numbers
abbrev pub handed : Head → List ℤ → List ℕ → ℕ → List ℤ → List Row
handed h ks ls ns xs = rows3 h.k h.c (fitting h.k h.c (length ks) (length ls) ns) ++ ((not (trayed h.k xs), Tray) ∷ judged h ks ls)
