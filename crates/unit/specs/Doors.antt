-- A pool judged from outside: 0, or the number of the refusal that every reading call but look-up would give it first.
use Rattle.std.proofs.Math.Option.{Option, none, some}
use Rattle.std.specs.Prelude.{List, ℕ, ℤ}
use Rattle.model.specs.Answer.{gate, number_of}
use Rattle.model.specs.Gate.{rows4}
use Rattle.model.specs.declared.Head.{Head}
use Rattle.model.specs.declared.Refusal.{Refusal}

abbrev pub numbered : Option Refusal → ℕ
numbered none = 0
numbered (some r) = number_of r

abbrev pub judged : Head → List ℤ → List ℕ → ℕ
judged h ks ls = numbered (gate (rows4 h ks ls))
