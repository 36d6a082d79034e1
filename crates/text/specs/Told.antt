-- What the reading functions answer.
use denote.Bor.{Bor}
use Rattle.std.specs.Prelude.{◌≡◌, Option as Maybe, Some, None, Result, Ok, Err, List, ◌∷◌, ◌++◌, true, ℕ, ◌-◌, ℤ, pos, length, take, replicate}
use Rattle.std.proofs.Math.Option.{Option, none, some}
use Rattle.model.specs.Answer.{outward}
use Rattle.model.specs.Entry.{Entry}
use Rattle.model.specs.declared.Entry.{Entry as Four}
use Rattle.model.specs.Text.{Parsed, broken, saved, pairs, ranged}
use Rattle.text.specs.declared.title.Title.{Title}
use Rattle.text.specs.declared.Broken.{Broken}

-- A reader's answer: what it read and what is left of the text, or nothing.
abbrev pub told : {A : Type 0} → Maybe (A × Bor (List ℕ)) → Option (A × List ℕ)
told None = none
told (Some (a, rest)) = some (a, rest.now)

-- The entry in front: the first has none.
abbrev pub last_of : ℕ → Maybe (List ℤ) → Option Entry
last_of k None = none
last_of k (Some f) = some (take k f)

-- The numbers of an entry line: 0 beyond the k that were read.
pub record Filled (k : ℕ) (f : List ℤ) : Type 0 where
  pub zeros : f ≡ take k f ++ replicate (4 - k) (pos 0)
  pub sized : length f ≡ 4

-- The verdict on a text, with no list of entries.
abbrev pub summed : Parsed → Result Title Broken
summed (broken l) = Err (record { line = l })
summed (saved K es) = Ok (record { fields = K; entries = length es })

-- An entry line of k fields stands in front of `rest`.
pub record Stands (bs : List ℕ) (k : ℕ) (e : Entry) (rest : List ℕ) : Type 0 where
  pub printed : bs ≡ pairs 97 e ++ (10 ∷ rest)
  pub sized : length e ≡ k
  pub in_range : ranged e ≡ true

-- Some entry line stands there.
pub record Standing (bs : List ℕ) (k : ℕ) : Type 0 where
  pub entry : Entry
  pub rest : List ℕ
  pub stands : Stands bs k entry rest

-- The entry that was read, and what stands behind its line.
pub record ReadBack (r : Four × Bor (List ℕ)) (e : Entry) (rest : List ℕ) : Type 0 where
  pub entry : r.0 ≡ outward e
  pub left : r.1.now ≡ rest
