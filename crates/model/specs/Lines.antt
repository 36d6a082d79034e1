-- A text line by line: which of its lines are right. It says without reading on what `Text` says by reading on.
use Rattle.std.specs.Prelude.{List, [], ◌∷◌, Bool, true, false, ℕ, zero, suc, ltb}
use Rattle.std.proofs.Math.Option.{Option, none, some}
use Rattle.model.specs.Entry.{Entry}
use Rattle.model.specs.Text.{cut_line, title_of_line, entry_of_line, rises}

-- What stands behind so many lines of a text; nothing where it has fewer.
abbrev pub past : ℕ → List ℕ → List ℕ
past zero text = text
past (suc i) text = elim (cut_line text) [ none ↦ [] | some c ↦ past i c.1 ]

-- The entry on the line behind so many lines; none where that line is missing, lacks its LF or is malformed.
abbrev pub entry_past : ℕ → ℕ → List ℕ → Option Entry
entry_past K i text = elim (cut_line (past i text)) [ none ↦ none | some c ↦ entry_of_line K c.0 ]

-- What the first line says: fields and number of entries.
abbrev pub title_in : List ℕ → Option (ℕ × ℕ)
title_in text = elim (cut_line text) [ none ↦ none | some c ↦ title_of_line c.0 ]

-- The entry in front of the line behind so many lines; the first entry line has none.
abbrev pub entry_before : ℕ → ℕ → List ℕ → Option Entry
entry_before K zero text = none
entry_before K (suc zero) text = none
entry_before K (suc (suc i)) text = entry_past K (suc i) text

abbrev pub is_empty : List ℕ → Bool
is_empty [] = true
is_empty (b ∷ bs) = false

abbrev pub rises_behind : Option Entry → Option Entry → Bool
rises_behind last none = false
rises_behind last (some e) = rises last e

-- Whether line number suc i is right: line 1 is a title; lines 2 to N+1 have an entry each that rises; line N+2 is not there, and what
-- is not there is right. (When the book says no, 9: the line is the first that is not.)
abbrev pub right_line : List ℕ → ℕ → Bool
right_line text zero = elim (title_in text) [ none ↦ false | some kn ↦ true ]
right_line text (suc i) =
    elim (title_in text) [
      | none ↦ false
      | some kn ↦ elim (ltb i kn.1) [
        | true ↦ rises_behind (entry_before kn.0 (suc i) text) (entry_past kn.0 (suc i) text)
        | false ↦ is_empty (past (suc kn.1) text)
      ]
    ]
