-- The words of the first line.
use Rattle.std.specs.Prelude.{List, [], ◌∷◌, ℕ}

abbrev pub fields_word : List ℕ
fields_word = 98 ∷ 111 ∷ 111 ∷ 107 ∷ 61 ∷ 49 ∷ 32 ∷ 102 ∷ 105 ∷ 101 ∷ 108 ∷ 100 ∷ 115 ∷ 61 ∷ []

abbrev pub entries_word : List ℕ
entries_word = 32 ∷ 101 ∷ 110 ∷ 116 ∷ 114 ∷ 105 ∷ 101 ∷ 115 ∷ 61 ∷ []
