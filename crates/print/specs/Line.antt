-- An entry line as a row of pairs, each with the one byte that ends it.
use Rattle.std.specs.Prelude.{List, [], ◌∷◌, ◌++◌, ℕ, zero, suc, ℤ, length}
use Rattle.model.specs.Entry.{Entry}
use Rattle.model.specs.Text.{signed}

-- What ends the first of so many pairs: LF where it is the last, else a space.
unfoldable pub end_byte_of : ℕ → ℕ
end_byte_of zero = 32
end_byte_of (suc zero) = 10
end_byte_of (suc (suc n)) = 32

-- A name, `=`, a number, and the byte behind it.
abbrev pub pair_of : ℕ → ℤ → ℕ → List ℕ
pair_of name x end = name ∷ 61 ∷ (signed x ++ (end ∷ []))

-- The line with its LF, where there is a pair.
unfoldable pub ended : ℕ → Entry → List ℕ
ended name [] = []
ended name (x ∷ xs) = pair_of name x (end_byte_of (suc (length xs))) ++ ended (suc name) xs
