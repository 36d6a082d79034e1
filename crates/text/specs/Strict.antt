-- Reading from left to right, refusing at the first wrong byte: what the code computes. The laws say that it is what the model's text says.
use Rattle.std.specs.Prelude.{List, [], ◌∷◌, Bool, true, false, ◌&&◌, ℕ, zero, suc, ◌+◌, ◌-◌, ◌*◌, eqb, leb, ltb, ℤ, pos, negsuc}
use Rattle.std.proofs.Math.Option.{Option, none, some}
use Rattle.model.specs.Entry.{Entry}
use Rattle.print.specs.Line.{end_byte_of}
use Rattle.print.specs.Title.{entries_word, fields_word}

-- One digit more. What passes 2^63 stays at 2^63 + 1, so that no sum wraps.
unfoldable pub grown : ℕ → ℕ → ℕ
grown n d = elim (ltb 922337203685477580 n) [ true ↦ 9223372036854775809 | false ↦ n * 10 + d ]

-- The number that n and the digits at the front spell, and what stands behind them.
unfoldable pub capped : List ℕ → ℕ → ℕ × List ℕ
capped [] n = (n, [])
capped (b ∷ bs) n = elim (leb 48 b && leb b 57) [ true ↦ capped bs (grown n (b - 48)) | false ↦ (n, b ∷ bs) ]

abbrev pub Decimally : Type 0
Decimally = Option (ℕ × List ℕ)

abbrev pub Signedly : Type 0
Signedly = Option (ℤ × List ℕ)

abbrev pub small : ℕ × List ℕ → Decimally
small d = elim (leb d.0 9223372036854775808) [ true ↦ some d | false ↦ none ]

-- A decimal up to 2^63; behind a 0 it ends.
unfoldable pub decimal_at : List ℕ → Decimally
decimal_at [] = none
decimal_at (b ∷ bs) = elim (eqb b 48) [ true ↦ some (0, bs) | false ↦ elim (leb 48 b && leb b 57) [ true ↦ small (capped bs (b - 48)) | false ↦ none ] ]

-- Behind a minus: any but 0. With no minus: below 2^63.
unfoldable pub below : Decimally → Signedly
below none = none
below (some (zero, r)) = none
below (some (suc n, r)) = some (negsuc n, r)

unfoldable pub above : Decimally → Signedly
above none = none
above (some (n, r)) = elim (ltb n 9223372036854775808) [ true ↦ some (pos n, r) | false ↦ none ]

unfoldable pub number_at : List ℕ → Signedly
number_at [] = none
number_at (b ∷ bs) = elim (eqb b 45) [ true ↦ below (decimal_at bs) | false ↦ above (decimal_at (b ∷ bs)) ]

-- What was read, where the byte behind it is `end`.
unfoldable pub closed : ℕ → Signedly → Signedly
closed end none = none
closed end (some (x, [])) = none
closed end (some (x, b ∷ r)) = elim (eqb b end) [ true ↦ some (x, r) | false ↦ none ]

-- A pair: its name, `=`, its number, its end.
unfoldable pub pair_at : ℕ → ℕ → List ℕ → Signedly
pair_at name end [] = none
pair_at name end (a ∷ []) = none
pair_at name end (a ∷ b ∷ bs) = elim (eqb a name && eqb b 61) [ true ↦ closed end (number_at bs) | false ↦ none ]

abbrev pub Entirely : Type 0
Entirely = Option (Entry × List ℕ)

abbrev pub consed : ℤ → Entirely → Entirely
consed x none = none
consed x (some (e, r)) = some (x ∷ e, r)

-- k pairs, named from `name` on.
unfoldable pub line_at : ℕ → ℕ → List ℕ → Entirely
line_at zero name bs = some ([], bs)
line_at (suc k) name bs = elim (pair_at name (end_byte_of (suc k)) bs) [ none ↦ none | some d ↦ consed d.0 (line_at k (suc name) d.1) ]

-- What stands behind a word at the front.
unfoldable pub word_at : List ℕ → List ℕ → Option (List ℕ)
word_at [] bs = some bs
word_at (w ∷ ws) [] = none
word_at (w ∷ ws) (b ∷ bs) = elim (eqb b w) [ true ↦ word_at ws bs | false ↦ none ]

-- A word, then a decimal.
unfoldable pub after_at : List ℕ → List ℕ → Decimally
after_at word bs = elim (word_at word bs) [ none ↦ none | some r ↦ decimal_at r ]

abbrev pub Titled : Type 0
Titled = Option ((ℕ × ℕ) × List ℕ)

-- Fields 1 to 4, entries 0 to 4,096.
abbrev pub is_fitting_title : ℕ → ℕ → Bool
is_fitting_title k n = (leb 1 k && leb k 4) && leb n 4096

-- The end of the first line, with its numbers at hand.
unfoldable pub title_end : ℕ → ℕ → List ℕ → Titled
title_end k n [] = none
title_end k n (b ∷ r) = elim (eqb b 10 && is_fitting_title k n) [ true ↦ some ((k, n), r) | false ↦ none ]

unfoldable pub title_at : List ℕ → Titled
title_at bs =
    elim (after_at fields_word bs) [
      | none ↦ none
      | some k ↦ elim (after_at entries_word k.1) [ none ↦ none | some n ↦ title_end k.0 n.0 n.1 ]
    ]
