-- The saved book as bytes: what is written, and what a text says. (Saved book.)
use Rattle.std.specs.Prelude.{List, [], ◌∷◌, ◌++◌, Bool, true, false, ◌&&◌, ℕ, zero, suc, ◌+◌, ◌-◌, ◌*◌, ◌/◌, ◌%◌, leb, ltb, eqb, length, drop, ℤ, pos, negsuc}
use Rattle.std.proofs.Math.Option.{Option, none, some}
use Rattle.model.specs.Number.{in_range}
use Rattle.model.specs.Entry.{Entry, cmp}
use Rattle.model.specs.Tree.{is_less}

-- Decimal digits, no leading zero. (Saved book: decimal.)
abbrev pub digits_of : ℕ → ℕ → List ℕ → List ℕ
digits_of zero n tail = (48 + n % 10) ∷ tail
digits_of (suc most) n tail = elim (ltb n 10) [ true ↦ (48 + n) ∷ tail | false ↦ digits_of most (n / 10) ((48 + n % 10) ∷ tail) ]

abbrev pub decimal : ℕ → List ℕ
decimal n = digits_of n n []

-- `-` in front of a negative number. (Saved book.)
abbrev pub signed : ℤ → List ℕ
signed (pos a) = decimal a
signed (negsuc a) = 45 ∷ decimal (suc a)

-- `a=1 b=9`: a name, `=`, a number; one space between pairs. (Saved book: an entry line.)
abbrev pub pairs : ℕ → Entry → List ℕ
pairs name [] = []
pairs name (x ∷ []) = name ∷ 61 ∷ signed x
pairs name (x ∷ y ∷ xs) = name ∷ 61 ∷ (signed x ++ (32 ∷ pairs (suc name) (y ∷ xs)))

-- `book=1 fields=K entries=N`. (Saved book: the first line.)
abbrev pub title : ℕ → ℕ → List ℕ
title K N =
    (98 ∷ 111 ∷ 111 ∷ 107 ∷ 61 ∷ 49 ∷ 32 ∷ 102 ∷ 105 ∷ 101 ∷ 108 ∷ 100 ∷ 115 ∷ 61 ∷ [])
    ++ (decimal K ++ ((32 ∷ 101 ∷ 110 ∷ 116 ∷ 114 ∷ 105 ∷ 101 ∷ 115 ∷ 61 ∷ []) ++ decimal N))

abbrev pub entry_lines : List Entry → List ℕ
entry_lines [] = []
entry_lines (e ∷ es) = pairs 97 e ++ (10 ∷ entry_lines es)

-- The text of a book of K fields: the title, then an entry line each, every line ended by one LF. (Saved book.)
unfoldable pub text_of : ℕ → List Entry → List ℕ
text_of K es = title K (length es) ++ (10 ∷ entry_lines es)

abbrev pub same : List ℕ → List ℕ → Bool
same [] [] = true
same [] (y ∷ ys) = false
same (x ∷ xs) [] = false
same (x ∷ xs) (y ∷ ys) = eqb x y && same xs ys

-- The number that leading digits spell, and what stands behind them.
abbrev pub digits : List ℕ → ℕ → ℕ × List ℕ
digits [] n = (n, [])
digits (b ∷ bs) n = elim (leb 48 b && leb b 57) [ true ↦ digits bs (n * 10 + (b - 48)) | false ↦ (n, b ∷ bs) ]

abbrev pub minus : ℕ → ℤ
minus zero = pos 0
minus (suc n) = negsuc n

abbrev pub number : List ℕ → ℤ × List ℕ
number [] = (pos 0, [])
number (b ∷ bs) =
    elim (eqb b 45) [
      | true ↦ (let d : ℕ × List ℕ = digits bs 0 in (minus d.0, d.1))
      | false ↦ (let d : ℕ × List ℕ = digits (b ∷ bs) 0 in (pos d.0, d.1))
    ]

-- The k numbers of an entry line, read loosely.
abbrev pub numbers : ℕ → List ℕ → Entry
numbers zero bs = []
numbers (suc k) bs = let d : ℤ × List ℕ = number (drop 2 bs) in d.0 ∷ numbers k (drop 1 d.1)

abbrev pub ranged : Entry → Bool
ranged [] = true
ranged (x ∷ xs) = in_range x && ranged xs

-- An entry line is well formed where writing what was read gives the very same bytes, and every number is in the 64-bit range.
unfoldable pub entry_of_line : ℕ → List ℕ → Option Entry
entry_of_line K l = let e : Entry = numbers K l in elim (same (pairs 97 e) l && ranged e) [ true ↦ some e | false ↦ none ]

-- The first line likewise, with fields 1 to 4 and entries 0 to 4,096.
unfoldable pub title_of_line : List ℕ → Option (ℕ × ℕ)
title_of_line l =
    let k : ℕ × List ℕ = digits (drop 14 l) 0 in
    let n : ℕ × List ℕ = digits (drop 9 k.1) 0 in
    elim (same (title k.0 n.0) l && ((leb 1 k.0 && leb k.0 4) && leb n.0 4096)) [ true ↦ some (k.0, n.0) | false ↦ none ]

-- The bytes in front of the first LF, and those behind it; none where there is no LF.
abbrev pub cut_line : List ℕ → Option (List ℕ × List ℕ)
cut_line [] = none
cut_line (b ∷ bs) = elim (eqb b 10) [ true ↦ some ([], bs) | false ↦ elim (cut_line bs) [ none ↦ none | some c ↦ some ((b ∷ c.0), c.1) ] ]

-- A text is broken at a line, counted from 1, or it is a saved book of so many fields and these entries.
pub data Parsed : Type 0 where
  broken : ℕ → Parsed
  saved : ℕ → List Entry → Parsed

abbrev pub rises : Option Entry → Entry → Bool
rises none e = true
rises (some d) e = is_less (cmp 0 d e)

abbrev pub following : Entry → Parsed → Parsed
following e (broken l) = broken l
following e (saved K es) = saved K (e ∷ es)

-- m entry lines from line number `line` on, strictly rising behind `last`, then nothing. A line that is missing, lacks its LF, is
-- malformed or does not rise is the broken one; so is the line behind the last, where bytes are left. (When the book says no, 9.)
abbrev pub body : ℕ → ℕ → ℕ → Option Entry → List ℕ → Parsed
body zero K line last [] = saved K []
body zero K line last (b ∷ bs) = broken line
body (suc m) K line last bs =
    elim (cut_line bs) [
      | none ↦ broken line
      | some c ↦ elim (entry_of_line K c.0) [
        | none ↦ broken line
        | some e ↦ elim (rises last e) [ true ↦ following e (body m K (suc line) (some e) c.1) | false ↦ broken line ]
      ]
    ]

unfoldable pub parse : List ℕ → Parsed
parse text =
    elim (cut_line text) [
      | none ↦ broken 1
      | some c ↦ elim (title_of_line c.0) [ none ↦ broken 1 | some kn ↦ body kn.1 kn.0 2 none c.1 ]
    ]
