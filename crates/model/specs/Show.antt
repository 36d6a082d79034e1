-- The program: what it prints for a text on standard input. (Saved book: the program.)
use Rattle.std.specs.Prelude.{List, [], ◌∷◌, ◌++◌, true, false, ℕ, suc, ◌+◌, ◌*◌, ltb, length, replicate, pos}
use Rattle.model.specs.Entry.{cut_field}
use Rattle.model.specs.Tree.{Tree, nil, node, height, size}
use Rattle.model.specs.Book.{Book}
use Rattle.model.specs.Pool.{book_of}
use Rattle.model.specs.Text.{Parsed, broken, saved, parse, decimal, pairs}
use Rattle.model.specs.Answer.{number_of}
use Rattle.model.specs.Gate.{After}
use Rattle.model.specs.Calls.{start, take_in}
use Rattle.model.specs.declared.Outcome.{Outcome}
use Rattle.model.specs.declared.Outcome.TheVariants.{Found, Absent, Done, Refused}
use Rattle.model.specs.declared.Refusal.{Refusal}
use Rattle.model.specs.declared.Refusal.TheVariants.{Text}

-- `entries=`
abbrev pub entries_is : List ℕ
entries_is = 101 ∷ 110 ∷ 116 ∷ 114 ∷ 105 ∷ 101 ∷ 115 ∷ 61 ∷ []

-- ` height=`
abbrev pub height_is : List ℕ
height_is = 32 ∷ 104 ∷ 101 ∷ 105 ∷ 103 ∷ 104 ∷ 116 ∷ 61 ∷ []

-- ` free=`
abbrev pub free_is : List ℕ
free_is = 32 ∷ 102 ∷ 114 ∷ 101 ∷ 101 ∷ 61 ∷ []

-- `slot=`
abbrev pub slot_is : List ℕ
slot_is = 115 ∷ 108 ∷ 111 ∷ 116 ∷ 61 ∷ []

-- ` depth=`
abbrev pub depth_is : List ℕ
depth_is = 32 ∷ 100 ∷ 101 ∷ 112 ∷ 116 ∷ 104 ∷ 61 ∷ []

-- ` cut=`
abbrev pub cut_is : List ℕ
cut_is = 32 ∷ 99 ∷ 117 ∷ 116 ∷ 61 ∷ []

-- `refused=`
abbrev pub refused_is : List ℕ
refused_is = 114 ∷ 101 ∷ 102 ∷ 117 ∷ 115 ∷ 101 ∷ 100 ∷ 61 ∷ []

-- ` line=`
abbrev pub line_is : List ℕ
line_is = 32 ∷ 108 ∷ 105 ∷ 110 ∷ 101 ∷ 61 ∷ []

-- `too_long=32768, with its LF`
abbrev pub too_long : List ℕ
too_long = 116 ∷ 111 ∷ 111 ∷ 95 ∷ 108 ∷ 111 ∷ 110 ∷ 103 ∷ 61 ∷ 51 ∷ 50 ∷ 55 ∷ 54 ∷ 56 ∷ 10 ∷ []

-- A line for each entry, before its left and then its right side: slot, depth, cut field, the entry.
abbrev pub tree_lines : ℕ → ℕ → Tree → List ℕ
tree_lines K t nil = []
tree_lines K t (node i l r) =
    (slot_is ++ (decimal i.slot ++ (depth_is ++ (decimal t ++ (cut_is ++ ((97 + cut_field K t) ∷ 32 ∷ (pairs 97 i.entry ++ (10 ∷ []))))))))
    ++ (tree_lines K (suc t) l ++ tree_lines K (suc t) r)

-- The first line has the entry count, the height and the free slots.
abbrev pub book_lines : ℕ → Book → List ℕ
book_lines K b =
    (entries_is ++ (decimal (size b.tree) ++ (height_is ++ (decimal (height b.tree) ++ (free_is ++ (decimal (length b.chain) ++ (10 ∷ [])))))))
    ++ tree_lines K 0 b.tree

-- A refusal: its number and its line, which is 0 for all but 9.
abbrev pub refusal_line : Refusal → ℕ → List ℕ
refusal_line r l = refused_is ++ (decimal (number_of r) ++ (line_is ++ (decimal l ++ (10 ∷ []))))

-- What is printed after the text was taken in.
abbrev pub taken_lines : ℕ → After → Outcome → List ℕ
taken_lines K a Found = []
taken_lines K a Absent = []
taken_lines K a Done = book_lines K (book_of a.answer.head a.keys a.links)
taken_lines K a (Refused r) = refusal_line r a.answer.line

-- A fresh pool of 512 slots with the text's fields, over memory and scratch all 0, and the text taken into it.
abbrev pub fresh_taken : ℕ → List ℕ → After
fresh_taken K text =
    let p : After = start K 512 (replicate (K * 512) (pos 0)) (replicate 1536 0) in
    take_in p.answer.head p.keys p.links (replicate 512 0) text

abbrev pub shown_text : List ℕ → Parsed → List ℕ
shown_text text (broken l) = refusal_line Text l
shown_text text (saved K es) = let a : After = fresh_taken K text in taken_lines K a a.answer.outcome

-- Input of more than 32,768 bytes is too long; any other is a saved book, or is refused.
unfoldable pub program : List ℕ → List ℕ
program text = elim (ltb 32768 (length text)) [ true ↦ too_long | false ↦ shown_text text (parse text) ]
