-- The nine calls, each ONE function from all that it is given to all that it gives back.
use Rattle.std.specs.Prelude.{List, [], ◌∷◌, ◌++◌, Bool, true, false, not, ◌||◌, ℕ, ◌+◌, ◌*◌, ltb, eqb, length, take, drop, ℤ}
use Rattle.std.proofs.Math.Option.{Option, none, some}
use Rattle.model.specs.Entry.{Entry, distance}
use Rattle.model.specs.Tree.{Tree}
use Rattle.model.specs.Rebuild.{listing}
use Rattle.model.specs.Ask.{slot_of, has, new_of, keep, nearest}
use Rattle.model.specs.Book.{Book, fresh, added, struck, links, keys, head_of}
use Rattle.model.specs.Pool.{cell_of, book_of, read_limit, Walk, found, gone, astray, walk}
use Rattle.model.specs.Text.{Parsed, broken, saved, parse, text_of}
use Rattle.model.specs.Answer.{checked, inward, plain, refused, met, unmet, close, counted, wrote}
use Rattle.model.specs.Gate.{After, reading, leaving, writing, rows3, sized, rows4, rows4s}
use Rattle.model.specs.declared.Head.{Head}
use Rattle.model.specs.declared.Entry.{Entry as Four}
use Rattle.model.specs.declared.Bound.{Bound}
use Rattle.model.specs.declared.Refusal.TheVariants.{Unsound, Present, Missing, Full, Room, Text, Mismatch, Step}
use Rattle.model.specs.declared.Outcome.TheVariants.{Absent, Done}
use Rattle.model.specs.declared.Answer.{Answer}

-- The head that a refused start returns.
abbrev pub no_head : Head
no_head = record { k = 0; c = 0; root = 0; free = 0; n = 0 }

-- Start: a fresh pool, whatever the memory held; rows 1 to 3 only.
unfoldable pub start : ℕ → ℕ → List ℤ → List ℕ → After
start K C ks ls =
    checked (rows3 K C (sized K C ks ls)) (λ r. reading (refused no_head 0 r) ks ls)
    (reading (plain Done (head_of K C (fresh C))) (keys K C (fresh C)) (links K C (fresh C)))

-- Add: 5 where the entry is there, 7 where the pool is full.
unfoldable pub add : Head → List ℤ → List ℕ → List ℕ → Four → After
add h ks ls sc e =
    let b : Book = book_of h ks ls in
    checked (rows4s h ks ls sc ++ ((has (inward h.k e) (listing b.tree), Present) ∷ (eqb h.n h.c, Full) ∷ []))
    (λ r. leaving (refused h 0 r) ks ls sc)
    (writing h (added (inward h.k e) b))

-- Strike: 6 where the entry is not there.
unfoldable pub strike_out : Head → List ℤ → List ℕ → List ℕ → Four → After
strike_out h ks ls sc e =
    let b : Book = book_of h ks ls in
    checked (rows4s h ks ls sc ++ ((not (has (inward h.k e) (listing b.tree)), Missing) ∷ []))
    (λ r. leaving (refused h 0 r) ks ls sc)
    (writing h (struck (inward h.k e) b))

abbrev pub walked : Head → Entry → Walk → Answer
walked h e (found s r) = met h e s r
walked h e (gone r) = unmet h r
walked h e astray = refused h 0 Unsound

-- Look up: rows 1 to 3, and its own 4.
unfoldable pub look_up : Head → List ℤ → List ℕ → Four → After
look_up h ks ls e =
    checked (rows3 h.k h.c (sized h.k h.c ks ls)) (λ r. reading (refused h 0 r) ks ls)
    (reading (walked h (inward h.k e) (walk read_limit (cell_of h.k ks ls) h.c 0 (inward h.k e) 0 h.root)) ks ls)

-- Count: the number of entries in the box.
unfoldable pub count : Head → List ℤ → List ℕ → List Bound → After
count h ks ls bs =
    checked (rows4 h ks ls) (λ r. reading (refused h 0 r) ks ls)
    (reading (counted h (length (keep bs (listing (book_of h ks ls).tree)))) ks ls)

abbrev pub flat : List Entry → List ℤ
flat [] = []
flat (e ∷ es) = e ++ flat es

-- List: the entries in the box in listing order, K numbers each; 8 where the room is shorter; room behind them is untouched.
unfoldable pub list : Head → List ℤ → List ℕ → List Bound → List ℤ → After
list h ks ls bs room =
    let es : List Entry = keep bs (listing (book_of h ks ls).tree) in
    checked (rows4 h ks ls ++ ((ltb (length room) (h.k * length es), Room) ∷ []))
    (λ r. record { answer = refused h 0 r; keys = ks; links = ls; scratch = []; room = room; page = [] })
    (record { answer = counted h (length es); keys = ks; links = ls; scratch = []; room = flat es ++ drop (h.k * length es) room; page = [] })

abbrev pub any_zero : List ℕ → Bool
any_zero [] = false
any_zero (s ∷ ss) = eqb s 0 || any_zero ss

abbrev pub near_answer : Head → List ℕ → Entry → Tree → Option Entry → Answer
near_answer h steps q u none = plain Absent h
near_answer h steps q u (some e) = close h e (slot_of 0 e u) (distance steps q e)

-- Nearest: 11 where one of the K steps is 0.
unfoldable pub near : Head → List ℤ → List ℕ → Four → List ℕ → After
near h ks ls q steps =
    let u : Tree = (book_of h ks ls).tree in
    checked (rows4 h ks ls ++ ((any_zero (take h.k steps), Step) ∷ [])) (λ r. reading (refused h 0 r) ks ls)
    (reading (near_answer h steps (inward h.k q) u (nearest steps (inward h.k q) (listing u))) ks ls)

-- Save: the text of the book; 8 where the room is shorter; room behind it is untouched.
unfoldable pub save : Head → List ℤ → List ℕ → List ℕ → After
save h ks ls room =
    let text : List ℕ = text_of h.k (listing (book_of h ks ls).tree) in
    checked (rows4 h ks ls ++ ((ltb (length room) (length text), Room) ∷ []))
    (λ r. record { answer = refused h 0 r; keys = ks; links = ls; scratch = []; room = []; page = room })
    (record { answer = wrote h (length text); keys = ks; links = ls; scratch = []; room = []; page = text ++ drop (length text) room })

abbrev pub added_all : List Entry → Book → Book
added_all [] b = b
added_all (e ∷ es) b = added_all es (added e b)

abbrev pub broken_at : Parsed → ℕ
broken_at (broken l) = l
broken_at (saved K es) = 0

abbrev pub is_broken : Parsed → Bool
is_broken (broken l) = true
is_broken (saved K es) = false

abbrev pub fields_of_parsed : Parsed → ℕ
fields_of_parsed (broken l) = 0
fields_of_parsed (saved K es) = K

abbrev pub entries_in : Parsed → List Entry
entries_in (broken l) = []
entries_in (saved K es) = es

-- Take in, whole or not at all: 9 with the line, 10 where the fields differ, then 7 where what is new does not fit.
unfoldable pub take_in : Head → List ℤ → List ℕ → List ℕ → List ℕ → After
take_in h ks ls sc text =
    let b : Book = book_of h ks ls in
    let p : Parsed = parse text in
    let new : List Entry = new_of (listing b.tree) (entries_in p) in
    checked
    (rows4s h ks ls sc ++ ((is_broken p, Text) ∷ (not (eqb (fields_of_parsed p) h.k), Mismatch) ∷ (ltb h.c (h.n + length new), Full) ∷ []))
    (λ r. leaving (refused h (broken_at p) r) ks ls sc)
    (writing h (added_all new b))
