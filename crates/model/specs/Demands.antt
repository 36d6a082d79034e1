-- What is claimed of every call and every run, in the words of the definitions alone; each record is proved for all its arguments.
use Rattle.std.specs.Prelude.{◌≡◌, Bool, true, false, ◌&&◌, ℕ, suc, ◌≤◌, ◌<◌, length, take, replicate, ℤ}
use mathlib.Core.List.{List, [], ◌∷◌, ◌++◌, Permᴰ}
use Rattle.std.proofs.Math.Option.{Option, none, some}
use Rattle.model.specs.Entry.{Entry}
use Rattle.model.specs.Tree.{Tree, items, slots_of, height, balanced, ordered}
use Rattle.model.specs.Rebuild.{listing}
use Rattle.model.specs.Ask.{reads, has, tallest}
use Rattle.model.specs.Book.{Book, up_from, links, keys, head_of}
use Rattle.model.specs.Pool.{numbers_at, book_of, sound}
use Rattle.model.specs.Text.{rises, text_of}
use Rattle.model.specs.Answer.{inward, outward}
use Rattle.model.specs.Gate.{After, sized}
use Rattle.model.specs.Calls.{start}
use Rattle.model.specs.Tray.{Work, adding, striking, works}
use Rattle.model.specs.Runs.{Call, Given, GivenAll, State, perform, state_of, run}
use Rattle.model.specs.Plain.{said_in, plainly, held_after}
use Rattle.model.specs.declared.Head.{Head}
use Rattle.model.specs.declared.Entry.{Entry as Four}
use Rattle.model.specs.declared.Answer.{Answer}
use Rattle.model.specs.declared.Refusal.{Refusal}
use Rattle.model.specs.declared.Outcome.TheVariants.{Found, Done, Refused}

-- A list that rises strictly in listing order.
abbrev pub rising : Option Entry → List Entry → Bool
rising last [] = true
rising last (e ∷ es) = rises last e && rising (some e) es

-- A book in order: order, balance, K numbers an entry, and every slot 1..C in the tree once or in the chain once.
pub record InOrder (K C : ℕ) (b : Book) : Type 0 where
  pub order : ordered 0 b.tree ≡ true
  pub balance : balanced b.tree ≡ true
  pub numbers : (e : Entry) → has e (listing b.tree) ≡ true → length e ≡ K
  pub slots : Permᴰ (slots_of (items b.tree) ++ b.chain) (up_from C 1)

-- This head and these tables are the image of a book.
pub record Image (h : Head) (ks : List ℤ) (ls : List ℕ) (b : Book) : Type 0 where
  pub head : h ≡ head_of h.k h.c b
  pub key_table : ks ≡ keys h.k h.c b
  pub link_table : ls ≡ links h.k h.c b

-- Where the lent lengths are right, sound is exactly: the image of a book in order; and of one book only, the one that is read from the pool.
pub record Exact (h : Head) (ks : List ℤ) (ls : List ℕ) : Type 0 where
  pub only : sized h.k h.c ks ls ≡ true → sound h ks ls ≡ true → InOrder h.k h.c (book_of h ks ls) × Image h ks ls (book_of h ks ls)
  pub each : (b : Book) → InOrder h.k h.c b → Image h ks ls b → (sound h ks ls ≡ true) × (book_of h ks ls ≡ b)

abbrev pub book_in : State → Book
book_in s = book_of s.head s.keys s.links

abbrev pub tree_in : State → Tree
tree_in s = (book_in s).tree

-- The entry of an answer stands in the slot that the answer names.
pub record Stands (K C : ℕ) (s : State) (a : Answer) : Type 0 where
  pub index : ℕ
  pub slot : a.slot ≡ suc index
  pub inside : index < C
  pub entry : a.entry ≡ outward (numbers_at K s.keys index)

-- A state s that a run has reached, where the plain book holds es.
pub record Reached (K C : ℕ) (s : State) (es : List Entry) : Type 0 where
  -- demand 2: the pool is sound, holds exactly the plain book's entries, and every call says what the plain book says
  pub soundness : sound s.head s.keys s.links ≡ true
  pub shape : (s.head.k ≡ K) × (s.head.c ≡ C) × (s.head.n ≡ length es)
  pub entries : listing (tree_in s) ≡ es
  pub rise : rising none es ≡ true
  pub answers : (c : Call) → Given c → said_in (perform c s) ≡ (plainly K C c es).said
  pub look_place : (e : Four) → (perform (Call.look_up e) s).answer.outcome ≡ Found → Stands K C s (perform (Call.look_up e) s).answer
  pub near_place : (q : Four) (steps : List ℕ) → (perform (Call.nearest q steps) s).answer.outcome ≡ Found → Stands K C s (perform (Call.nearest q steps) s).answer
  -- demand 3: look-up's reads are the walk, at most the greatest height for n, never over sixteen; each slot in the tree once or free once
  pub walk : (e : Four) → (perform (Call.look_up e) s).answer.reads ≡ reads 0 (inward K e) (tree_in s)
  pub few : (e : Four) → (perform (Call.look_up e) s).answer.reads ≤ tallest (length es)
  pub sixteen : (e : Four) → (perform (Call.look_up e) s).answer.reads ≤ 16
  pub high : height (tree_in s) ≤ tallest (length es)
  pub slots : Permᴰ (slots_of (items (tree_in s)) ++ (book_in s).chain) (up_from C 1)

-- What a call is lent besides keys and links.
abbrev pub scratch_in : Call → List ℕ
scratch_in (Call.add sc e) = sc
scratch_in (Call.strike sc e) = sc
scratch_in (Call.look_up e) = []
scratch_in (Call.count bs) = []
scratch_in (Call.list bs room) = []
scratch_in (Call.nearest q ss) = []
scratch_in (Call.save page) = []
scratch_in (Call.take_in sc text) = sc
scratch_in (Call.tray sc xs) = sc

abbrev pub room_in : Call → List ℤ
room_in (Call.add sc e) = []
room_in (Call.strike sc e) = []
room_in (Call.look_up e) = []
room_in (Call.count bs) = []
room_in (Call.list bs room) = room
room_in (Call.nearest q ss) = []
room_in (Call.save page) = []
room_in (Call.take_in sc text) = []
room_in (Call.tray sc xs) = []

abbrev pub page_in : Call → List ℕ
page_in (Call.add sc e) = []
page_in (Call.strike sc e) = []
page_in (Call.look_up e) = []
page_in (Call.count bs) = []
page_in (Call.list bs room) = []
page_in (Call.nearest q ss) = []
page_in (Call.save page) = page
page_in (Call.take_in sc text) = []
page_in (Call.tray sc xs) = []

abbrev pub writes : Call → Bool
writes (Call.add sc e) = true
writes (Call.strike sc e) = true
writes (Call.look_up e) = false
writes (Call.count bs) = false
writes (Call.list bs room) = false
writes (Call.nearest q ss) = false
writes (Call.save page) = false
writes (Call.take_in sc text) = true
writes (Call.tray sc xs) = true

-- Demand 1, on any state at all: a refused call changes nothing, scratch included; a call that only reads leaves the state; an accepted
-- call that borrows scratch leaves it all 0.
pub record Careful (c : Call) (s : State) : Type 0 where
  pub refusal : (r : Refusal) → (perform c s).answer.outcome ≡ Refused r → (state_of (perform c s) ≡ s) × ((perform c s).scratch ≡ scratch_in c) × ((perform c s).room ≡ room_in c) × ((perform c s).page ≡ page_in c)
  pub reading : writes c ≡ false → state_of (perform c s) ≡ s
  pub cleared : writes c ≡ true → (perform c s).answer.outcome ≡ Done → (perform c s).scratch ≡ replicate s.head.c 0

-- The single calls that the items of a tray stand for.
abbrev pub single : List ℕ → Work → Call
single sc (adding e) = Call.add sc (outward e)
single sc (striking e) = Call.strike sc (outward e)

abbrev pub singly : List ℕ → List Work → List Call
singly sc [] = []
singly sc (w ∷ ws) = single sc w ∷ singly sc ws

-- Demand 2 counts a batch as its items: a tray that is done leaves the state, and the plain set, that its single calls leave. (02, M-100.)
pub record Batch (sc : List ℕ) (xs : List ℤ) : Type 0 where
  pub state : (s : State) → (perform (Call.tray sc xs) s).answer.outcome ≡ Done → state_of (perform (Call.tray sc xs) s) ≡ run (singly (replicate s.head.c 0) (works s.head.k xs)) s
  pub held : (K C : ℕ) (es : List Entry) → (plainly K C (Call.tray sc xs) es).said.outcome ≡ Done → (plainly K C (Call.tray sc xs) es).held ≡ held_after K C (singly (replicate C 0) (works K xs)) es

-- The bytes that save wrote; a text taken into a fresh pool.
abbrev pub saved_from : State → List ℕ → List ℕ
saved_from s page = take (perform (Call.save page) s).answer.bytes (perform (Call.save page) s).page

abbrev pub taken_into : ℕ → ℕ → List ℤ → List ℕ → List ℕ → List ℕ → After
taken_into K D ks ls sc text = perform (Call.take_in sc text) (state_of (start K D ks ls))

-- A book saved from a reached state, taken into a fresh pool of as many fields and with room, is the same entries; taking in only adds.
pub record Returns (K C : ℕ) (s : State) (es : List Entry) : Type 0 where
  pub back : (D : ℕ) (ks : List ℤ) (ls sc page : List ℕ) → (start K D ks ls).answer.outcome ≡ Done → length es ≤ D → length sc ≡ D → length (text_of K es) ≤ length page
      → ((taken_into K D ks ls sc (saved_from s page)).answer.outcome ≡ Done) × (listing (tree_in (state_of (taken_into K D ks ls sc (saved_from s page)))) ≡ es)
  pub adds : (sc text : List ℕ) (e : Entry) → has e es ≡ true → has e (plainly K C (Call.take_in sc text) es).held ≡ true

-- Every run from an accepted start reaches such a state, with what the plain book then holds.
pub record Runs (K C : ℕ) (ks : List ℤ) (ls : List ℕ) (cs : List Call) : Type 0 where
  pub reached : (start K C ks ls).answer.outcome ≡ Done → GivenAll cs → Reached K C (run cs (state_of (start K C ks ls))) (held_after K C cs [])
  pub returns : (start K C ks ls).answer.outcome ≡ Done → GivenAll cs → Returns K C (run cs (state_of (start K C ks ls))) (held_after K C cs [])

-- No second result meets what a call is said to leave.
pub record Unique (c : Call) (s : State) : Type 0 where
  pub one : (a b : After) → a ≡ perform c s → b ≡ perform c s → a ≡ b
