-- Runs: after an accepted start, calls with any inputs at all, refused ones too, each on the head and memory that the one before it left.
use Rattle.std.specs.Prelude.{List, [], ◌∷◌, ◌≡◌, true, ℕ, length, ℤ}
use Rattle.model.specs.Text.{ranged}
use Rattle.model.specs.Gate.{After}
use Rattle.model.specs.Calls as calls
use Rattle.model.specs.Tray as trays
use Rattle.model.specs.declared.Head.{Head}
use Rattle.model.specs.declared.Entry.{Entry as Four}
use Rattle.model.specs.declared.Bound.{Bound}

-- A call with all that it is given besides head, keys and links: scratch, room, entry, bounds, steps, text, a tray's numbers.
pub data Call : Type 0 where
  add : List ℕ → Four → Call
  strike : List ℕ → Four → Call
  look_up : Four → Call
  count : List Bound → Call
  list : List Bound → List ℤ → Call
  nearest : Four → List ℕ → Call
  save : List ℕ → Call
  take_in : List ℕ → List ℕ → Call
  tray : List ℕ → List ℤ → Call

-- An entry as the code can pass it: four numbers of 64 signed bits. (The book and its edges: an entry.)
pub record Passable (e : Four) : Type 0 where
  pub four : length e.f ≡ 4
  pub bits : ranged e.f ≡ true

-- Of a call's inputs only the entries need this, and a tray that its numbers have 64 signed bits; every other list is any list.
abbrev pub Given : Call → Type 0
Given (add sc e) = Passable e
Given (strike sc e) = Passable e
Given (look_up e) = Passable e
Given (count bs) = Unit {0}
Given (list bs room) = Unit {0}
Given (nearest e ss) = Passable e
Given (save room) = Unit {0}
Given (take_in sc text) = Unit {0}
Given (tray sc xs) = ranged xs ≡ true

abbrev pub GivenAll : List Call → Type 0
GivenAll [] = Unit {0}
GivenAll (c ∷ cs) = Given c × GivenAll cs

pub record State : Type 0 where
  pub head : Head
  pub keys : List ℤ
  pub links : List ℕ

unfoldable pub perform : Call → State → After
perform (add sc e) s = calls.add s.head s.keys s.links sc e
perform (strike sc e) s = calls.strike_out s.head s.keys s.links sc e
perform (look_up e) s = calls.look_up s.head s.keys s.links e
perform (count bs) s = calls.count s.head s.keys s.links bs
perform (list bs room) s = calls.list s.head s.keys s.links bs room
perform (nearest e ss) s = calls.near s.head s.keys s.links e ss
perform (save room) s = calls.save s.head s.keys s.links room
perform (take_in sc text) s = calls.take_in s.head s.keys s.links sc text
perform (tray sc xs) s = trays.tray s.head s.keys s.links sc xs

-- The head that a call returns, and the memory as it left it, are what the next call is given.
abbrev pub state_of : After → State
state_of a = record { head = a.answer.head; keys = a.keys; links = a.links }

abbrev pub run : List Call → State → State
run [] s = s
run (c ∷ cs) s = run cs (state_of (perform c s))
