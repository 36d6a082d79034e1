-- Answers: the refusals and their numbers, the first row of the table that holds, and a maker for each kind of answer.
use Rattle.std.specs.Prelude.{List, [], ◌∷◌, ◌++◌, Bool, true, false, ℕ, ◌-◌, length, take, replicate, pos}
use Rattle.std.proofs.Math.Option.{Option, none, some}
use Rattle.model.specs.Entry.{Entry}
use Rattle.model.specs.declared.Head.{Head}
use Rattle.model.specs.declared.Entry.{Entry as Four}
use Rattle.model.specs.declared.Refusal.{Refusal}
use Rattle.model.specs.declared.Refusal.TheVariants.{Fields, Capacity, Lengths, Unsound, Present, Missing, Full, Room, Text, Mismatch, Step, Tray}
use Rattle.model.specs.declared.Outcome.{Outcome}
use Rattle.model.specs.declared.Outcome.TheVariants.{Found, Absent, Done, Refused}
use Rattle.model.specs.declared.Answer.{Answer}

-- The paper's number of every refusal. (When the book says no: the table; 02, M-100: 12.)
abbrev pub number_of : Refusal → ℕ
number_of Fields = 1
number_of Capacity = 2
number_of Lengths = 3
number_of Unsound = 4
number_of Present = 5
number_of Missing = 6
number_of Full = 7
number_of Room = 8
number_of Text = 9
number_of Mismatch = 10
number_of Step = 11
number_of Tray = 12

-- The number that an outcome carries: a refusal its own, any other none, which is 0. (The book and its edges: the outcomes.)
abbrev pub refusal_in : Outcome → ℕ
refusal_in Found = 0
refusal_in Absent = 0
refusal_in Done = 0
refusal_in (Refused r) = number_of r

-- The refusal that an outcome carries, if any.
abbrev pub refusal_of : Outcome → Option Refusal
refusal_of Found = none
refusal_of Absent = none
refusal_of Done = none
refusal_of (Refused r) = some r

-- The line of a refusal: 9 gives it, every other refusal 0. (When the book says no, 9.)
abbrev pub line_in : Refusal → ℕ → ℕ
line_in Fields l = 0
line_in Capacity l = 0
line_in Lengths l = 0
line_in Unsound l = 0
line_in Present l = 0
line_in Missing l = 0
line_in Full l = 0
line_in Room l = 0
line_in Text l = l
line_in Mismatch l = 0
line_in Step l = 0
line_in Tray l = 0

-- A row of the table: a condition, and the refusal that it gives.
abbrev pub Row : Type 0
Row = Bool × Refusal

-- The first row whose condition holds. (When the book says no: checked in order.)
abbrev pub gate : List Row → Option Refusal
gate [] = none
gate (c ∷ cs) = elim c.0 [ true ↦ some c.1 | false ↦ gate cs ]

-- What a call does: past the gate what it does when accepted, else what it does when refused.
unfoldable pub checked : {A : Type 0} → List Row → (Refusal → A) → A → A
checked rows refuse accept = elim (gate rows) [ some r ↦ refuse r | none ↦ accept ]

-- K numbers on the way in; 0 beyond them on the way out. (The book and its edges: an entry.)
abbrev pub inward : ℕ → Four → Entry
inward K e = take K e.f

abbrev pub outward : Entry → Four
outward e = record { f = e ++ replicate (4 - length e) (pos 0) }

-- An outcome and a head; every part that a call has no value for is 0. (The book and its edges: answers.)
abbrev pub plain : Outcome → Head → Answer
plain o h = record { outcome = o; head = h; entry = outward []; slot = 0; reads = 0; distance = 0; count = 0; bytes = 0; line = 0; place = 0 }

-- A refusal: all 0 but the head, the number, and the line of 9.
abbrev pub refused : Head → ℕ → Refusal → Answer
refused h l r = record { outcome = Refused r; head = h; entry = outward []; slot = 0; reads = 0; distance = 0; count = 0; bytes = 0; line = line_in r l; place = 0 }

-- A refusal by an item of a tray: all 0 but the head, the number and the item's place. (02, M-100.)
abbrev pub refused_at : Head → ℕ → Refusal → Answer
refused_at h p r = record { outcome = Refused r; head = h; entry = outward []; slot = 0; reads = 0; distance = 0; count = 0; bytes = 0; line = 0; place = p }

-- Look-up gives its reads, found or not; found gives the entry and its slot.
abbrev pub met : Head → Entry → ℕ → ℕ → Answer
met h e s r = record { outcome = Found; head = h; entry = outward e; slot = s; reads = r; distance = 0; count = 0; bytes = 0; line = 0; place = 0 }

abbrev pub unmet : Head → ℕ → Answer
unmet h r = record { outcome = Absent; head = h; entry = outward []; slot = 0; reads = r; distance = 0; count = 0; bytes = 0; line = 0; place = 0 }

-- Nearest gives the entry, its slot and its distance.
abbrev pub close : Head → Entry → ℕ → ℕ → Answer
close h e s d = record { outcome = Found; head = h; entry = outward e; slot = s; reads = 0; distance = d; count = 0; bytes = 0; line = 0; place = 0 }

-- Count and list give the number of entries, save the number of bytes.
abbrev pub counted : Head → ℕ → Answer
counted h m = record { outcome = Done; head = h; entry = outward []; slot = 0; reads = 0; distance = 0; count = m; bytes = 0; line = 0; place = 0 }

abbrev pub wrote : Head → ℕ → Answer
wrote h m = record { outcome = Done; head = h; entry = outward []; slot = 0; reads = 0; distance = 0; count = 0; bytes = m; line = 0; place = 0 }
