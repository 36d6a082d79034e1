-- The gate of every call: rows 1 to 4 of the table, and what a call leaves behind.
use Rattle.std.specs.Prelude.{List, [], ◌∷◌, ◌++◌, Bool, not, ◌&&◌, ℕ, ◌*◌, leb, eqb, length, replicate, ℤ}
use Rattle.model.specs.Book.{Book, links, keys, head_of}
use Rattle.model.specs.Pool.{sound}
use Rattle.model.specs.Answer.{Row, plain}
use Rattle.model.specs.declared.Head.{Head}
use Rattle.model.specs.declared.Refusal.TheVariants.{Fields, Capacity, Lengths, Unsound}
use Rattle.model.specs.declared.Outcome.TheVariants.{Done}
use Rattle.model.specs.declared.Answer.{Answer}

-- What a call leaves: its answer and every list that it was lent; a list that it was not lent is empty.
pub record After : Type 0 where
  pub answer : Answer
  pub keys : List ℤ
  pub links : List ℕ
  pub scratch : List ℕ
  pub room : List ℤ
  pub page : List ℕ

-- A call that only reads leaves both tables as they are; so does a refused call, with all that it was lent. (When the book says no.)
abbrev pub reading : Answer → List ℤ → List ℕ → After
reading a ks ls = record { answer = a; keys = ks; links = ls; scratch = []; room = []; page = [] }

abbrev pub leaving : Answer → List ℤ → List ℕ → List ℕ → After
leaving a ks ls sc = record { answer = a; keys = ks; links = ls; scratch = sc; room = []; page = [] }

-- The pool of a book; scratch is left all 0. (When the book says no: an accepted call that borrows scratch.)
abbrev pub writing : Head → Book → After
writing h b = leaving (plain Done (head_of h.k h.c b)) (keys h.k h.c b) (links h.k h.c b) (replicate h.c 0)

-- Rows 1 to 3, where `right` says that every lent length is right. (When the book says no.)
abbrev pub rows3 : ℕ → ℕ → Bool → List Row
rows3 K C right = (not (leb 1 K && leb K 4), Fields) ∷ (not (leb 1 C && leb C 4096), Capacity) ∷ (not right, Lengths) ∷ []

-- The key table has K·C numbers and the link table 3·C. (When the book says no, 3.)
abbrev pub sized : ℕ → ℕ → List ℤ → List ℕ → Bool
sized K C ks ls = eqb (length ks) (K * C) && eqb (length ls) (3 * C)

-- Rows 1 to 4 of a call that is lent no scratch, and of one that is.
abbrev pub rows4 : Head → List ℤ → List ℕ → List Row
rows4 h ks ls = rows3 h.k h.c (sized h.k h.c ks ls) ++ ((not (sound h ks ls), Unsound) ∷ [])

abbrev pub rows4s : Head → List ℤ → List ℕ → List ℕ → List Row
rows4s h ks ls sc = rows3 h.k h.c (sized h.k h.c ks ls && eqb (length sc) h.c) ++ ((not (sound h ks ls), Unsound) ∷ [])
