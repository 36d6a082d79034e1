-- The pool of a book after a change.
use Rattle.std.specs.Prelude.{◌≡◌, List, ℕ, ℤ}
use Rattle.model.specs.Book.{Book}
use Rattle.model.specs.declared.Head.{Head}
use Rattle.model.proofs.Sounds.{Is}

-- head and tables are those of the book b, with the fields and slots of h
pub record Became (h : Head) (ks : List ℤ) (ls : List ℕ) (b : Book) (r : Head) : Type 0 where
  pub is : Is r ks ls b
  pub k : r.k ≡ h.k
  pub c : r.c ≡ h.c
