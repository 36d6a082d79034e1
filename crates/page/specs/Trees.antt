-- The lines of a print by name, and a tree that is to be printed.
use Rattle.std.specs.Prelude.{List, [], ◌∷◌, ◌++◌, ℕ, ◌+◌, ◌*◌, ◌≤◌, length, ℤ}
use Rattle.model.specs.Entry.{Entry, cut_field}
use Rattle.model.specs.Tree.{Tree, height, size}
use Rattle.model.specs.Text.{decimal, pairs}
use Rattle.model.specs.Show.{entries_is, height_is, free_is, slot_is, depth_is, cut_is, tree_lines}
use Rattle.cells.specs.Slots.{numbers_of}
use Rattle.cells.specs.Memory.{Rep}
use Rattle.print.specs.Place.{Puts}

-- the line of the entry e in slot s at depth t
unfoldable pub entry_line : ℕ → ℕ → ℕ → Entry → List ℕ
entry_line K t s e = slot_is ++ (decimal s ++ (depth_is ++ (decimal t ++ (cut_is ++ ((97 + cut_field K t) ∷ 32 ∷ (pairs 97 e ++ (10 ∷ [])))))))

-- the first line of a book
unfoldable pub totals : ℕ → ℕ → ℕ → List ℕ
totals n h f = entries_is ++ (decimal n ++ (height_is ++ (decimal h ++ (free_is ++ (decimal f ++ (10 ∷ []))))))

-- the line of slot s stands at `at`, and is short
pub record PutEntry (K : ℕ) (ks : List ℤ) (s t : ℕ) (before after : List ℕ) (at r : ℕ) : Type 0 where
  pub put : Puts before at (entry_line K t s (numbers_of K ks s)) after r
  pub short : length (entry_line K t s (numbers_of K ks s)) ≤ 160

-- some tree lies at s, to be printed from depth t on, and so much room is enough for its lines
pub record Printable (K : ℕ) (ks : List ℤ) (ls : List ℕ) (s t room : ℕ) : Type 0 where
  pub tree : Tree
  pub rep : Rep K ks ls s tree
  pub low : t + height tree ≤ 4096
  pub fits : 160 * size tree ≤ room

-- whatever tree lies at s, its lines from depth t on stand at `at`, and are short
pub record PutTree (K : ℕ) (ks : List ℤ) (ls : List ℕ) (s t : ℕ) (before after : List ℕ) (at r : ℕ) : Type 0 where
  pub put : (u : Tree) → Rep K ks ls s u → Puts before at (tree_lines K t u) after r
  pub short : (u : Tree) → Rep K ks ls s u → length (tree_lines K t u) ≤ 160 * size u
