-- The text of some slots, and a book written to a room.
use Rattle.std.specs.Prelude.{◌≡◌, List, ◌++◌, ℕ, ◌≤◌, ◌<◌, length, drop, ℤ}
use Rattle.model.specs.Tree.{Tree, entries_of}
use Rattle.model.specs.Rebuild.{listing}
use Rattle.model.specs.Text.{text_of}
use Rattle.ask.specs.Standing.{Stands}
use Rattle.rank.specs.Ranking.{items_at}
use Rattle.std.specs.declared.option.Option.{Option}
use Rattle.std.specs.declared.option.Option.TheVariants.{Some, None}

-- the text of the entries in some slots
abbrev pub text_in : ℕ → List ℤ → List ℕ → List ℕ
text_in K ks ss = text_of K (entries_of (items_at K ks ss))

-- how many bytes a text has, where it has at most so many
pub record Measured (text : List ℕ) (most : ℕ) (r : Option ℕ) : Type 0 where
  pub bytes : (n : ℕ) → r ≡ Some n → n ≡ length text
  pub long : (n : ℕ) → r ≡ Some n → length text ≤ most
  pub short : r ≡ None → most < length text

-- whatever tree stands at the root: whether the text of its book fits into the room, and the room after
pub record PrintedWith (K : ℕ) (ks : List ℤ) (ls : List ℕ) (root : ℕ) (room room' : List ℕ) (r : Option ℕ) : Type 0 where
  pub measured : (u : Tree) → Stands K ks ls root 0 u → Measured (text_of K (listing u)) (length room) r
  pub written : (n : ℕ) → r ≡ Some n → (u : Tree) → Stands K ks ls root 0 u → room' ≡ text_of K (listing u) ++ drop (length (text_of K (listing u))) room
  pub kept : r ≡ None → room' ≡ room
