-- A text that is a saved book of k fields, and a room that has the print of a text in front.
use Rattle.std.specs.Prelude.{◌≡◌, List, ℕ, ◌≤◌, length, take, drop}
use Rattle.model.specs.Entry.{Entry}
use Rattle.model.specs.Text.{parse, saved}
use Rattle.model.specs.Show.{program}

pub record SavedIn (text : List ℕ) (k : ℕ) : Type 0 where
  pub entries : List Entry
  pub is : parse text ≡ saved k entries

-- the first r bytes are what the program prints for the text; the room behind them is untouched
pub record Shown (text before after : List ℕ) (r : ℕ) : Type 0 where
  pub printed : take r after ≡ program text
  pub behind : drop r after ≡ drop r before
  pub within : r ≤ length after
