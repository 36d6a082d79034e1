-- A text that is known to be a saved book.
use Rattle.std.specs.Prelude.{◌≡◌, List, ℕ, length}
use Rattle.model.specs.Text.{saved, parse}
use Rattle.model.specs.Calls.{entries_in}

-- it has K fields and n entries
pub record Saves (text : List ℕ) (K n : ℕ) : Type 0 where
  pub says : parse text ≡ saved K (entries_in (parse text))
  pub many : length (entries_in (parse text)) ≡ n
