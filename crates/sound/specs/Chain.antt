-- What the walk along the free chain decides.
use Rattle.std.specs.Prelude.{◌≡◌, Bool, true, ◌&&◌, List, ℕ, eqb, length, ℤ}
use Rattle.model.specs.Pool.{cell_of, strung, zeros}
use Rattle.cells.specs.Slots.{right_at, height_at, numbers_of}

unfoldable pub cleared : ℕ → List ℤ → List ℕ → ℕ → Bool
cleared K ks ls s = eqb (right_at ls s) 0 && (eqb (height_at ls s) 0 && zeros (numbers_of K ks s))

-- n slots hang from s on, as the paper's definition has it
pub record Free (K C : ℕ) (ks : List ℤ) (ls : List ℕ) (s n : ℕ) : Type 0 where
  pub slots : List ℕ
  pub chain : strung (cell_of K ks ls) C s slots ≡ true
  pub count : length slots ≡ n
