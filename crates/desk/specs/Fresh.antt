-- The links of slots 1 to m of a fresh pool of C.
use Rattle.std.specs.Prelude.{◌≡◌, List, ℕ, suc, ◌≤◌, ◌<◌}
use Rattle.cells.specs.Slots.{left_at, right_at, height_at}

pub record Chained (ls : List ℕ) (C m : ℕ) : Type 0 where
  pub next : (s : ℕ) → 1 ≤ s → s ≤ m → s < C → left_at ls s ≡ suc s
  pub last : C ≤ m → left_at ls C ≡ 0
  pub right : (s : ℕ) → 1 ≤ s → s ≤ m → right_at ls s ≡ 0
  pub high : (s : ℕ) → 1 ≤ s → s ≤ m → height_at ls s ≡ 0
