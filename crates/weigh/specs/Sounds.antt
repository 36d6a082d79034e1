-- A pool that is known to be sound.
use Rattle.std.specs.Prelude.{◌≡◌, true, List, ℕ, length, ℤ}
use Rattle.model.specs.Pool.{sound}
use Rattle.model.specs.declared.Head.{Head}
use Rattle.cells.specs.Slots.{Room}
use Rattle.sound.specs.Parts.{shape_of}

pub record Sound (h : Head) (ks : List ℤ) (ls : List ℕ) : Type 0 where
  pub room : Room (shape_of h) (length ks) (length ls)
  pub good : sound h ks ls ≡ true
