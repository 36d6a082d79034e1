-- A decision, and what is read from a head.
use Rattle.std.specs.Prelude.{◌≡◌, Bool, true, false}
use Rattle.model.specs.declared.Head.{Head}
use Rattle.model.specs.declared.Shape.{Shape}

pub record Tells (P : Type 0) (r : Bool) : Type 0 where
  pub good : r ≡ true → P
  pub bad : r ≡ false → P → ⊥

abbrev pub shape_of : Head → Shape
shape_of h = record { k = h.k; c = h.c }
