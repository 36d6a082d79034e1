-- Damaged pools, each of them one fault away from the sound pool of B2: none is sound. (Rules of the tree: sound.)
use Rattle.std.specs.Prelude.{◌≡◌, true, false}
use Rattle.model.specs.Pool.{sound}
use Rattle.model.specs.Bench.{head_is, six, nine}

pub record Damage : Type 0 where
  pub whole : sound (head_is 2 0 3) (six 1 9 2 4 3 7) (nine 0 0 1 1 3 2 0 0 1) ≡ true
  pub shared : sound (head_is 2 0 3) (six 1 9 2 4 3 7) (nine 0 0 1 1 1 2 0 0 1) ≡ false
  pub circle : sound (head_is 2 0 3) (six 1 9 2 4 3 7) (nine 0 0 1 2 3 2 0 0 1) ≡ false
  pub outside : sound (head_is 2 0 3) (six 1 9 2 4 3 7) (nine 0 0 1 1 4 2 0 0 1) ≡ false
  pub root_outside : sound (head_is 4 0 3) (six 1 9 2 4 3 7) (nine 0 0 1 1 3 2 0 0 1) ≡ false
  pub height : sound (head_is 2 0 3) (six 1 9 2 4 3 7) (nine 0 0 1 1 3 3 0 0 1) ≡ false
  pub order : sound (head_is 2 0 3) (six 3 7 2 4 1 9) (nine 0 0 1 1 3 2 0 0 1) ≡ false
  pub twice : sound (head_is 2 0 3) (six 2 4 2 4 3 7) (nine 0 0 1 1 3 2 0 0 1) ≡ false
  pub count : sound (head_is 2 0 2) (six 1 9 2 4 3 7) (nine 0 0 1 1 3 2 0 0 1) ≡ false
  pub uneven : sound (head_is 1 0 3) (six 1 9 2 9 3 9) (nine 0 2 3 0 3 2 0 0 1) ≡ false
  pub chain_whole : sound (head_is 0 1 0) (six 0 0 0 0 0 0) (nine 2 0 0 3 0 0 0 0 0) ≡ true
  pub chain_circle : sound (head_is 0 1 0) (six 0 0 0 0 0 0) (nine 2 0 0 3 0 0 1 0 0) ≡ false
  pub chain_short : sound (head_is 0 1 0) (six 0 0 0 0 0 0) (nine 2 0 0 0 0 0 0 0 0) ≡ false
  pub chain_outside : sound (head_is 0 1 0) (six 0 0 0 0 0 0) (nine 2 0 0 4 0 0 0 0 0) ≡ false
  pub not_cleared : sound (head_is 0 1 0) (six 0 0 0 0 0 1) (nine 2 0 0 3 0 0 0 0 0) ≡ false
  pub right_left : sound (head_is 0 1 0) (six 0 0 0 0 0 0) (nine 2 0 0 3 1 0 0 0 0) ≡ false
