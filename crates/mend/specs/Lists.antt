-- The scratch and the spare list of a pool of C slots.
use Rattle.std.specs.Prelude.{◌≡◌, ℕ, length, replicate}
use Rattle.mend.specs.declared.lists.Lists.{Lists}

-- both have a place for each slot, and the scratch is 0
pub record Blank (C : ℕ) (l : Lists) : Type 0 where
  pub scratch : l.scratch.now ≡ replicate C 0
  pub spare : length l.spare.now ≡ C

-- they are so again, and are still the lists that were lent
pub record Kept (C : ℕ) (l l' : Lists) : Type 0 where
  pub blank : Blank C l'
  pub scratch : l'.scratch.ghost_name ≡ l.scratch.ghost_name
  pub spare : l'.spare.ghost_name ≡ l.spare.ghost_name
