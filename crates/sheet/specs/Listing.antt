-- The numbers of some slots, one slot behind another, and a box written to a room.
use Rattle.std.specs.Prelude.{◌≡◌, Result, Ok, Err, List, [], ◌∷◌, ◌++◌, ℕ, ◌*◌, ◌≤◌, ◌<◌, length, drop, ℤ}
use Rattle.model.specs.Tree.{Tree, slots_of}
use Rattle.model.specs.Rebuild.{rank}
use Rattle.model.specs.declared.Bound.{Bound}
use Rattle.cells.specs.Slots.{numbers_of}
use Rattle.ask.specs.Standing.{Stands}
use Rattle.ask.specs.Boxes.{slots_in}
use Rattle.rank.specs.Ranking.{items_at}
use Rattle.sheet.specs.declared.listing.TooMany.{TooMany}

abbrev pub numbers_in : ℕ → List ℤ → List ℕ → List ℤ
numbers_in K ks [] = []
numbers_in K ks (s ∷ ss) = numbers_of K ks s ++ numbers_in K ks ss

-- the slots of the box in the tree, ranked from the first field on
abbrev pub ranked_in : ℕ → List ℤ → List Bound → Tree → List ℕ
ranked_in K ks bs u = slots_of (rank 0 (items_at K ks (slots_in bs u)))

-- how many entries were counted, whether they fit or not
abbrev pub counted : Result ℕ TooMany → ℕ
counted (Ok n) = n
counted (Err m) = m.count

-- whatever tree stands at the root: how many of its entries are in the box, whether they fit into the room, and the room after
pub record FilledWith (K : ℕ) (ks : List ℤ) (ls : List ℕ) (root : ℕ) (bs : List Bound) (room room' : List ℤ) (r : Result ℕ TooMany) : Type 0 where
  pub many : (u : Tree) → Stands K ks ls root 0 u → counted r ≡ length (slots_in bs u)
  pub long : (n : ℕ) → r ≡ Ok n → K * n ≤ length room
  pub short : (m : TooMany) → r ≡ Err m → length room < K * m.count
  pub written : (n : ℕ) → r ≡ Ok n → (u : Tree) → Stands K ks ls root 0 u → room' ≡ numbers_in K ks (ranked_in K ks bs u) ++ drop (K * n) room
  pub kept : (m : TooMany) → r ≡ Err m → room' ≡ room
