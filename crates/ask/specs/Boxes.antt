-- The slots of a box, and the sides that a bound shuts out.
use Rattle.std.specs.Prelude.{◌≡◌, Bool, true, false, List, [], ◌∷◌, ℕ, ◌+◌, length, get_or, ℤ, pos}
use Rattle.std.proofs.Math.Dec.{is_le}
use Rattle.std.proofs.lemmas.List.Edits.{sets}
use Rattle.model.specs.Number.{order}
use Rattle.model.specs.Entry.{Entry}
use Rattle.model.specs.Tree.{Item, Tree, items, slots_of}
use Rattle.model.specs.Ask.{in_box}
use Rattle.model.specs.declared.Bound.{Bound}
use Rattle.model.specs.declared.Bound.TheVariants.{Free, AtLeast, AtMost, Between}
use Rattle.ask.specs.Standing.{Stands}
use Rattle.ask.specs.declared.boxes.Sides.{Sides}

-- a number that is not above x can be within the bound
unfoldable pub is_lower_open : Bound → ℤ → Bool
is_lower_open Free x = true
is_lower_open (AtLeast a) x = is_le (order a x)
is_lower_open (AtMost b) x = true
is_lower_open (Between a b) x = is_le (order a x)

-- a number that is not below x can be within the bound
unfoldable pub is_upper_open : Bound → ℤ → Bool
is_upper_open Free x = true
is_upper_open (AtLeast a) x = true
is_upper_open (AtMost b) x = is_le (order x b)
is_upper_open (Between a b) x = is_le (order x b)

-- what a box says at an entry that is cut at field c
pub record Weighed (bs : List Bound) (e : Entry) (c : ℕ) (w : Sides) : Type 0 where
  pub lower : w.lower ≡ is_lower_open (get_or bs c Free) (get_or e c (pos 0))
  pub here : w.here ≡ in_box bs e
  pub upper : w.upper ≡ is_upper_open (get_or bs c Free) (get_or e c (pos 0))

-- the items in the box
abbrev pub boxed : List Bound → List Item → List Item
boxed bs [] = []
boxed bs (i ∷ is) = elim (in_box bs i.entry) [ true ↦ i ∷ boxed bs is | false ↦ boxed bs is ]

abbrev pub slots_in : List Bound → Tree → List ℕ
slots_in bs u = slots_of (boxed bs (items u))

-- one slot, or none, noted
abbrev pub noting : Bool → ℕ → List ℕ
noting true s = s ∷ []
noting false s = []

pub record Noted (wanted : Bool) (s : ℕ) (before after : List ℕ) (at r : ℕ) : Type 0 where
  pub next : r ≡ at + length (noting wanted s)
  pub written : after ≡ sets before at (noting wanted s)

-- whatever tree stands at s, the slots of its entries in the box are noted from `at` on
pub record Collected (K : ℕ) (ks : List ℤ) (ls : List ℕ) (s c : ℕ) (bs : List Bound) (before after : List ℕ) (at r : ℕ) : Type 0 where
  pub next : (u : Tree) → Stands K ks ls s c u → r ≡ at + length (slots_in bs u)
  pub written : (u : Tree) → Stands K ks ls s c u → after ≡ sets before at (slots_in bs u)
