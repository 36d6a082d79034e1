-- The best of the items that were seen, and what each step of the search makes of it.
use Rattle.std.specs.Prelude.{◌≡◌, ◌⊎◌, true, false, ℕ, ◌≤◌, get_or, ℤ, pos, Option, None, Some}
use mathlib.Core.List.{List, [], ◌∷◌, ◌++◌, Memᴰ}
use Rattle.model.specs.Number.{order, distance_of_field}
use Rattle.model.specs.Entry.{Entry, distance}
use Rattle.model.specs.Tree.{Item, Tree, items, is_less}
use Rattle.model.specs.declared.Shape.{Shape}
use Rattle.model.proofs.Nears.{AsGood}
use Rattle.model.proofs.Trees.{Less}
use Rattle.cells.specs.Slots.{left_at, right_at, numbers_of, Keyed}
use Rattle.ask.specs.Standing.{Stands}
use Rattle.ask.specs.declared.near.Best.{Best}
use Rattle.ask.specs.declared.near.Turn.{Turn}

-- a slot with its numbers
abbrev pub item_of : ℕ → List ℤ → ℕ → Item
item_of K ks s = record { slot = s; entry = numbers_of K ks s }

-- b names one of the items, with its distance, and it is as good as each of them
pub record Chosen (K : ℕ) (ks : List ℤ) (steps : List ℕ) (q : Entry) (held : List Item) (b : Best) : Type 0 where
  pub some : ¬ (b.slot ≡ 0)
  pub one : Memᴰ (item_of K ks b.slot) held
  pub away : b.distance ≡ distance steps q (numbers_of K ks b.slot)
  pub good : (j : Item) → Memᴰ j held → AsGood steps q (numbers_of K ks b.slot) j.entry

-- of no items none is the best
abbrev pub BestOf : ℕ → List ℤ → List ℕ → Entry → List Item → Option Best → Type 0
BestOf K ks steps q held None = held ≡ []
BestOf K ks steps q held (Some b) = Chosen K ks steps q held b

-- the best so far, where there is one, lies in one of the pool's C slots
abbrev pub Pooled : ℕ → Option Best → Type 0
Pooled C None = Unit {0}
Pooled C (Some b) = (1 ≤ b.slot) × (b.slot ≤ C)

-- the best so far, where there is one, lies in a key table of n numbers
abbrev pub Tabled : ℕ → ℕ → Option Best → Type 0
Tabled K n None = Unit {0}
Tabled K n (Some b) = (b.slot ≤ 4096) × Keyed K n b.slot

-- b stays: it is nearer than slot s at distance d, or as near and not behind it in listing order
pub record Stays (K : ℕ) (ks : List ℤ) (b : Best) (s d : ℕ) (r : Best) : Type 0 where
  pub is : r ≡ b
  pub near : b.distance ≤ d
  pub tie : b.distance ≡ d → ¬ (Less 0 (numbers_of K ks s) (numbers_of K ks b.slot))

-- slot s takes its place, by the same rule
pub record Yields (K : ℕ) (ks : List ℤ) (b : Best) (s d : ℕ) (r : Best) : Type 0 where
  pub is : r ≡ record { slot = s; distance = d }
  pub near : d ≤ b.distance
  pub tie : d ≡ b.distance → ¬ (Less 0 (numbers_of K ks b.slot) (numbers_of K ks s))

-- where there was none, slot s is the best
abbrev pub Bettered : ℕ → List ℤ → Option Best → ℕ → ℕ → Best → Type 0
Bettered K ks None s d r = r ≡ record { slot = s; distance = d }
Bettered K ks (Some b) s d r = Stays K ks b s d r ⊎ Yields K ks b s d r

-- slot s seen: r is the best of it and of whatever b was the best of
pub record Visited (K : ℕ) (ks : List ℤ) (steps : List ℕ) (q : Entry) (b : Option Best) (s : ℕ) (r : Best) : Type 0 where
  pub which : (b ≡ Some r) ⊎ (r.slot ≡ s)
  pub chosen : (held : List Item) → BestOf K ks steps q held b → Chosen K ks steps q (item_of K ks s ∷ held) r

-- where the query lies from the cut field of slot s, and how far that field is
pub record Turned (K : ℕ) (ks : List ℤ) (ls : List ℕ) (steps : List ℕ) (q : Entry) (s c : ℕ) (t : Turn) : Type 0 where
  pub edge : t.edge ≡ distance_of_field (get_or steps c 0) (get_or q c (pos 0)) (get_or (numbers_of K ks s) c (pos 0))
  pub sides : ((is_less (order (get_or q c (pos 0)) (get_or (numbers_of K ks s) c (pos 0))) ≡ true) × ((t.near ≡ left_at ls s) × (t.far ≡ right_at ls s)))
      ⊎ ((is_less (order (get_or q c (pos 0)) (get_or (numbers_of K ks s) c (pos 0))) ≡ false) × ((t.near ≡ right_at ls s) × (t.far ≡ left_at ls s)))

-- r is the best of whatever tree stands at s and of whatever b was the best of
pub record Searched (S : Shape) (ks : List ℤ) (ls : List ℕ) (steps : List ℕ) (q : Entry) (s c : ℕ) (b r : Option Best) : Type 0 where
  pub pooled : Pooled S.c r
  pub best : (u : Tree) → Stands S.k ks ls s c u → (held : List Item) → BestOf S.k ks steps q held b → BestOf S.k ks steps q (items u ++ held) r
