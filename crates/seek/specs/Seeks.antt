-- The last of a tree towards an entry that is cut at field h.
use Rattle.std.specs.Prelude.{◌≡◌, List, ◌++◌, ℕ, ℤ}
use Rattle.model.specs.Entry.{cut_field}
use Rattle.model.specs.Tree.{Item, Tree, node, items}
use Rattle.model.specs.Strike.{nearer, next}
use Rattle.ask.specs.Standing.{Stands}
use Rattle.seek.specs.Sides.{item_in}
use Rattle.seek.specs.Sides.{way_of}
use Rattle.seek.specs.declared.side.Side.{Side}

-- x is the slot of the further of two entries
pub record Further (K : ℕ) (ks : List ℤ) (side : Side) (h a b x : ℕ) : Type 0 where
  pub is : (t : ℕ) → cut_field K t ≡ h → item_in K ks x ≡ nearer (way_of side) t (item_in K ks a) (item_in K ks b)

-- x is its slot, whatever tree stands at s
pub record Sought (K : ℕ) (ks : List ℤ) (ls : List ℕ) (side : Side) (h s c x : ℕ) : Type 0 where
  pub is : (t : ℕ) → cut_field K t ≡ h → (i : Item) (l r : Tree) → Stands K ks ls s c (node i l r) → item_in K ks x ≡ next (way_of side) t i (items l ++ items r)

-- x is the slot of the further of that one and of best, and best where no tree stands
pub record Better (K : ℕ) (ks : List ℤ) (ls : List ℕ) (side : Side) (h best s c x : ℕ) : Type 0 where
  pub none : s ≡ 0 → x ≡ best
  pub some : (t : ℕ) → cut_field K t ≡ h → (i : Item) (l r : Tree) → Stands K ks ls s c (node i l r) → item_in K ks x ≡ nearer (way_of side) t (item_in K ks best) (next (way_of side) t i (items l ++ items r))
