-- A node by its side that is looked at and its other side.
use mathlib.Core.Path.{◌≡◌, refl}
use mathlib.Core.List.Permᴰ
use mathlib.Core.List.{List, ◌∷◌, ◌++◌}
use Prim.Native.Nat.{ℕ, ◌<◌}
use native.Mathlib.Omega.{arith}
use lib.ListN.{length}
use lib.IntN.{ℤ}
use Rattle.model.specs.Tree.{Item, Tree, node, items}
use Rattle.model.proofs.Crowd.{PermS}
use Rattle.model.proofs.Strikes.{slots, slots-append}
use Rattle.cells.specs.Slots.{left_at, right_at, tall, Slot}
use Rattle.cells.specs.Memory.{Rep, Same}
use Rattle.cells.proofs.Reps.{tall-rep}
use Rattle.mend.specs.Mends.{Mended, MendedOn}
use Rattle.seek.specs.Sides.{item_in, child_at, other_of, on_side}
use Rattle.seek.specs.declared.side.Side.{Side}
use Rattle.seek.specs.declared.side.Side.TheVariants.{Left, Right}

-- the parts of a tree that lies at a slot s
pub record Sided (side : Side) (v : Tree) : Type 0 where
  pub item : Item
  pub there : Tree
  pub other : Tree
  pub is : v ≡ node item (on_side side there other) (on_side side other there)

pub sided : (side : Side) (i : Item) (l r : Tree) → Sided side (node i l r)
sided Left i l r = record { item = i; there = l; other = r; is = refl }
sided Right i l r = record { item = i; there = r; other = l; is = refl }

pub record Halves (K : ℕ) (ks : List ℤ) (ls : List ℕ) (s : ℕ) (side : Side) (i : Item) (u w : Tree) : Type 0 where
  pub item-is : item_in K ks s ≡ i
  pub slot : Slot (length ls) s
  pub there-rep : Rep K ks ls (child_at ls s side) u
  pub other_rep : Rep K ks ls (child_at ls s (other_of side)) w
  pub falls : tall ls (child_at ls s side) < tall ls s

halves_of : (K : ℕ) (ks : List ℤ) (ls : List ℕ) (side : Side) (i : Item) (u w : Tree) → Rep K ks ls i.slot (node i (on_side side u w) (on_side side w u)) → Halves K ks ls i.slot side i u w
halves_of K ks ls Left i u w p = record {
  item-is = λ x. record { slot = i.slot; entry = p.2 x };
  slot = p.1;
  there-rep = p.4;
  other_rep = p.5;
  falls = let a = tall-rep K ks ls (left_at ls i.slot) u p.4 in let b = tall-rep K ks ls i.slot (node i u w) p in omega arith;
}
halves_of K ks ls Right i u w p = record {
  item-is = λ x. record { slot = i.slot; entry = p.2 x };
  slot = p.1;
  there-rep = p.5;
  other_rep = p.4;
  falls = let a = tall-rep K ks ls (right_at ls i.slot) u p.5 in let b = tall-rep K ks ls i.slot (node i w u) p in omega arith;
}

pub halves : (K : ℕ) (ks : List ℤ) (ls : List ℕ) (s : ℕ) (side : Side) (i : Item) (u w : Tree) → Rep K ks ls s (node i (on_side side u w) (on_side side w u)) → Halves K ks ls s side i u w
halves K ks ls s side i u w p = rw p.0 (halves_of K ks ls side i u w (rw p.0 at p))

-- its slots, s in front
pub sided-perm : (side : Side) (s : ℕ) (u w : Tree) → PermS (slots (on_side side u w) ++ (s ∷ slots (on_side side w u))) (s ∷ (slots u ++ slots w))
sided-perm Left s u w = Permᴰ.middle s (slots u) (slots w)
sided-perm Right s u w = Permᴰ.trans (Permᴰ.middle s (slots w) (slots u)) (Permᴰ.cons refl (Permᴰ.append_comm (slots w) (slots u)))

pub whole-perm : (side : Side) (i : Item) (u w : Tree) → PermS (slots (node i (on_side side u w) (on_side side w u))) (i.slot ∷ (slots u ++ slots w))
whole-perm side i u w = rw (slots-append (items (on_side side u w)) (i ∷ items (on_side side w u))) (sided-perm side i.slot u w)

pub child-same : (K : ℕ) (ks ks' : List ℤ) (ls ls' : List ℕ) (s : ℕ) (side : Side) → Same K ks ks' ls ls' s → child_at ls' s side ≡ child_at ls s side
child-same K ks ks' ls ls' s Left h = h.left
child-same K ks ks' ls ls' s Right h = h.right

-- ---- `mend_on`: the new child on the left, and on the right

pub mended-left : {K : ℕ} {ks : List ℤ} {ls ls' : List ℕ} {c s : ℕ} {side : Side} {child r x : ℕ} → side ≡ Left → r ≡ right_at ls s → Mended K ks ls ls' c s child r x → MendedOn K ks ls ls' c s side child x
mended-left q e m = rw q (record { rep = λ t h u w a b. m.rep t h u w a (rw e b); frame = λ u w a b. m.frame u w a (rw e b) })

pub mended-right : {K : ℕ} {ks : List ℤ} {ls ls' : List ℕ} {c s : ℕ} {side : Side} {child l x : ℕ} → side ≡ Right → l ≡ left_at ls s → Mended K ks ls ls' c s l child x → MendedOn K ks ls ls' c s side child x
mended-right q e m = rw q (record { rep = λ t h u w a b. m.rep t h w u (rw e b) a; frame = λ u w a b. m.frame w u (rw e b) a })
