-- A tree that stands at a slot: its entry, its sides one cut deeper, what the order says of a side's cut field, and why a walk ends.
use mathlib.Core.Path.{◌≡◌, sym, ap, ◌∙◌}
use mathlib.Core.Bool.{true, ◌&&◌}
use mathlib.Core.List.{List, ◌∷◌, ◌++◌}
use Prim.Native.Nat.{ℕ, suc, ◌+◌, ◌*◌, ◌≤◌, ◌<◌}
use native.Mathlib.Omega.{arith}
use lib.ListN.{length, length-append}
use lib.IntN.{ℤ}
use Rattle.model.specs.Entry.{cmp}
use Rattle.model.specs.Tree.{Item, Tree, nil, node, items, all, is_less, ordered}
use Rattle.model.specs.declared.Shape.{Shape}
use Rattle.model.proofs.Trees.{both}
use Rattle.cells.specs.Orders.{Deeper}
use Rattle.cells.specs.Slots.{left_at, right_at, tall, numbers_of, Slot, Keyed, Room}
use Rattle.cells.proofs.Slots.{tall-slot}
use Rattle.cells.proofs.Reps.{Node, open-node, open-nil, tall-rep}
use Rattle.ask.specs.Standing.{Stands, Standing}
use Rattle.ask.proofs.Walks.{keyed-in}

-- what stands at a slot s
module _ (K : ℕ) (ks : List ℤ) (ls : List ℕ) (s c : ℕ) (ne : ¬ (s ≡ 0)) (u : Tree) (st : Stands K ks ls s c u) where
  pub top : Node K ks ls s u
  top = open-node K ks ls s u st.rep ne

  parts : ((all (λ x. is_less (cmp st.depth x top.item.entry)) top.l ≡ true) × (all (λ x. is_less (cmp st.depth top.item.entry x)) top.r ≡ true)) × ((ordered (suc st.depth) top.l ≡ true) × (ordered (suc st.depth) top.r ≡ true))
  parts =
      let o : ordered st.depth (node top.item top.l top.r) ≡ true = sym (ap (ordered st.depth) top.is) ∙ st.in_order in
      let a = both (all (λ x. is_less (cmp st.depth x top.item.entry)) top.l && all (λ x. is_less (cmp st.depth top.item.entry x)) top.r) (ordered (suc st.depth) top.l && ordered (suc st.depth) top.r) o in
      (both _ _ a.0, both _ _ a.1)

  -- all on the left less than the entry here, all on the right greater
  pub lefts : all (λ x. is_less (cmp st.depth x (numbers_of K ks s))) top.l ≡ true
  lefts = rw top.entry parts.0.0

  pub rights : all (λ x. is_less (cmp st.depth (numbers_of K ks s) x)) top.r ≡ true
  rights = rw top.entry parts.0.1

  pub stands-left : (c' : ℕ) → Deeper K c c' → Stands K ks ls (left_at ls s) c' top.l
  stands-left c' d = record { depth = suc st.depth; cut = d.at st.depth st.cut; rep = top.left; in_order = parts.1.0 }

  pub stands-right : (c' : ℕ) → Deeper K c c' → Stands K ks ls (right_at ls s) c' top.r
  stands-right c' d = record { depth = suc st.depth; cut = d.at st.depth st.cut; rep = top.right; in_order = parts.1.1 }

  pub left-falls : tall ls (left_at ls s) < tall ls s
  left-falls = let h = tall-rep K ks ls (left_at ls s) top.l top.left in let g = tall-slot ls s ne ∙ top.high in omega arith

  pub right-falls : tall ls (right_at ls s) < tall ls s
  right-falls = let h = tall-rep K ks ls (right_at ls s) top.r top.right in let g = tall-slot ls s ne ∙ top.high in omega arith

  pub items-top : items u ≡ items top.l ++ (record { slot = s; entry = numbers_of K ks s } ∷ items top.r)
  items-top = ap items top.is ∙ ap (λ (i : Item). items top.l ++ (i ∷ items top.r)) (λ x. record { slot = top.here x; entry = sym top.entry x })

  pub many : length (items u) ≡ length (items top.l) + suc (length (items top.r))
  many = ap length items-top ∙ length-append (items top.l) (record { slot = s; entry = numbers_of K ks s } ∷ items top.r)

-- nothing stands at no slot
pub none-stands : (K : ℕ) (ks : List ℤ) (ls : List ℕ) (s c : ℕ) → s ≡ 0 → (u : Tree) → Stands K ks ls s c u → u ≡ nil
none-stands K ks ls s c e u st = open-nil K ks ls s u st.rep e

-- what a walk asks at a slot: it is one of the pool
module _ (S : Shape) (ks : List ℤ) (ls : List ℕ) (s c most : ℕ) (m : Room S (length ks) (length ls)) (ne : ¬ (s ≡ 0)) (st : Standing S.k ks ls s c most) where
  pub slot-here : Slot (length ls) s
  slot-here = (top S.k ks ls s c ne st.tree st.stands).slot

  pub pooled : s ≤ S.c
  pooled = let a : 3 * s ≤ length ls = slot-here.fits in let b = m.long in omega arith

  pub low-here : s ≤ 4096
  low-here = let a = pooled in let b = m.c_high in omega arith

  pub keyed-here : Keyed S.k (length ks) s
  keyed-here = keyed-in S (length ks) (length ls) s m ne pooled

  pub standing-left : (c' : ℕ) → Deeper S.k c c' → Standing S.k ks ls (left_at ls s) c' most
  standing-left c' d = record { tree = (top S.k ks ls s c ne st.tree st.stands).l; stands = stands-left S.k ks ls s c ne st.tree st.stands c' d; few = let a = many S.k ks ls s c ne st.tree st.stands in let b = st.few in omega arith }

  pub standing-right : (c' : ℕ) → Deeper S.k c c' → Standing S.k ks ls (right_at ls s) c' most
  standing-right c' d = record { tree = (top S.k ks ls s c ne st.tree st.stands).r; stands = stands-right S.k ks ls s c ne st.tree st.stands c' d; few = let a = many S.k ks ls s c ne st.tree st.stands in let b = st.few in omega arith }
