-- What `two_at` and `three_at` need: the slots of a tree of two or three, by which children are missing.
use mathlib.Core.Path.{◌≡◌, refl, sym, ap, ap₂, ◌∙◌}
use mathlib.Core.List.{List, [], ◌∷◌, ◌++◌}
use Prim.Native.Nat.{ℕ, suc, ◌≤◌, ◌*◌, max}
use native.Mathlib.Omega.{arith}
use lib.ListN.{length}
use lib.IntN.{ℤ}
use Rattle.model.specs.Tree.{Tree, nil, node, height, items}
use Rattle.model.proofs.Strikes.{slots, slots-append}
use Rattle.cells.specs.Slots.{left_at, right_at, tall, Slot}
use Rattle.cells.specs.Memory.{Rep}
use Rattle.cells.proofs.Slots.{tall-zero}
use Rattle.cells.proofs.Reps.{Node, open-node, open-nil, tall-rep, rep-bound}
use Rattle.mend.specs.Listings.{Lying, Listed}

-- what lies at a slot s: its sides, and its slots around s
module _ (K : ℕ) (ks : List ℤ) (ls : List ℕ) (s : ℕ) (u : Tree) (p : Rep K ks ls s u) (ne : ¬ (s ≡ 0)) where
  opened : Node K ks ls s u
  opened = open-node K ks ls s u p ne

  around : (a b : List ℕ) → slots opened.l ≡ a → slots opened.r ≡ b → slots u ≡ a ++ (s ∷ b)
  around a b ea eb =
      ap slots opened.is
      ∙ slots-append (items opened.l) (opened.item ∷ items opened.r)
      ∙ ap₂ (λ (x y : List ℕ). x ++ y) ea (ap₂ (λ (x : ℕ) (y : List ℕ). x ∷ y) opened.here eb)

  high : tall ls s ≡ suc (max (height opened.l) (height opened.r))
  high = tall-rep K ks ls s u p ∙ ap height opened.is

placed : (K : ℕ) (ks : List ℤ) (ls : List ℕ) (x y : ℕ) (u : Tree) → y ≡ x → Rep K ks ls x u → Rep K ks ls y u
placed K ks ls x y u e p = rw e p

no-slots : (u : Tree) → height u ≡ 0 → slots u ≡ []
no-slots nil e = refl
no-slots (node i l r) e = absurd (omega arith)

one-slot : (K : ℕ) (ks : List ℤ) (ls : List ℕ) (s : ℕ) (u : Tree) → Rep K ks ls s u → height u ≡ 1 → slots u ≡ s ∷ []
one-slot K ks ls s u p e =
    let ne : ¬ (s ≡ 0) = λ z. let h = tall-zero ls s z in let t = tall-rep K ks ls s u p in omega arith in
    let h = high K ks ls s u p ne in
    let t = tall-rep K ks ls s u p in
    let o = opened K ks ls s u p ne in
    around K ks ls s u p ne [] [] (no-slots o.l (omega arith)) (no-slots o.r (omega arith))

-- ---- `two_at`

some : (ls : List ℕ) (s h : ℕ) → h ≡ tall ls s → h ≡ 2 → ¬ (s ≡ 0)
some ls s h eh e z = let a = tall-zero ls s z in omega arith

module _ {ls : List ℕ} {s h : ℕ} (eh : h ≡ tall ls s) (e : h ≡ 2) where
  pub two-slot : Lying ls s → Slot (length ls) s
  two-slot y = (opened y.K y.ks ls s y.tree y.rep (some ls s h eh e)).slot

  -- one child is missing, so the other one is a leaf
  module _ {l r : ℕ} (el : l ≡ left_at ls s) (er : r ≡ right_at ls s) where
    pub two-right : l ≡ 0 → Listed ls s (s ∷ r ∷ [])
    two-right z = record {
      at = λ K ks u p.
          let o = opened K ks ls s u p (some ls s h eh e) in
          let t = high K ks ls s u p (some ls s h eh e) in
          let a : o.l ≡ nil = open-nil K ks ls (left_at ls s) o.l o.left (sym el ∙ z) in
          let b : height o.l ≡ 0 = ap height a in
          around K ks ls s u p (some ls s h eh e) [] (r ∷ []) (ap slots a) (one-slot K ks ls r o.r (placed K ks ls (right_at ls s) r o.r er o.right) (omega arith));
    }

    pub two-left : r ≡ 0 → Listed ls s (l ∷ s ∷ [])
    two-left z = record {
      at = λ K ks u p.
          let o = opened K ks ls s u p (some ls s h eh e) in
          let t = high K ks ls s u p (some ls s h eh e) in
          let a : o.r ≡ nil = open-nil K ks ls (right_at ls s) o.r o.right (sym er ∙ z) in
          let b : height o.r ≡ 0 = ap height a in
          around K ks ls s u p (some ls s h eh e) (l ∷ []) [] (one-slot K ks ls l o.l (placed K ks ls (left_at ls s) l o.l el o.left) (omega arith)) (ap slots a);
    }

pub lying-bound : {ls : List ℕ} {s : ℕ} → Lying ls s → 3 * s ≤ length ls
lying-bound {ls} {s} y = rep-bound y.K y.ks ls s y.tree y.rep

-- ---- `three_at`

slot : (n s : ℕ) → Slot n s → ¬ (s ≡ 0)
slot n s here z = let a : 1 ≤ s = here.some in omega arith

module _ {ls : List ℕ} {s l r : ℕ} (here : Slot (length ls) s) (el : l ≡ left_at ls s) (er : r ≡ right_at ls s) where
  pub left-lying : Lying ls s → Lying ls l
  left-lying y = let o = opened y.K y.ks ls s y.tree y.rep (slot (length ls) s here) in record { K = y.K; ks = y.ks; tree = o.l; rep = placed y.K y.ks ls (left_at ls s) l o.l el o.left }

  pub right-lying : Lying ls s → Lying ls r
  right-lying y = let o = opened y.K y.ks ls s y.tree y.rep (slot (length ls) s here) in record { K = y.K; ks = y.ks; tree = o.r; rep = placed y.K y.ks ls (right_at ls s) r o.r er o.right }

  module _ {a b : ℕ} where
    pub three-right : l ≡ 0 → Listed ls r (a ∷ b ∷ []) → Listed ls s (s ∷ a ∷ b ∷ [])
    three-right z two = record {
      at = λ K ks u p.
          let o = opened K ks ls s u p (slot (length ls) s here) in
          let e : o.l ≡ nil = open-nil K ks ls (left_at ls s) o.l o.left (sym el ∙ z) in
          around K ks ls s u p (slot (length ls) s here) [] (a ∷ b ∷ []) (ap slots e) (two.at K ks o.r (placed K ks ls (right_at ls s) r o.r er o.right));
    }

    pub three-left : r ≡ 0 → Listed ls l (a ∷ b ∷ []) → Listed ls s (a ∷ b ∷ s ∷ [])
    three-left z two = record {
      at = λ K ks u p.
          let o = opened K ks ls s u p (slot (length ls) s here) in
          let e : o.r ≡ nil = open-nil K ks ls (right_at ls s) o.r o.right (sym er ∙ z) in
          around K ks ls s u p (slot (length ls) s here) (a ∷ b ∷ []) [] (two.at K ks o.l (placed K ks ls (left_at ls s) l o.l el o.left)) (ap slots e);
    }
