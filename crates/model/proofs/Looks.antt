-- Look-up's walk through the memory of a book in order is the walk in its tree: never astray, at most as long as the tree is high.
use mathlib.Core.Path.{◌≡◌, refl, sym, ap, ◌∙◌}
use mathlib.Core.List.{[], append-nil}
use mathlib.Core.Bool.{Bool, true, false}
use Prim.Native.Nat.{ℕ, zero, suc, ◌+◌, ◌≤◌, Ordering}
use native.Mathlib.Omega.{arith}
use lib.Dec.{leb}
use lib.ListN.{length}
use borrow.Author.Tests.{leb-true, leb-false, le-leb}
use Rattle.model.specs.Answer.{inward, refused}
use Rattle.model.specs.Ask.{fewest, reads, slot_of}
use Rattle.model.specs.Book.{Book, Cell, head_of, keys, links}
use Rattle.model.specs.Calls.{look_up, walked}
use Rattle.model.specs.Entry.{Entry, cmp}
use Rattle.model.specs.Gate.{reading, rows3, sized}
use Rattle.model.specs.Pool.{Walk, astray, cell_of, found, gone, read_limit, walk}
use Rattle.model.specs.Tree.{Item, Tree, height, nil, node, root_slot, size}
use Rattle.model.proofs.Adds.{less-unlike}
use Rattle.model.proofs.Backs.{image-lies, valid-size}
use Rattle.model.proofs.Books.{Valid, valid-in_pool}
use Rattle.model.proofs.Crowd.{InPool}
use Rattle.model.proofs.Gates.{checked-open}
use Rattle.model.proofs.Heights.{balanced-size, fewest-mono≤}
use Rattle.model.proofs.Images.{AllS, Lies}
use Rattle.model.proofs.Orders.{cmp-trans}
use Rattle.model.proofs.Passes.{Fit, pass-sized}
use Rattle.model.proofs.Ranks.{Unlike, gt→lt}
use Rattle.model.proofs.Trees.{All, Balanced, Less, Ordered, all-map_t}
use Rattle.model.specs.declared.Entry.{Entry as Four}
use Rattle.model.specs.declared.Head.{Head}

abbrev pub walk_of : ℕ → ℕ → Walk
walk_of zero r = gone r
walk_of (suc s) r = found (suc s) r

walk-lt : (m : ℕ) (f : ℕ → Cell) (C t : ℕ) (k : Entry) (r s : ℕ) → suc s ≤ C → cmp t k (f (suc s)).key ≡ Ordering.lt → walk (suc m) f C t k r (suc s) ≡ walk m f C (suc t) k (suc r) (f (suc s)).left
unfolding walk
walk-lt m f C t k r s h e = rw (le-leb (suc s) C h, walk) (rw e refl)

walk-eq : (m : ℕ) (f : ℕ → Cell) (C t : ℕ) (k : Entry) (r s : ℕ) → suc s ≤ C → cmp t k (f (suc s)).key ≡ Ordering.eq → walk (suc m) f C t k r (suc s) ≡ found (suc s) (suc r)
unfolding walk
walk-eq m f C t k r s h e = rw (le-leb (suc s) C h, walk) (rw e refl)

walk-gt : (m : ℕ) (f : ℕ → Cell) (C t : ℕ) (k : Entry) (r s : ℕ) → suc s ≤ C → cmp t k (f (suc s)).key ≡ Ordering.gt → walk (suc m) f C t k r (suc s) ≡ walk m f C (suc t) k (suc r) (f (suc s)).right
unfolding walk
walk-gt m f C t k r s h e = rw (le-leb (suc s) C h, walk) (rw e refl)

-- the tree's own walk, a step at a time
found_lt : (t : ℕ) (k : Entry) (i : Item) (l r : Tree) → cmp t k i.entry ≡ Ordering.lt → (slot_of t k (node i l r) ≡ slot_of (suc t) k l) × (reads t k (node i l r) ≡ suc (reads (suc t) k l))
unfolding slot_of reads
found_lt t k i l r e = (rw (e, slot_of) refl, rw (e, reads) refl)

found-eq : (t : ℕ) (k : Entry) (i : Item) (l r : Tree) → cmp t k i.entry ≡ Ordering.eq → (slot_of t k (node i l r) ≡ i.slot) × (reads t k (node i l r) ≡ 1)
unfolding slot_of reads
found-eq t k i l r e = (rw (e, slot_of) refl, rw (e, reads) refl)

found-gt : (t : ℕ) (k : Entry) (i : Item) (l r : Tree) → cmp t k i.entry ≡ Ordering.gt → (slot_of t k (node i l r) ≡ slot_of (suc t) k r) × (reads t k (node i l r) ≡ suc (reads (suc t) k r))
unfolding slot_of reads
found-gt t k i l r e = (rw (e, slot_of) refl, rw (e, reads) refl)

found-nil : (t : ℕ) (k : Entry) → (slot_of t k nil ≡ 0) × (reads t k nil ≡ 0)
unfolding slot_of reads
found-nil t k = (refl, refl)

walk-zero : (m : ℕ) (f : ℕ → Cell) (C t : ℕ) (k : Entry) (r : ℕ) → walk m f C t k r 0 ≡ gone r
unfolding walk
walk-zero zero f C t k r = refl
walk-zero (suc m) f C t k r = refl

pub walk-tree : (m : ℕ) (f : ℕ → Cell) (C t : ℕ) (k : Entry) (r : ℕ) (u : Tree) → height u ≤ m → AllS (InPool C) u → Lies f u → walk m f C t k r (root_slot u) ≡ walk_of (slot_of t k u) (r + reads t k u)
walk-tree m f C t k r nil h p q =
    let z = found-nil t k in
    let e : r + 0 ≡ r = omega arith in
    walk-zero m f C t k r ∙ rw (z.0, z.1, e) refl
walk-tree zero f C t k r (node i a b) h p q = absurd (omega arith)
walk-tree (suc m) f C t k r (node i a b) h (p, pa, pb) (q, qa, qb) = go i.slot refl (cmp t k i.entry) refl (walk-tree m f C (suc t) k (suc r) a (omega arith) pa qa) (walk-tree m f C (suc t) k (suc r) b (omega arith) pb qb)
  where
    same : (f i.slot).key ≡ i.entry
    same = ap (λ c. c.key) q

    go : (s : ℕ) → i.slot ≡ s → (o : Ordering) → cmp t k i.entry ≡ o → walk m f C (suc t) k (suc r) (root_slot a) ≡ walk_of (slot_of (suc t) k a) (suc r + reads (suc t) k a) → walk m f C (suc t) k (suc r) (root_slot b) ≡ walk_of (slot_of (suc t) k b) (suc r + reads (suc t) k b) → walk (suc m) f C t k r s ≡ walk_of (slot_of t k (node i a b)) (r + reads t k (node i a b))
    go zero g o c x y = absurd (omega arith)
    go (suc s) g Ordering.lt c x y =
        let z = found_lt t k i a b c in
        let n : r + suc (reads (suc t) k a) ≡ suc r + reads (suc t) k a = omega arith in
        walk-lt m f C t k r s (omega arith) (rw (← g, same) c) ∙ ap (walk m f C (suc t) k (suc r)) (ap (λ z. (f z).left) (sym g) ∙ ap (λ c. c.left) q) ∙ rw (z.0, z.1, n) x
    go (suc s) g Ordering.eq c x y =
        let z = found-eq t k i a b c in
        let n : r + 1 ≡ suc r = omega arith in
        walk-eq m f C t k r s (omega arith) (rw (← g, same) c) ∙ rw (z.0, z.1, n, g) refl
    go (suc s) g Ordering.gt c x y =
        let z = found-gt t k i a b c in
        let n : r + suc (reads (suc t) k b) ≡ suc r + reads (suc t) k b = omega arith in
        walk-gt m f C t k r s (omega arith) (rw (← g, same) c) ∙ ap (walk m f C (suc t) k (suc r)) (ap (λ z. (f z).right) (sym g) ∙ ap (λ c. c.right) q) ∙ rw (z.0, z.1, n) y

-- 4,096 entries are never higher than 16
pub low-enough : (u : Tree) → Balanced u → size u ≤ 4096 → height u ≤ 16
low-enough u b n = go (leb (height u) 16) refl
  where
    go : (o : Bool) → leb (height u) 16 ≡ o → height u ≤ 16
    go true e = leb-true (height u) 16 e
    go false e =
        let a : 17 ≤ height u = leb-false (height u) 16 e in
        let c : fewest 17 ≤ fewest (height u) = fewest-mono≤ (height u) 17 a in
        let d : fewest (height u) ≤ size u = balanced-size u b in
        let z : fewest 17 ≡ 4180 = refl in
        absurd (omega arith)

-- the whole answer of look-up on the memory of a book in order
pub look-image : (K C : ℕ) (b : Book) → Fit K C → Valid K C b → (e : Four) → look_up (head_of K C b) (keys K C b) (links K C b) e ≡ reading (walked (head_of K C b) (inward K e) (walk_of (slot_of 0 (inward K e) b.tree) (reads 0 (inward K e) b.tree))) (keys K C b) (links K C b)
unfolding look_up head_of
look-image K C b fit v e =
    let h : Head = head_of K C b in
    let f : ℕ → Cell = cell_of K (keys K C b) (links K C b) in
    let n : size b.tree + length b.chain ≡ C = valid-size K C b v in
    let c : C ≤ 4096 = fit.c_high in
    let z : 0 + reads 0 (inward K e) b.tree ≡ reads 0 (inward K e) b.tree = omega arith in
    checked-open (rows3 K C (sized K C (keys K C b) (links K C b))) (λ r. reading (refused h 0 r) (keys K C b) (links K C b)) (reading (walked h (inward K e) (walk read_limit f C 0 (inward K e) 0 (root_slot b.tree))) (keys K C b) (links K C b)) (rw append-nil at (pass-sized K C b fit v []))
    ∙ ap (λ w. reading (walked h (inward K e) w) (keys K C b) (links K C b)) (walk-tree 16 f C 0 (inward K e) 0 b.tree (low-enough b.tree v.balanced (omega arith)) (valid-in_pool K C b v) (image-lies K C b v) ∙ ap (walk_of (slot_of 0 (inward K e) b.tree)) z)

-- slot 0 means: not there
pub slot_of-none : (C t : ℕ) (k : Entry) (u : Tree) → Ordered t u → AllS (InPool C) u → slot_of t k u ≡ 0 → All (Unlike k) u
slot_of-none C t k nil o p h = tt
slot_of-none C t k (node i l r) (oa, ob, ol, or) (p, pl, pr) h = go (cmp t k i.entry) refl (λ g. slot_of-none C (suc t) k l ol pl g) (λ g. slot_of-none C (suc t) k r or pr g)
  where
    go : (o : Ordering) → cmp t k i.entry ≡ o → (slot_of (suc t) k l ≡ 0 → All (Unlike k) l) → (slot_of (suc t) k r ≡ 0 → All (Unlike k) r) → All (Unlike k) (node i l r)
    go Ordering.lt c x y = (less-unlike t k i.entry c, x (sym (found_lt t k i l r c).0 ∙ h), all-map_t (Less t i.entry) (Unlike k) (λ z g. less-unlike t k z (cmp-trans t k i.entry z c g)) r ob)
    go Ordering.eq c x y = let z : i.slot ≡ 0 = sym (found-eq t k i l r c).0 ∙ h in absurd (omega arith)
    go Ordering.gt c x y =
        let d : Less t i.entry k = gt→lt t k i.entry c in
        ((λ z. less-unlike t i.entry k d (sym z)), all-map_t (λ z. Less t z i.entry) (Unlike k) (λ z g w. less-unlike t z k (cmp-trans t z i.entry k g d) (sym w)) l oa, y (sym (found-gt t k i l r c).0 ∙ h))

-- look-up returns the head that it was given
pub walked-head : (h : Head) (e : Entry) (w : Walk) → (walked h e w).head ≡ h
walked-head h e (found s r) = refl
walked-head h e (gone r) = refl
walked-head h e astray = refl
