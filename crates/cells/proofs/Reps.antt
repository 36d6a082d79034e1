-- Trees in lent memory: taken apart and put together, one tree at a place, and what lies elsewhere does not matter.
use mathlib.Core.Path.{◌≡◌, refl, sym, ap, ap₂, subst, ◌∙◌}
use mathlib.Core.Logic.{◌⊎◌, inl, inr, ⊎_elim}
use mathlib.Core.List.{List, [], ◌∷◌, ◌++◌}
use Prim.Native.Nat.{ℕ, zero, suc, ◌*◌, ◌≤◌, max}
use native.Mathlib.Omega.{arith}
use native.Mathlib.Numerals.{sub-one}
use lib.ListN.{length}
use lib.IntN.{ℤ}
use Rattle.model.specs.Tree.{Item, Tree, nil, node, height, root_slot, items}
use Rattle.model.specs.Book.{Cell}
use Rattle.model.specs.Pool.{cell_of}
use Rattle.model.proofs.Crowd.{InPool}
use Rattle.model.proofs.Images.{AllS, Lies}
use Rattle.model.proofs.Strikes.{slots, slots-append}
use Rattle.cells.specs.Slots.{left_at, right_at, height_at, tall, address_of, numbers_of, Slot}
use Rattle.cells.specs.Memory.{Rep, In, Same, Frame, Put}
use Rattle.cells.proofs.Slots.{tall-zero, tall-slot}

-- what lies at a slot s
pub record Node (K : ℕ) (ks : List ℤ) (ls : List ℕ) (s : ℕ) (u : Tree) : Type 0 where
  pub item : Item
  pub l : Tree
  pub r : Tree
  pub is : u ≡ node item l r
  pub here : item.slot ≡ s
  pub entry : numbers_of K ks s ≡ item.entry
  pub slot : Slot (length ls) s
  pub high : height_at ls s ≡ suc (max (height l) (height r))
  pub left : Rep K ks ls (left_at ls s) l
  pub right : Rep K ks ls (right_at ls s) r

pub open-node : (K : ℕ) (ks : List ℤ) (ls : List ℕ) (s : ℕ) (u : Tree) → Rep K ks ls s u → ¬ (s ≡ 0) → Node K ks ls s u
open-node K ks ls s nil p ne = absurd (ne p)
open-node K ks ls s (node i l r) p ne = subst (λ (x : ℕ). Node K ks ls x (node i l r)) (sym p.0) (record { item = i; l = l; r = r; is = refl; here = refl; entry = p.2; slot = p.1; high = p.3; left = p.4; right = p.5 })

pub close-node : (K : ℕ) (ks : List ℤ) (ls : List ℕ) (i : Item) (l r : Tree) → Slot (length ls) i.slot → numbers_of K ks i.slot ≡ i.entry → height_at ls i.slot ≡ suc (max (height l) (height r)) → Rep K ks ls (left_at ls i.slot) l → Rep K ks ls (right_at ls i.slot) r → Rep K ks ls i.slot (node i l r)
close-node K ks ls i l r a e h x y = (refl, a, e, h, x, y)

pub open-nil : (K : ℕ) (ks : List ℤ) (ls : List ℕ) (s : ℕ) (u : Tree) → Rep K ks ls s u → s ≡ 0 → u ≡ nil
open-nil K ks ls s nil p e = refl
open-nil K ks ls s (node i l r) p e = absurd (let a : 1 ≤ i.slot = p.1.some in let b : s ≡ i.slot = p.0 in omega arith)

pub tall-rep : (K : ℕ) (ks : List ℤ) (ls : List ℕ) (s : ℕ) (u : Tree) → Rep K ks ls s u → tall ls s ≡ height u
tall-rep K ks ls s nil p = tall-zero ls s p
tall-rep K ks ls s (node i l r) p = let a : 1 ≤ i.slot = p.1.some in rw p.0 (tall-slot ls i.slot (λ e. omega arith) ∙ p.3)

pub rep-bound : (K : ℕ) (ks : List ℤ) (ls : List ℕ) (s : ℕ) (u : Tree) → Rep K ks ls s u → 3 * s ≤ length ls
rep-bound K ks ls s nil p = let e : s ≡ 0 = p in omega arith
rep-bound K ks ls s (node i l r) p = let e : s ≡ i.slot = p.0 in let h : 3 * i.slot ≤ length ls = p.1.fits in omega arith

item-same : (i j : Item) → i.slot ≡ j.slot → i.entry ≡ j.entry → i ≡ j
item-same i j p q = λ x. record { slot = p x; entry = q x }

-- one tree at a place
pub unique : (K : ℕ) (ks : List ℤ) (ls : List ℕ) (s : ℕ) (t u : Tree) → Rep K ks ls s t → Rep K ks ls s u → t ≡ u
unique K ks ls s nil u p q = sym (open-nil K ks ls s u q p)
unique K ks ls s (node i l r) nil p q = open-nil K ks ls s (node i l r) p q
unique K ks ls s (node i l r) (node j l' r') p q =
    let e : i.slot ≡ j.slot = sym p.0 ∙ q.0 in
    let f : i ≡ j = item-same i j e (sym p.2 ∙ ap (numbers_of K ks) e ∙ q.2) in
    let a : l ≡ l' = unique K ks ls (left_at ls i.slot) l l' p.4 (rw e q.4) in
    let b : r ≡ r' = unique K ks ls (right_at ls i.slot) r r' p.5 (rw e q.5) in
    cc

pub in_left : (j : ℕ) (a b : List ℕ) → In j a → In j (a ++ b)
in_left j [] b h = elim h [ ]
in_left j (x ∷ a) b (inl e) = inl e
in_left j (x ∷ a) b (inr h) = inr (in_left j a b h)

pub in_right : (j : ℕ) (a b : List ℕ) → In j b → In j (a ++ b)
in_right j [] b h = h
in_right j (x ∷ a) b h = inr (in_right j a b h)

pub in-cases : (j : ℕ) (a b : List ℕ) → In j (a ++ b) → In j a ⊎ In j b
in-cases j [] b h = inr h
in-cases j (x ∷ a) b (inl e) = inl (inl e)
in-cases j (x ∷ a) b (inr h) = ⊎_elim (λ i. inl (inr i)) (λ i. inr i) (in-cases j a b h)

-- the slots of a node: of its left side, itself, of its right side
pub in-node : (j : ℕ) (i : Item) (l r : Tree) → In j (slots l) ⊎ ((j ≡ i.slot) ⊎ In j (slots r)) → In j (slots (node i l r))
in-node j i l r h = rw (slots-append (items l) (i ∷ items r)) (⊎_elim (in_left j (slots l) (i.slot ∷ slots r)) (in_right j (slots l) (i.slot ∷ slots r)) h)

-- tables as long, with the same cells at the slots of a tree, hold the tree too
pub rep-same : (K : ℕ) (ks ks' : List ℤ) (ls ls' : List ℕ) → length ls' ≡ length ls → (s : ℕ) (u : Tree) → ((j : ℕ) → 1 ≤ j → In j (slots u) → Same K ks ks' ls ls' j) → Rep K ks ls s u → Rep K ks' ls' s u
rep-same K ks ks' ls ls' e s nil same p = p
rep-same K ks ks' ls ls' e s (node i l r) same p =
    let x : Same K ks ks' ls ls' i.slot = same i.slot p.1.some (in-node i.slot i l r (inr (inl refl))) in (
      p.0,
      rw e p.1,
      x.numbers ∙ p.2,
      x.high ∙ p.3,
      rw x.left (rep-same K ks ks' ls ls' e (left_at ls i.slot) l (λ j a h. same j a (in-node j i l r (inl h))) p.4),
      rw x.right (rep-same K ks ks' ls ls' e (right_at ls i.slot) r (λ j a h. same j a (in-node j i l r (inr (inr h)))) p.5),
    )

-- a tree that a frame leaves
pub rep-frame : (K : ℕ) (ks ks' : List ℤ) (ls ls' js : List ℕ) → length ls' ≡ length ls → Frame K ks ks' ls ls' js → (s : ℕ) (u : Tree) → ((j : ℕ) → In j (slots u) → ¬ (In j js)) → Rep K ks ls s u → Rep K ks' ls' s u
rep-frame K ks ks' ls ls' js e f s u out = rep-same K ks ks' ls ls' e s u (λ j a i. f j a (out j i))

pub same_self : (K : ℕ) (ks : List ℤ) (ls : List ℕ) (j : ℕ) → Same K ks ks ls ls j
same_self K ks ls j = record { left = refl; right = refl; high = refl; numbers = refl }

pub frame_self : (K : ℕ) (ks : List ℤ) (ls js : List ℕ) → Frame K ks ks ls ls js
frame_self K ks ls js j p h = same_self K ks ls j

pub frame-trans : (K : ℕ) (ks ks₁ ks₂ : List ℤ) (ls ls₁ ls₂ a b : List ℕ) → Frame K ks ks₁ ls ls₁ a → Frame K ks₁ ks₂ ls₁ ls₂ b → (c : List ℕ) → ((j : ℕ) → In j a → In j c) → ((j : ℕ) → In j b → In j c) → Frame K ks ks₂ ls ls₂ c
frame-trans K ks ks₁ ks₂ ls ls₁ ls₂ a b f g c x y j p h =
    let m = f j p (λ i. h (x j i)) in
    let n = g j p (λ i. h (y j i)) in
    record { left = n.left ∙ m.left; right = n.right ∙ m.right; high = n.high ∙ m.high; numbers = n.numbers ∙ m.numbers }

-- a node joined from two trees: the links of its slot are written last
pub joined : (K : ℕ) (ks : List ℤ) (ls ls' : List ℕ) (i : Item) (l r : ℕ) (u w : Tree) → length ls' ≡ length ls → Slot (length ls) i.slot → numbers_of K ks i.slot ≡ i.entry → Put ls ls' i.slot l r (suc (max (tall ls l) (tall ls r)))
    → Rep K ks ls l u → Rep K ks ls r w → ¬ (In i.slot (slots u)) → ¬ (In i.slot (slots w)) → Rep K ks ls' i.slot (node i u w)
joined K ks ls ls' i l r u w e ok en p a b x y =
    close-node K ks ls' i u w (rw e ok) en
    (p.high ∙ ap₂ (λ m n. suc (max m n)) (tall-rep K ks ls l u a) (tall-rep K ks ls r w b))
    (rw p.left (kept l u x a))
    (rw p.right (kept r w y b))
  where
    kept : (s : ℕ) (v : Tree) → ¬ (In i.slot (slots v)) → Rep K ks ls s v → Rep K ks ls' s v
    kept s v out = rep-frame K ks ks ls ls' (i.slot ∷ []) e (p.others K ks) s v (λ j h. ⊎_elim (λ q. out (rw q at h)) (λ z. z))

-- to the model's way of saying it, and back
pub link-cells : (K : ℕ) (ks : List ℤ) (ls : List ℕ) (s : ℕ) → 1 ≤ s → cell_of K ks ls s ≡ record { left = left_at ls s; right = right_at ls s; high = height_at ls s; key = numbers_of K ks s }
unfolding left_at right_at height_at numbers_of address_of
link-cells K ks ls zero h = absurd (omega arith)
link-cells K ks ls (suc n) h = rw sub-one refl

pub rep-lies : (K C : ℕ) (ks : List ℤ) (ls : List ℕ) → length ls ≡ 3 * C → (s : ℕ) (u : Tree) → Rep K ks ls s u → (root_slot u ≡ s) × AllS (InPool C) u × Lies (cell_of K ks ls) u
rep-lies K C ks ls n s nil p = (sym p, tt, tt)
rep-lies K C ks ls n s (node i l r) p =
    let a = rep-lies K C ks ls n (left_at ls i.slot) l p.4 in
    let b = rep-lies K C ks ls n (right_at ls i.slot) r p.5 in
    let f : 3 * i.slot ≤ length ls = p.1.fits in (
      sym p.0,
      ((p.1.some, omega arith), a.1, b.1),
      (link-cells K ks ls i.slot p.1.some ∙ (λ x. record { left = sym a.0 x; right = sym b.0 x; high = p.3 x; key = p.2 x }), a.2, b.2),
    )

pub lies-rep : (K C : ℕ) (ks : List ℤ) (ls : List ℕ) → length ls ≡ 3 * C → (u : Tree) → AllS (InPool C) u → Lies (cell_of K ks ls) u → Rep K ks ls (root_slot u) u
lies-rep K C ks ls n nil p q = refl
lies-rep K C ks ls n (node i l r) (p, pl, pr) (q, ql, qr) =
    let c = sym (link-cells K ks ls i.slot p.0) ∙ q in (
      refl,
      record { some = p.0; fits = omega arith },
      ap (λ (x : Cell). x.key) c,
      ap (λ (x : Cell). x.high) c,
      rw (ap (λ (x : Cell). x.left) c) (lies-rep K C ks ls n l pl ql),
      rw (ap (λ (x : Cell). x.right) c) (lies-rep K C ks ls n r pr qr),
    )
