-- What adding keeps, and what looking up finds.
use mathlib.Core.Path.{◌≡◌, refl, sym, ap}
use mathlib.Core.Logic.{◌⊎◌, inl, inr}
use mathlib.Core.List.Permᴰ
use mathlib.Core.List.{List, ◌∷◌, ◌++◌}
use mathlib.Core.Bool.{Bool, true, false}
use Prim.Native.Nat.{ℕ, suc, Ordering}
use native.Mathlib.Omega.{arith}
use lib.Dec.{leb}
use borrow.Author.Tests.{leb-true}
use Rattle.model.specs.Add.{insert, mend}
use Rattle.model.specs.Ask.{slot_of}
use Rattle.model.specs.Entry.{Entry, cmp}
use Rattle.model.specs.Rebuild.{rebuild}
use Rattle.model.specs.Tree.{Item, Tree, even, height, items, nil, node}
use Rattle.model.proofs.Heights.{rebuild-balanced}
use Rattle.model.proofs.Orders.{cmp-eq, cmp-flip, cmp-refl, cmp-trans, flip}
use Rattle.model.proofs.Ranks.{Distinct, Perm, Unlike, all-items, all_map, distinct-join, gt→lt, items-all, join-perm, perm-all, rebuild-ordered, rebuild-perm}
use Rattle.model.proofs.Trees.{All, AllL, Balanced, Even, Less, Ordered}

-- a fact about a mended node, from its two cases
pub even-true : (a b : ℕ) → even a b ≡ true → Even a b
even-true a b e = go (leb a (suc b)) (leb b (suc a)) refl refl
  where
    go : (x y : Bool) → leb a (suc b) ≡ x → leb b (suc a) ≡ y → Even a b
    go true true p q = (leb-true a (suc b) p, leb-true b (suc a) q)
    go true false p q = absurd (let z : ◌≡◌ {A = ℕ} 0 1 = cc (rw (p, q) at e) in omega arith)
    go false y p q = absurd (let z : ◌≡◌ {A = ℕ} 0 1 = cc (rw p at e) in omega arith)

pub mend-by : (P : Tree → Type 0) (t : ℕ) (i : Item) (l r : Tree) → (Even (height l) (height r) → P (node i l r)) → P (rebuild t (items l ++ (i ∷ items r))) → P (mend t i l r)
unfolding mend
mend-by P t i l r a b = go (even (height l) (height r)) refl
  where
    go : (o : Bool) → even (height l) (height r) ≡ o → P (mend t i l r)
    go true e = rw (e, mend) (a (even-true (height l) (height r) e))
    go false e = rw (e, mend) b

pub mend-perm : (t : ℕ) (i : Item) (l r : Tree) → Perm (items (mend t i l r)) (items l ++ (i ∷ items r))
mend-perm t i l r = mend-by (λ u. Perm (items u) (items l ++ (i ∷ items r))) t i l r (λ n. Permᴰ.refl _) (rebuild-perm t (items l ++ (i ∷ items r)))

pub mend-balanced : (t : ℕ) (i : Item) (l r : Tree) → Balanced l → Balanced r → Balanced (mend t i l r)
mend-balanced t i l r a b = mend-by Balanced t i l r (λ n. (n, a, b)) (rebuild-balanced t (items l ++ (i ∷ items r)))

pub less-unlike : (t : ℕ) (a b : Entry) → Less t a b → Unlike a b
less-unlike t a b h e = let z : ◌≡◌ {A = ℕ} 0 1 = cc (rw e at h, cmp-refl t b) in omega arith

pub node-distinct : (t : ℕ) (i : Item) (l r : List Item) → AllL (λ x. Less t x i.entry) l → AllL (λ x. Less t i.entry x) r → Distinct l → Distinct r → Distinct (l ++ (i ∷ r))
node-distinct t i l r a b p q = distinct-join l (i ∷ r) p (all_map (Less t i.entry) (Unlike i.entry) (less-unlike t i.entry) r b, q) (λ x. Less t x i.entry) a (λ x h. (less-unlike t x i.entry h, all_map (Less t i.entry) (Unlike x) (λ y k. less-unlike t x y (cmp-trans t x i.entry y h k)) r b))

pub ordered-distinct : (t : ℕ) (u : Tree) → Ordered t u → Distinct (items u)
ordered-distinct t nil h = tt
ordered-distinct t (node i l r) (a, b, p, q) = node-distinct t i (items l) (items r) (all-items (λ x. Less t x i.entry) l a) (all-items (Less t i.entry) r b) (ordered-distinct (suc t) l p) (ordered-distinct (suc t) r q)

pub mend-ordered : (t : ℕ) (i : Item) (l r : Tree) → Ordered t (node i l r) → Ordered t (mend t i l r)
mend-ordered t i l r h = mend-by (Ordered t) t i l r (λ n. h) (rebuild-ordered t (items l ++ (i ∷ items r)) (ordered-distinct t (node i l r) h))

-- adding
pub insert-by : (P : Tree → Type 0) (t : ℕ) (i j : Item) (l r : Tree) → (cmp t i.entry j.entry ≡ Ordering.lt → P (mend t j (insert (suc t) i l) r)) → (cmp t i.entry j.entry ≡ Ordering.eq → P (node j l r)) → (cmp t i.entry j.entry ≡ Ordering.gt → P (mend t j l (insert (suc t) i r))) → P (insert t i (node j l r))
unfolding insert
insert-by P t i j l r a b c = go (cmp t i.entry j.entry) refl
  where
    go : (o : Ordering) → cmp t i.entry j.entry ≡ o → P (insert t i (node j l r))
    go Ordering.lt e = rw (e, insert) (a e)
    go Ordering.eq e = rw (e, insert) (b e)
    go Ordering.gt e = rw (e, insert) (c e)

pub insert-balanced : (t : ℕ) (i : Item) (u : Tree) → Balanced u → Balanced (insert t i u)
unfolding insert
insert-balanced t i nil h = ((omega arith, omega arith), tt, tt)
insert-balanced t i (node j l r) (n, a, b) = insert-by Balanced t i j l r (λ e. mend-balanced t j (insert (suc t) i l) r (insert-balanced (suc t) i l a) b) (λ e. (n, a, b)) (λ e. mend-balanced t j l (insert (suc t) i r) a (insert-balanced (suc t) i r b))

pub insert-perm : (t : ℕ) (i : Item) (u : Tree) → All (Unlike i.entry) u → Perm (items (insert t i u)) (i ∷ items u)
unfolding insert
insert-perm t i nil h = Permᴰ.refl _
insert-perm t i (node j l r) (h, a, b) = insert-by (λ u. Perm (items u) (i ∷ (items l ++ (j ∷ items r)))) t i j l r (λ e. Permᴰ.trans (mend-perm t j (insert (suc t) i l) r) (join-perm j (insert-perm (suc t) i l a) (Permᴰ.refl _))) (λ e. absurd (h (cmp-eq t i.entry j.entry e))) (λ e. Permᴰ.trans (mend-perm t j l (insert (suc t) i r)) (Permᴰ.trans (join-perm j (Permᴰ.refl (items l)) (insert-perm (suc t) i r b)) (Permᴰ.trans (Permᴰ.append_left (items l) (Permᴰ.swap refl refl)) (Permᴰ.middle i (items l) (j ∷ items r)))))

pub insert_all : (P : Entry → Type 0) (t : ℕ) (i : Item) (u : Tree) → All (Unlike i.entry) u → P i.entry → All P u → All P (insert t i u)
insert_all P t i u f p h = items-all P (insert t i u) (perm-all P (Permᴰ.symm (insert-perm t i u f)) (p, all-items P u h))

pub insert-ordered : (t : ℕ) (i : Item) (u : Tree) → All (Unlike i.entry) u → Ordered t u → Ordered t (insert t i u)
unfolding insert
insert-ordered t i nil f h = (tt, tt, tt, tt)
insert-ordered t i (node j l r) (f, fl, fr) (a, b, p, q) = insert-by (Ordered t) t i j l r
    (λ e. mend-ordered t j (insert (suc t) i l) r (insert_all (λ x. Less t x j.entry) (suc t) i l fl e a, b, insert-ordered (suc t) i l fl p, q))
    (λ e. absurd (f (cmp-eq t i.entry j.entry e)))
    (λ e. mend-ordered t j l (insert (suc t) i r) (a, insert_all (Less t j.entry) (suc t) i r fr (gt→lt t i.entry j.entry e) b, p, insert-ordered (suc t) i r fr q))

abbrev pub item_at : ℕ → Entry → Item
item_at s e = record { slot = s; entry = e }

-- looking up: the slot of an entry that is there; 0 for one that is not
abbrev pub Has : Item → Tree → Type 0
Has k nil = ⊥
Has k (node i l r) = (k ≡ i) ⊎ (Has k l ⊎ Has k r)

pub has_all : (P : Entry → Type 0) (k : Item) (u : Tree) → Has k u → All P u → P k.entry
has_all P k nil m _ = elim m [ ]
has_all P k (node i l r) (inl e) (h, a, b) = rw e h
has_all P k (node i l r) (inr (inl m)) (h, a, b) = has_all P k l m a
has_all P k (node i l r) (inr (inr m)) (h, a, b) = has_all P k r m b

pub slot_of-by : (P : ℕ → Type 0) (t : ℕ) (k : Entry) (i : Item) (l r : Tree) → (cmp t k i.entry ≡ Ordering.lt → P (slot_of (suc t) k l)) → (cmp t k i.entry ≡ Ordering.eq → P i.slot) → (cmp t k i.entry ≡ Ordering.gt → P (slot_of (suc t) k r)) → P (slot_of t k (node i l r))
unfolding slot_of
slot_of-by P t k i l r a b c = go (cmp t k i.entry) refl
  where
    go : (o : Ordering) → cmp t k i.entry ≡ o → P (slot_of t k (node i l r))
    go Ordering.lt e = rw (e, slot_of) (a e)
    go Ordering.eq e = rw (e, slot_of) (b e)
    go Ordering.gt e = rw (e, slot_of) (c e)

-- two of the three answers of one comparison at once
pub lt-gt : {X : Type 0} (t : ℕ) (a b : Entry) → cmp t a b ≡ Ordering.lt → Less t b a → X
lt-gt t a b p q = absurd (let z : ◌≡◌ {A = ℕ} 0 1 = cc (cmp-flip t a b, ap flip p) in omega arith)

pub slot_of-found : (t : ℕ) (k : Item) (u : Tree) → Ordered t u → Has k u → slot_of t k.entry u ≡ k.slot
slot_of-found t k nil _ m = elim m [ ]
slot_of-found t k (node i l r) (a, b, p, q) (inl e) = slot_of-by (λ s. s ≡ k.slot) t k.entry i l r (λ c. absurd (less-unlike t k.entry i.entry c (ap (λ x. x.entry) e))) (λ c. ap (λ x. x.slot) (sym e)) (λ c. absurd (less-unlike t i.entry k.entry (gt→lt t k.entry i.entry c) (ap (λ x. x.entry) (sym e))))
slot_of-found t k (node i l r) (a, b, p, q) (inr (inl m)) =
    let h : Less t k.entry i.entry = has_all (λ x. Less t x i.entry) k l m a in
    slot_of-by (λ s. s ≡ k.slot) t k.entry i l r (λ c. slot_of-found (suc t) k l p m) (λ c. absurd (less-unlike t k.entry i.entry h (cmp-eq t k.entry i.entry c))) (λ c. lt-gt t k.entry i.entry h (gt→lt t k.entry i.entry c))
slot_of-found t k (node i l r) (a, b, p, q) (inr (inr m)) =
    let h : Less t i.entry k.entry = has_all (Less t i.entry) k r m b in
    slot_of-by (λ s. s ≡ k.slot) t k.entry i l r (λ c. lt-gt t k.entry i.entry c h) (λ c. absurd (less-unlike t i.entry k.entry h (sym (cmp-eq t k.entry i.entry c)))) (λ c. slot_of-found (suc t) k r q m)

pub slot_of-absent : (t : ℕ) (k : Entry) (u : Tree) → All (Unlike k) u → slot_of t k u ≡ 0
unfolding slot_of
slot_of-absent t k nil h = refl
slot_of-absent t k (node i l r) (h, a, b) = slot_of-by (λ s. s ≡ 0) t k i l r (λ c. slot_of-absent (suc t) k l a) (λ c. absurd (h (cmp-eq t k i.entry c))) (λ c. slot_of-absent (suc t) k r b)

-- what is found is there
pub slot_of-has : (t : ℕ) (k : Entry) (u : Tree) (s : ℕ) → slot_of t k u ≡ suc s → Has (item_at (suc s) k) u
unfolding slot_of
slot_of-has t k nil s e = absurd (omega arith)
slot_of-has t k (node i l r) s e = slot_of-by (λ o. o ≡ suc s → Has (item_at (suc s) k) (node i l r)) t k i l r (λ c h. inr (inl (slot_of-has (suc t) k l s h))) (λ c h. inl (λ x. record { slot = sym h x; entry = cmp-eq t k i.entry c x })) (λ c h. inr (inr (slot_of-has (suc t) k r s h))) e
