-- The memory of a book: what its cells hold, and reading the tree back from them.
use mathlib.Core.Path.{◌≡◌, refl, sym, ap, ◌∙◌}
use mathlib.Core.List.{[], ◌∷◌, ◌++◌}
use mathlib.Core.Bool.{Bool, true, false}
use Prim.Native.Nat.{ℕ, zero, suc, ◌+◌, ◌*◌, ◌≤◌, ◌<◌}
use native.Mathlib.Omega.{arith}
use native.Mathlib.Nat.{mul-suc, mul-zero}
use native.Mathlib.Numerals.{one-add}
use lib.Dec.{eqb}
use lib.ListN.{length, take, drop, get_or, length-replicate}
use lib.Seq.{take_at}
use lib.IntN.{pos}
use borrow.Author.Tests.{eqb-true, eqb-false}
use Rattle.model.specs.Book.{Book, Cell, cell, cell_in, key_cells, keys, link_cells, links, up_from}
use Rattle.model.specs.Entry.{Entry}
use Rattle.model.specs.Pool.{cell_of, tree_from}
use Rattle.model.specs.Tree.{Item, Tree, height, nil, node, root_slot}
use Rattle.model.proofs.Crowd.{InPool}
use Rattle.model.proofs.Trees.{All}

-- every slot of a tree
abbrev pub AllS : (ℕ → Type 0) → Tree → Type 0
AllS P nil = Unit {0}
AllS P (node i l r) = P i.slot × AllS P l × AllS P r

abbrev pub Other : ℕ → ℕ → Type 0
Other a b = ¬ (a ≡ b)

-- no slot twice
abbrev pub Once : Tree → Type 0
Once nil = Unit {0}
Once (node i l r) = AllS (Other i.slot) l × AllS (Other i.slot) r × AllS (λ s. AllS (λ s'. ¬ (s' ≡ s)) l) r × Once l × Once r

pub cell_in-by : (P : Cell → Type 0) (s : ℕ) (i : Item) (l r : Tree) (d : Cell) → (s ≡ i.slot → P (record { left = root_slot l; right = root_slot r; high = height (node i l r); key = i.entry })) → (¬ (s ≡ i.slot) → P (cell_in s l (cell_in s r d))) → P (cell_in s (node i l r) d)
unfolding cell_in
cell_in-by P s i l r d a b = go (eqb s i.slot) refl
  where
    go : (o : Bool) → eqb s i.slot ≡ o → P (cell_in s (node i l r) d)
    go true e = rw (e, cell_in) (a (eqb-true s i.slot e))
    go false e = rw (e, cell_in) (b (eqb-false s i.slot e))

pub cell_in-miss : (s : ℕ) (u : Tree) (d : Cell) → AllS (λ s'. ¬ (s' ≡ s)) u → cell_in s u d ≡ d
unfolding cell_in
cell_in-miss s nil d h = refl
cell_in-miss s (node i l r) d (h, a, b) = cell_in-by (λ c. c ≡ d) s i l r d (λ e. absurd (h (sym e))) (λ n. cell_in-miss s l (cell_in s r d) a ∙ cell_in-miss s r d b)

-- a tree that lies in a bigger one: the cells of its slots are its own
abbrev pub Lies : (ℕ → Cell) → Tree → Type 0
Lies f nil = Unit {0}
Lies f (node i l r) = (f i.slot ≡ record { left = root_slot l; right = root_slot r; high = height (node i l r); key = i.entry }) × Lies f l × Lies f r

pub lies-map : (f g : ℕ → Cell) (u : Tree) → AllS (λ s. f s ≡ g s) u → Lies g u → Lies f u
lies-map f g nil e h = tt
lies-map f g (node i l r) (e, el, er) (h, a, b) = (e ∙ h, lies-map f g l el a, lies-map f g r er b)

pub alls-map : (P Q : ℕ → Type 0) → ((s : ℕ) → P s → Q s) → (u : Tree) → AllS P u → AllS Q u
alls-map P Q f nil h = tt
alls-map P Q f (node i l r) (h, a, b) = (f i.slot h, alls-map P Q f l a, alls-map P Q f r b)

pub alls-both : (P Q R : ℕ → Type 0) → ((s : ℕ) → P s → Q s → R s) → (u : Tree) → AllS P u → AllS Q u → AllS R u
alls-both P Q R f nil g h = tt
alls-both P Q R f (node i l r) (g, a, b) (h, c, d) = (f i.slot g h, alls-both P Q R f l a c, alls-both P Q R f r b d)

pub alls-all : (P : ℕ → Type 0) → ((s : ℕ) → P s) → (u : Tree) → AllS P u
alls-all P f nil = tt
alls-all P f (node i l r) = (f i.slot, alls-all P f l, alls-all P f r)

pub cell_in-lies : (u : Tree) (d : ℕ → Cell) → Once u → Lies (λ s. cell_in s u (d s)) u
unfolding cell_in
cell_in-lies nil d h = tt
cell_in-lies (node i l r) d (a, b, c, p, q) = (
  cell_in-by (λ x. x ≡ record { left = root_slot l; right = root_slot r; high = height (node i l r); key = i.entry }) i.slot i l r (d i.slot) (λ e. refl) (λ n. absurd (n refl)),
  lies-map (λ s. cell_in s (node i l r) (d s)) (λ s. cell_in s l (cell_in s r (d s))) l (alls-map (Other i.slot) (λ s. cell_in s (node i l r) (d s) ≡ cell_in s l (cell_in s r (d s))) (λ s n. cell_in-by (λ x. x ≡ cell_in s l (cell_in s r (d s))) s i l r (d s) (λ e. absurd (n (sym e))) (λ m. refl)) l a) (cell_in-lies l (λ s. cell_in s r (d s)) p),
  lies-map (λ s. cell_in s (node i l r) (d s)) (λ s. cell_in s r (d s)) r (alls-both (Other i.slot) (λ s. AllS (λ s'. ¬ (s' ≡ s)) l) (λ s. cell_in s (node i l r) (d s) ≡ cell_in s r (d s)) (λ s n m. cell_in-by (λ x. x ≡ cell_in s r (d s)) s i l r (d s) (λ e. absurd (n (sym e))) (λ o. cell_in-miss s l (cell_in s r (d s)) m)) r b c) (cell_in-lies r d q),
)

-- reading a slot's part of the two tables
read-links : (K : ℕ) (b : Book) (C n s : ℕ) → n < C → (get_or (link_cells K b (up_from C s)) (3 * n) 0 ≡ (cell K b (s + n)).left) × (get_or (link_cells K b (up_from C s)) (3 * n + 1) 0 ≡ (cell K b (s + n)).right) × (get_or (link_cells K b (up_from C s)) (3 * n + 2) 0 ≡ (cell K b (s + n)).high)
unfolding up_from
read-links K b zero n s h = absurd (omega arith)
read-links K b (suc C) zero s h = let e : s + 0 ≡ s = omega arith in rw e (refl, refl, refl)
read-links K b (suc C) (suc n) s h =
    let e0 : 3 * suc n ≡ suc (suc (suc (3 * n))) = omega arith in
    let e1 : suc (suc (suc (3 * n))) + 1 ≡ suc (suc (suc (3 * n + 1))) = omega arith in
    let e2 : suc (suc (suc (3 * n))) + 2 ≡ suc (suc (suc (3 * n + 2))) = omega arith in
    let f : s + suc n ≡ suc s + n = omega arith in
    rw (e0, e1, e2, f) (read-links K b C n (suc s) (omega arith))

drop_past : (p q : Entry) (n m : ℕ) → length p ≡ n → drop (n + m) (p ++ q) ≡ drop m q
drop_past [] q n m e = let z : n + m ≡ m = omega arith in rw z refl
drop_past (x ∷ p) q n m e = let z : n + m ≡ suc (length p + m) = omega arith in rw z (drop_past p q (length p) m refl)

read-key : (K : ℕ) (b : Book) → ((s : ℕ) → length (cell K b s).key ≡ K) → (C n s : ℕ) → n < C → take K (drop (K * n) (key_cells K b (up_from C s))) ≡ (cell K b (s + n)).key
unfolding up_from
read-key K b w zero n s h = absurd (omega arith)
read-key K b w (suc C) zero s h =
    let e : s + 0 ≡ s = omega arith in
    rw (e, mul-zero K) (take_at (cell K b s).key (key_cells K b (up_from C (suc s))) K (w s))
read-key K b w (suc C) (suc n) s h =
    let e : K * suc n ≡ K + K * n = mul-suc K n ∙ omega arith in
    let f : s + suc n ≡ suc s + n = omega arith in
    rw (e, f, drop_past (cell K b s).key (key_cells K b (up_from C (suc s))) K (K * n) (w s)) (read-key K b w C n (suc s) (omega arith))

-- every cell has K numbers where every entry has
pub cell_in-size : (K s : ℕ) (u : Tree) (d : Cell) → All (λ e. length e ≡ K) u → length d.key ≡ K → length (cell_in s u d).key ≡ K
unfolding cell_in
cell_in-size K s nil d h k = k
cell_in-size K s (node i l r) d (h, a, b) k = cell_in-by (λ c. length c.key ≡ K) s i l r d (λ e. h) (λ n. cell_in-size K s l (cell_in s r d) a (cell_in-size K s r d b k))

pub cell-size : (K : ℕ) (b : Book) → All (λ e. length e ≡ K) b.tree → (s : ℕ) → length (cell K b s).key ≡ K
unfolding cell
cell-size K b a s = cell_in-size K s b.tree _ a (length-replicate K (pos 0))

-- the memory of a book holds its cells
pub image-cell : (K C : ℕ) (b : Book) → All (λ e. length e ≡ K) b.tree → (s : ℕ) → InPool C s → cell_of K (keys K C b) (links K C b) s ≡ cell K b s
unfolding links keys
image-cell K C b a zero p = absurd (omega arith)
image-cell K C b a (suc n) p =
    let m : n < C = p.1 in
    let r = rw one-add at (read-links K b C n 1 m) in
    let k = rw one-add at (read-key K b (cell-size K b a) C n 1 m) in
    λ i. record { left = r.0 i; right = r.1 i; high = r.2 i; key = k i }

-- a tree that lies in memory is read back from it
pub tree-back : (C m : ℕ) (f : ℕ → Cell) (u : Tree) → height u ≤ m → AllS (InPool C) u → Lies f u → tree_from m f (root_slot u) ≡ u
unfolding tree_from
tree-back C zero f nil h p q = refl
tree-back C zero f (node i l r) h p q = absurd (omega arith)
tree-back C (suc m) f nil h p q = refl
tree-back C (suc m) f (node i l r) h (p, pl, pr) (q, ql, qr) = go i.slot refl (tree-back C m f l (omega arith) pl ql) (tree-back C m f r (omega arith) pr qr)
  where
    go : (s : ℕ) → i.slot ≡ s → tree_from m f (root_slot l) ≡ l → tree_from m f (root_slot r) ≡ r → tree_from (suc m) f s ≡ node i l r
    go zero e a b = absurd (omega arith)
    go (suc n) e a b =
        let c : f (suc n) ≡ record { left = root_slot l; right = root_slot r; high = height (node i l r); key = i.entry } = rw e at q in
        rw (c, a, b) (ap (λ x. node (record { slot = x; entry = i.entry }) l r) (sym e))
