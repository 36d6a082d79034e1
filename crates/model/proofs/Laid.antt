-- What a laid tree and a strung chain say of memory: every slot in the pool, none met twice.
use mathlib.Core.Path.{◌≡◌, refl, sym, ap, ◌∙◌}
use mathlib.Core.List.{List, [], ◌∷◌, ◌++◌}
use mathlib.Core.Bool.{true, ◌&&◌, false≢true}
use Prim.Native.Nat.{ℕ, zero, suc, ◌+◌, ◌≤◌, max}
use native.Mathlib.Omega.{arith}
use lib.Dec.{leb, eqb, compare_is_eq}
use lib.ListN.{length, replicate, length-append}
use lib.IntN.{ℤ, pos, negsuc}
use borrow.Author.Tests.{eqb-true, eq-eqb, leb-true, le-leb}
use Rattle.model.specs.Book.{Book, Cell, first, up_from}
use Rattle.model.specs.Number.{order}
use Rattle.model.specs.Pool.{in_pool, laid, strung, tree_from, zeros}
use Rattle.model.specs.Tree.{Item, Tree, height, items, nil, node, root_slot, size, slots_of}
use Rattle.model.proofs.Adds.{ordered-distinct}
use Rattle.model.proofs.Books.{Follows}
use Rattle.model.proofs.Crowd.{InPool, PermS, crowd}
use Rattle.model.proofs.Images.{AllS, Lies}
use Rattle.model.proofs.Lists.{Every, OnceEach, every-join, every_map, once_join}
use Rattle.model.proofs.Ranks.{Distinct, Unlike}
use Rattle.model.proofs.Strikes.{slots, slots-append}
use Rattle.model.proofs.Trees.{AllL, Ordered, both, pair}

-- the parts of a laid entry and of a strung slot
laid-node : (f : ℕ → Cell) (C s : ℕ) (i : Item) (l r : Tree) → laid f C s (node i l r) ≡ true → (s ≡ i.slot) × InPool C s × ((f s).high ≡ height (node i l r)) × (laid f C (f s).left l ≡ true) × (laid f C (f s).right r ≡ true)
laid-node f C s i l r h =
    let a = both (eqb s i.slot && in_pool C s) (eqb (f s).high (height (node i l r)) && (laid f C (f s).left l && laid f C (f s).right r)) h in
    let b = both (eqb s i.slot) (in_pool C s) a.0 in
    let c = both (leb 1 s) (leb s C) b.1 in
    let d = both (eqb (f s).high (height (node i l r))) (laid f C (f s).left l && laid f C (f s).right r) a.1 in
    let e = both (laid f C (f s).left l) (laid f C (f s).right r) d.1 in
    (eqb-true s i.slot b.0, (leb-true 1 s c.0, leb-true s C c.1), eqb-true (f s).high (height (node i l r)) d.0, e.0, e.1)

-- what is read from a slot on, if it is laid so, lies there
pub laid-lies : (C m : ℕ) (f : ℕ → Cell) (s : ℕ) → laid f C s (tree_from m f s) ≡ true → (root_slot (tree_from m f s) ≡ s) × AllS (InPool C) (tree_from m f s) × Lies f (tree_from m f s)
unfolding tree_from
laid-lies C zero f s h = (sym (eqb-true s 0 h), tt, tt)
laid-lies C (suc m) f zero h = (refl, tt, tt)
laid-lies C (suc m) f (suc n) h =
    let a = laid-node f C (suc n) (record { slot = suc n; entry = (f (suc n)).key }) (tree_from m f (f (suc n)).left) (tree_from m f (f (suc n)).right) h in
    let x = laid-lies C m f (f (suc n)).left a.3 in
    let y = laid-lies C m f (f (suc n)).right a.4 in (
      refl,
      (a.1, x.1, y.1),
      ((λ i. record { left = sym x.0 i; right = sym y.0 i; high = a.2 i; key = (f (suc n)).key }), x.2, y.2),
    )

pub lies-laid : (f : ℕ → Cell) (C s : ℕ) (u : Tree) → root_slot u ≡ s → AllS (InPool C) u → Lies f u → laid f C s u ≡ true
lies-laid f C s nil e p q = eq-eqb s 0 (sym e)
lies-laid f C s (node i l r) e (p, pl, pr) (q, ql, qr) =
    rw (← e) (pair (pair (eq-eqb i.slot i.slot refl) (pair (le-leb _ _ p.0) (le-leb _ _ p.1))) (pair (eq-eqb _ _ (ap (λ c. c.high) q)) (pair (lies-laid f C (f i.slot).left l (sym (ap (λ c. c.left) q)) pl ql) (lies-laid f C (f i.slot).right r (sym (ap (λ c. c.right) q)) pr qr))))

-- the chain likewise
abbrev pub Blank : ℕ → (ℕ → Cell) → ℕ → Type 0
Blank K f s = ((f s).right ≡ 0) × ((f s).high ≡ 0) × ((f s).key ≡ replicate K (pos 0))

zero_of : (x : ℤ) → compare_is_eq (order x (pos 0)) ≡ true → x ≡ pos 0
zero_of (pos a) h = ap pos (eqb-true a 0 h)
zero_of (negsuc a) h = absurd (false≢true h)

zeros-true : (K : ℕ) (xs : List ℤ) → length xs ≡ K → zeros xs ≡ true → xs ≡ replicate K (pos 0)
zeros-true zero [] e h = refl
zeros-true zero (x ∷ xs) e h = absurd (omega arith)
zeros-true (suc K) [] e h = absurd (omega arith)
zeros-true (suc K) (x ∷ xs) e h =
    let a = both (compare_is_eq (order x (pos 0))) (zeros xs) h in
    rw (zero_of x a.0, zeros-true K xs (omega arith) a.1) refl

true-zeros : (K : ℕ) → zeros (replicate K (pos 0)) ≡ true
true-zeros zero = refl
true-zeros (suc K) = true-zeros K

strung-cons : (f : ℕ → Cell) (C s c : ℕ) (cs : List ℕ) → strung f C s (c ∷ cs) ≡ true → (s ≡ c) × InPool C s × ((f s).right ≡ 0) × ((f s).high ≡ 0) × (zeros (f s).key ≡ true) × (strung f C (f s).left cs ≡ true)
strung-cons f C s c cs h =
    let a = both (eqb s c && in_pool C s) ((eqb (f s).right 0 && (eqb (f s).high 0 && zeros (f s).key)) && strung f C (f s).left cs) h in
    let b = both (eqb s c) (in_pool C s) a.0 in
    let d = both (leb 1 s) (leb s C) b.1 in
    let e = both (eqb (f s).right 0 && (eqb (f s).high 0 && zeros (f s).key)) (strung f C (f s).left cs) a.1 in
    let g = both (eqb (f s).right 0) (eqb (f s).high 0 && zeros (f s).key) e.0 in
    let k = both (eqb (f s).high 0) (zeros (f s).key) g.1 in
    (eqb-true s c b.0, (leb-true 1 s d.0, leb-true s C d.1), eqb-true (f s).right 0 g.0, eqb-true (f s).high 0 k.0, k.1, e.1)

pub strung-follows : (K : ℕ) (f : ℕ → Cell) (C : ℕ) → ((s : ℕ) → InPool C s → length (f s).key ≡ K) → (s : ℕ) (cs : List ℕ) → strung f C s cs ≡ true → (first cs ≡ s) × Every (InPool C) cs × Follows (λ c. (f c).left) cs × Every (Blank K f) cs
strung-follows K f C w s [] h = (sym (eqb-true s 0 h), tt, tt, tt)
strung-follows K f C w s (c ∷ cs) h =
    let a = strung-cons f C s c cs h in
    let x = strung-follows K f C w (f s).left cs a.5 in
    (sym a.0, rw (← a.0) (a.1, x.1), rw (← a.0) (sym x.0, x.2), rw (← a.0) ((a.2, a.3, zeros-true K (f s).key (w s a.1) a.4), x.3))

pub follows-strung : (K : ℕ) (f : ℕ → Cell) (C s : ℕ) (cs : List ℕ) → first cs ≡ s → Every (InPool C) cs → Follows (λ c. (f c).left) cs → Every (Blank K f) cs → strung f C s cs ≡ true
follows-strung K f C s [] e p q b = eq-eqb s 0 (sym e)
follows-strung K f C s (c ∷ cs) e (p, ps) (q, qs) ((b, d, g), bs) =
    rw (← e) (pair (pair (eq-eqb c c refl) (pair (le-leb 1 c p.0) (le-leb c C p.1))) (pair (pair (eq-eqb (f c).right 0 b) (pair (eq-eqb (f c).high 0 d) (rw g (true-zeros K)))) (follows-strung K f C (f c).left cs (sym q) ps qs bs)))

-- a chain that ends has no slot twice
abbrev pub Ends : (ℕ → ℕ) → ℕ → ℕ → Type 0
Ends g zero s = s ≡ 0
Ends g (suc m) s = (1 ≤ s) × Ends g m (g s)

ends-one : (g : ℕ → ℕ) (a b s : ℕ) → Ends g a s → Ends g b s → a ≡ b
ends-one g zero zero s h k = refl
ends-one g zero (suc b) s h (k, ks) = absurd (omega arith)
ends-one g (suc a) zero s (h, hs) k = absurd (omega arith)
ends-one g (suc a) (suc b) s (h, hs) (k, ks) = ap suc (ends-one g a b (g s) hs ks)

ends_of : (C : ℕ) (g : ℕ → ℕ) (cs : List ℕ) → Every (InPool C) cs → Follows g cs → Ends g (length cs) (first cs)
ends_of C g [] p h = refl
ends_of C g (c ∷ cs) (p, ps) (h, hs) = (p.0, rw h (ends_of C g cs ps hs))

ends-each : (C : ℕ) (g : ℕ → ℕ) (cs : List ℕ) → Every (InPool C) cs → Follows g cs → Every (λ x. (m : ℕ) × (m ≤ length cs) × Ends g m x) cs
ends-each C g [] p h = tt
ends-each C g (c ∷ cs) (p, ps) (h, hs) = ((suc (length cs), omega arith, ends_of C g (c ∷ cs) (p, ps) (h, hs)), every_map (λ x. (m : ℕ) × (m ≤ length cs) × Ends g m x) (λ x. (m : ℕ) × (m ≤ suc (length cs)) × Ends g m x) (λ x e. (e.0, omega arith, e.2)) cs (ends-each C g cs ps hs))

pub chain-once : (C : ℕ) (g : ℕ → ℕ) (cs : List ℕ) → Every (InPool C) cs → Follows g cs → OnceEach cs
chain-once C g [] p h = tt
chain-once C g (c ∷ cs) (p, ps) (h, hs) = (every_map (λ x. (m : ℕ) × (m ≤ length cs) × Ends g m x) (λ x. ¬ (c ≡ x)) (λ x e q. clash x e.0 e.1 e.2 q) cs (ends-each C g cs ps hs), chain-once C g cs ps hs)
  where
    clash : (x m : ℕ) → m ≤ length cs → Ends g m x → c ≡ x → ⊥
    clash x m n e q =
        let z : m ≡ suc (length cs) = ends-one g m (suc (length cs)) c (rw q e) (ends_of C g (c ∷ cs) (p, ps) (h, hs)) in
        omega arith

-- a tree that lies in memory and has order has no slot twice
abbrev pub Kept : (ℕ → Cell) → Item → Type 0
Kept f i = (i.entry ≡ (f i.slot).key) × (1 ≤ (f i.slot).high)

lies-each : (f : ℕ → Cell) (u : Tree) → Lies f u → Every (Kept f) (items u)
lies-each f nil h = tt
lies-each f (node i l r) (q, ql, qr) =
    let e : (f i.slot).high ≡ suc (max (height l) (height r)) = ap (λ c. c.high) q in
    every-join (Kept f) (items l) (i ∷ items r) (lies-each f l ql) ((sym (ap (λ c. c.key) q), omega arith), lies-each f r qr)

apart : (f : ℕ → Cell) (i : Item) (js : List Item) → i.entry ≡ (f i.slot).key → Every (Kept f) js → AllL (Unlike i.entry) js → Every (λ y. ¬ (i.slot ≡ y)) (slots_of js)
apart f i [] k h u = tt
apart f i (j ∷ js) k (h, hs) (u, us) = ((λ e. u (k ∙ ap (λ s. (f s).key) e ∙ sym h.0)), apart f i js k hs us)

once-slots : (f : ℕ → Cell) (is : List Item) → Every (Kept f) is → Distinct is → OnceEach (slots_of is)
once-slots f [] h d = tt
once-slots f (i ∷ is) (h, hs) (d, ds) = (apart f i is h.0 hs d, once-slots f is hs ds)

slots-high : (f : ℕ → Cell) (is : List Item) → Every (Kept f) is → Every (λ s. 1 ≤ (f s).high) (slots_of is)
slots-high f [] h = tt
slots-high f (i ∷ is) (h, hs) = (h.1, slots-high f is hs)

pub slots-of : (P : ℕ → Type 0) (u : Tree) → AllS P u → Every P (slots u)
slots-of P nil h = tt
slots-of P (node i l r) (h, a, b) = rw (slots-append (items l) (i ∷ items r)) (every-join P (slots l) (i.slot ∷ slots r) (slots-of P l a) (h, slots-of P r b))

pub slots_length : (u : Tree) → length (slots u) ≡ size u
slots_length nil = refl
slots_length (node i l r) =
    let a : length (slots l) ≡ size l = slots_length l in
    let b : length (slots r) ≡ size r = slots_length r in
    rw (slots-append (items l) (i ∷ items r), length-append (slots l) (i.slot ∷ slots r)) (omega arith)

pub pool-of : (K C : ℕ) (f : ℕ → Cell) (b : Book) → Ordered 0 b.tree → AllS (InPool C) b.tree → Lies f b.tree → Every (InPool C) b.chain → Follows (λ c. (f c).left) b.chain → Every (Blank K f) b.chain → size b.tree + length b.chain ≡ C → PermS (slots b.tree ++ b.chain) (up_from C 1)
pool-of K C f b o p q cp cq cb n =
    let k = lies-each f b.tree q in
    let m : length (slots b.tree ++ b.chain) ≡ length (slots b.tree) + length b.chain = length-append (slots b.tree) b.chain in
    let z : length (slots b.tree) ≡ size b.tree = slots_length b.tree in
    crowd C (slots b.tree ++ b.chain)
    (once_join (slots b.tree) b.chain (once-slots f (items b.tree) k (ordered-distinct 0 b.tree o)) (chain-once C (λ c. (f c).left) b.chain cp cq)
    (every_map (λ s. 1 ≤ (f s).high) (λ x. Every (λ y. ¬ (x ≡ y)) b.chain) (λ x h. every_map (Blank K f) (λ y. ¬ (x ≡ y)) (λ y g e. clash x y h g.1 e) b.chain cb) (slots b.tree) (slots-high f (items b.tree) k)))
    (every-join (InPool C) (slots b.tree) b.chain (slots-of (InPool C) b.tree p) cp)
    (omega arith)
  where
    clash : (x y : ℕ) → 1 ≤ (f x).high → (f y).high ≡ 0 → x ≡ y → ⊥
    clash x y h g e = let z : (f x).high ≡ (f y).high = ap (λ s. (f s).high) e in omega arith
