-- The two sides of an entry, in one: the order towards it, its replacement from a side, a node with one side changed.
use mathlib.Core.Path.{◌≡◌, refl, sym, ap, ◌∙◌}
use mathlib.Core.List.{List, [], ◌∷◌, ◌++◌}
use mathlib.Core.Bool.{Bool, true, false}
use Prim.Native.Nat.{ℕ, suc, ◌≤◌, Ordering}
use native.Mathlib.Omega.{arith}
use lib.Dec.{ltb}
use borrow.Author.Tests.{ltb-true, ltb-false}
use Rattle.model.specs.Add.{mend}
use Rattle.model.specs.Entry.{Entry}
use Rattle.model.specs.Strike.{Heir, Side, from, heir, heir_of, leaf, left, nearer, next, right, toward}
use Rattle.model.specs.Tree.{Item, Tree, height, items, nil, node}
use Rattle.model.proofs.Adds.{less-unlike, mend-balanced, mend-ordered}
use Rattle.model.proofs.Orders.{cmp-eq, cmp-flip, cmp-trans, flip}
use Rattle.model.proofs.Ranks.{Unlike, all_append, all-items, all_split, items-all}
use Rattle.model.proofs.Trees.{All, AllL, Balanced, Less, Ordered, all-map_t}

abbrev pub other : Side → Side
other left = right
other right = left

abbrev pub side_of : Side → Tree → Tree → Tree
side_of left l r = l
side_of right l r = r

pub on_both : (P : Tree → Type 0) (s : Side) (l r : Tree) → P l → P r → P (side_of s l r)
on_both P left l r a b = a
on_both P right l r a b = b

-- a comes before b on the way towards the cut from side s; a is not past b
abbrev pub Before : Side → ℕ → Entry → Entry → Type 0
Before s t a b = toward s t a b ≡ Ordering.lt

abbrev pub NotPast : Side → ℕ → Entry → Entry → Type 0
NotPast s t a b = ¬ (Before s t b a)

-- it orders the entries as the super key does
pub toward-flip : (s : Side) (t : ℕ) (a b : Entry) → toward s t b a ≡ flip (toward s t a b)
toward-flip left t a b = cmp-flip t a b
toward-flip right t a b = cmp-flip t b a

pub toward-eq : (s : Side) (t : ℕ) (a b : Entry) → toward s t a b ≡ Ordering.eq → a ≡ b
toward-eq left t a b e = cmp-eq t a b e
toward-eq right t a b e = sym (cmp-eq t b a e)

pub before-trans : (s : Side) (t : ℕ) (a b c : Entry) → Before s t a b → Before s t b c → Before s t a c
before-trans left t a b c p q = cmp-trans t a b c p q
before-trans right t a b c p q = cmp-trans t c b a q p

pub before-unlike : (s : Side) (t : ℕ) (a b : Entry) → Before s t a b → Unlike a b
before-unlike left t a b h e = less-unlike t a b h e
before-unlike right t a b h e = less-unlike t b a h (sym e)

pub before-turn : (s : Side) (t : ℕ) (a b : Entry) → Before s t a b → Before (other s) t b a
before-turn left t a b h = h
before-turn right t a b h = h

pub gt-before : (s : Side) (t : ℕ) (a b : Entry) → toward s t a b ≡ Ordering.gt → Before s t b a
gt-before s t a b e = toward-flip s t a b ∙ ap flip e

-- a question about two entries, from its three answers
pub toward-by : {X : Type 0} (s : Side) (t : ℕ) (a b : Entry) → (Before s t a b → X) → (a ≡ b → X) → (Before s t b a → X) → X
toward-by {X} s t a b x y z = go (toward s t a b) refl
  where
    go : (o : Ordering) → toward s t a b ≡ o → X
    go Ordering.lt e = x e
    go Ordering.eq e = y (toward-eq s t a b e)
    go Ordering.gt e = z (gt-before s t a b e)

pub not_past-trans : (s : Side) (t : ℕ) (a b c : Entry) → NotPast s t a b → NotPast s t b c → NotPast s t a c
not_past-trans s t a b c p q k = toward-by s t a b (λ e. q (before-trans s t c a b k e)) (λ e. q (rw e at k)) p

pub not_past-refl : (s : Side) (t : ℕ) (a : Entry) → NotPast s t a a
not_past-refl s t a h = before-unlike s t a a h refl

pub before-not_past : (s : Side) (t : ℕ) (a b : Entry) → Before s t a b → NotPast s t a b
before-not_past s t a b h k = before-unlike s t a a (before-trans s t a b a h k) refl

pub not_past-before : (s : Side) (t : ℕ) (a b : Entry) → Unlike a b → NotPast s t a b → Before s t a b
not_past-before s t a b u h = toward-by s t a b (λ e. e) (λ e. absurd (u e)) (λ e. absurd (h e))

-- the replacement from a side is one of the items, and none is past it
nearer-by : (P : Item → Type 0) (s : Side) (t : ℕ) (a b : Item) → (Before s t a.entry b.entry → P b) → (NotPast s t b.entry a.entry → P a) → P (nearer s t a b)
nearer-by P s t a b x y = go (toward s t a.entry b.entry) refl
  where
    go : (o : Ordering) → toward s t a.entry b.entry ≡ o → P (nearer s t a b)
    go Ordering.lt e = rw (e, nearer) (x e)
    go Ordering.eq e = rw (e, nearer) (y (rw (toward-eq s t a.entry b.entry e) (not_past-refl s t b.entry)))
    go Ordering.gt e = rw (e, nearer) (y (before-not_past s t b.entry a.entry (gt-before s t a.entry b.entry e)))

next-all : (P : Entry → Type 0) (s : Side) (t : ℕ) (a : Item) (is : List Item) → P a.entry → AllL P is → P (next s t a is).entry
next-all P s t a [] h hs = h
next-all P s t a (i ∷ is) h (k, hs) = next-all P s t (nearer s t a i) is (nearer-by (λ x. P x.entry) s t a i (λ e. k) (λ e. h)) hs

next-from : (s : Side) (t : ℕ) (x : Entry) (a : Item) (is : List Item) → NotPast s t x a.entry → NotPast s t x (next s t a is).entry
next-from s t x a [] h = h
next-from s t x a (i ∷ is) h =
    next-from s t x (nearer s t a i) is
    (nearer-by (λ g. NotPast s t x g.entry) s t a i (λ e. not_past-trans s t x a.entry i.entry h (before-not_past s t a.entry i.entry e)) (λ e. h))

next_last : (s : Side) (t : ℕ) (a : Item) (is : List Item) → AllL (λ x. NotPast s t x (next s t a is).entry) is
next_last s t a [] = tt
next_last s t a (i ∷ is) =
    (next-from s t i.entry (nearer s t a i) is (nearer-by (λ g. NotPast s t i.entry g.entry) s t a i (λ e. not_past-refl s t i.entry) (λ e. e)), next_last s t (nearer s t a i) is)

-- an entry is there: not every entry differs from it
abbrev pub There : Entry → Tree → Type 0
There k u = ¬ (All (Unlike k) u)

-- the heir: of a leaf none, else the last on one of the sides
pub heir-by : (P : Heir → Type 0) (t : ℕ) (l r : Tree) → (l ≡ nil → r ≡ nil → P leaf) → ((s : Side) (e : Entry) → There e (side_of s l r) → All (λ x. NotPast s t x e) (side_of s l r) → P (from s e)) → P (heir t l r)
unfolding heir
heir-by P t l r x y = go (ltb (height r) (height l)) refl
  where
    in_side : (s : Side) (u : Tree) → (u ≡ nil → P leaf) → ((e : Entry) → There e u → All (λ x. NotPast s t x e) u → P (from s e)) → P (heir_of s t u)
    in_side s nil h k = h refl
    in_side s (node a b c) h k =
        let bs : List Item = items b ++ items c in
        let e : Entry = (next s t a bs).entry in
        let m = all_split (λ x. NotPast s t x e) (items b) (items c) (next_last s t a bs) in
        k e (λ w. next-all (Unlike e) s t a bs w.0 (all_append (Unlike e) (items b) (items c) (all-items (Unlike e) b w.1) (all-items (Unlike e) c w.2)) refl)
        (next-from s t a.entry a bs (not_past-refl s t a.entry), items-all (λ x. NotPast s t x e) b m.0, items-all (λ x. NotPast s t x e) c m.1)

    empty : (u : Tree) → height u ≤ 0 → u ≡ nil
    empty nil h = refl
    empty (node a b c) h = absurd (omega arith)

    go : (o : Bool) → ltb (height r) (height l) ≡ o → P (heir t l r)
    go true e = rw (e, heir) (in_side left l (λ q. absurd (omega (arith, ltb-true (height r) (height l) e, ap height q))) (y left))
    go false e = rw (e, heir) (in_side right r (λ q. x (empty l (omega (arith, ltb-false (height r) (height l) e, ap height q))) q) (y right))

-- whatever is there and has nothing past it is the replacement
pub last_one : (s : Side) (t : ℕ) (e g : Entry) (u : Tree) → There e u → All (λ x. NotPast s t x e) u → There g u → All (λ x. NotPast s t x g) u → e ≡ g
last_one s t e g u pe ae pg ag = toward-by s t e g (λ c. absurd (up g e pg ae c)) (λ c. c) (λ c. absurd (up e g pe ag c))
  where
    up : (a b : Entry) → There a u → All (λ x. NotPast s t x b) u → ¬ (Before s t b a)
    up a b pa ab h = pa (all-map_t (λ x. NotPast s t x b) (Unlike a) (λ x k z. k (rw z at h)) u ab)

-- a node, checked, with the tree on one side changed
abbrev pub on_side : Side → ℕ → Item → Tree → Tree → Tree → Tree
on_side left t j l r u = mend t j u r
on_side right t j l r u = mend t j l u

pub side-balanced : (s : Side) (t : ℕ) (j : Item) (l r u : Tree) → Balanced u → Balanced (side_of (other s) l r) → Balanced (on_side s t j l r u)
side-balanced left t j l r u a b = mend-balanced t j u r a b
side-balanced right t j l r u a b = mend-balanced t j l u b a

pub ordered-side : (s : Side) (t : ℕ) (i : Item) (l r : Tree) → Ordered t (node i l r) → All (λ x. Before s t x i.entry) (side_of s l r) × Ordered (suc t) (side_of s l r)
ordered-side left t i l r (a, b, p, q) = (a, p)
ordered-side right t i l r (a, b, p, q) = (b, q)

pub side-ordered : (s : Side) (t : ℕ) (j : Item) (l r u : Tree) → All (λ x. Before s t x j.entry) u → Ordered (suc t) u → All (λ x. Before (other s) t x j.entry) (side_of (other s) l r) → Ordered (suc t) (side_of (other s) l r) → Ordered t (on_side s t j l r u)
side-ordered left t j l r u a p b q = mend-ordered t j u r (a, b, p, q)
side-ordered right t j l r u a p b q = mend-ordered t j l u (b, a, q, p)

-- an entry is on the side that the walk takes
pub there-side : (s : Side) (t : ℕ) (k : Entry) (i : Item) (l r : Tree) → Ordered t (node i l r) → There k (node i l r) → Before s t k i.entry → There k (side_of s l r)
there-side left t k i l r (a, b, p, q) h c w = h (before-unlike left t k i.entry c, w, all-map_t (Less t i.entry) (Unlike k) (λ x g. less-unlike t k x (cmp-trans t k i.entry x c g)) r b)
there-side right t k i l r (a, b, p, q) h c w = h (before-unlike right t k i.entry c, all-map_t (λ x. Less t x i.entry) (Unlike k) (λ x g z. less-unlike t x k (cmp-trans t x i.entry k g c) (sym z)) l a, w)
