-- Order and balance as statements about every entry, which the definitions' tests decide.
use mathlib.Core.Path.{◌≡◌, refl, ap}
use mathlib.Core.List.{List, [], ◌∷◌}
use mathlib.Core.Bool.{Bool, true, false, ◌&&◌, false≢true}
use Prim.Native.Nat.{ℕ, suc, ◌≤◌, Ordering}
use borrow.Author.Tests.{leb-true, le-leb}
use Rattle.model.specs.Entry.{Entry, cmp}
use Rattle.model.specs.Tree.{Item, Tree, all, balanced, height, is_less, nil, node, ordered}

-- what holds of every entry of a list, of a tree
abbrev pub AllL : (Entry → Type 0) → List Item → Type 0
AllL P [] = Unit {0}
AllL P (i ∷ is) = P i.entry × AllL P is

abbrev pub All : (Entry → Type 0) → Tree → Type 0
All P nil = Unit {0}
All P (node i l r) = P i.entry × All P l × All P r

abbrev pub Less : ℕ → Entry → Entry → Type 0
Less t a b = cmp t a b ≡ Ordering.lt

abbrev pub Ordered : ℕ → Tree → Type 0
Ordered t nil = Unit {0}
Ordered t (node i l r) = All (λ x. Less t x i.entry) l × All (λ x. Less t i.entry x) r × Ordered (suc t) l × Ordered (suc t) r

abbrev pub Even : ℕ → ℕ → Type 0
Even a b = (a ≤ suc b) × (b ≤ suc a)

abbrev pub Balanced : Tree → Type 0
Balanced nil = Unit {0}
Balanced (node i l r) = Even (height l) (height r) × Balanced l × Balanced r

-- a conjunction taken apart and put together
pub both : (a b : Bool) → (a && b) ≡ true → (a ≡ true) × (b ≡ true)
both true b h = (refl, h)
both false b h = absurd (false≢true h)

pub pair : {a b : Bool} → a ≡ true → b ≡ true → (a && b) ≡ true
pair {a} {b} g h = rw (g, h) refl

-- the tests of a tree say what they test
pub is_less-true : (o : Ordering) → is_less o ≡ true → o ≡ Ordering.lt
is_less-true Ordering.lt h = refl
is_less-true Ordering.eq h = absurd (false≢true h)
is_less-true Ordering.gt h = absurd (false≢true h)

all_true : (p : Entry → Bool) (P : Entry → Type 0) → ((x : Entry) → p x ≡ true → P x) → (u : Tree) → all p u ≡ true → All P u
all_true p P f nil h = tt
all_true p P f (node i l r) h =
    let a = both (p i.entry) (all p l && all p r) h in
    let b = both (all p l) (all p r) a.1 in
    (f i.entry a.0, all_true p P f l b.0, all_true p P f r b.1)

true-all : (p : Entry → Bool) (P : Entry → Type 0) → ((x : Entry) → P x → p x ≡ true) → (u : Tree) → All P u → all p u ≡ true
true-all p P f nil h = refl
true-all p P f (node i l r) (h, a, b) = pair (f i.entry h) (pair (true-all p P f l a) (true-all p P f r b))

pub ordered-true : (t : ℕ) (u : Tree) → ordered t u ≡ true → Ordered t u
ordered-true t nil h = tt
ordered-true t (node i l r) h =
    let a = both _ _ h in
    let b = both _ _ a.0 in
    let c = both _ _ a.1 in (
      all_true (λ x. is_less (cmp t x i.entry)) (λ x. Less t x i.entry) (λ x e. is_less-true (cmp t x i.entry) e) l b.0,
      all_true (λ x. is_less (cmp t i.entry x)) (λ x. Less t i.entry x) (λ x e. is_less-true (cmp t i.entry x) e) r b.1,
      ordered-true (suc t) l c.0,
      ordered-true (suc t) r c.1,
    )

pub true-ordered : (t : ℕ) (u : Tree) → Ordered t u → ordered t u ≡ true
true-ordered t nil h = refl
true-ordered t (node i l r) (a, b, c, d) = pair (pair (true-all (λ x. is_less (cmp t x i.entry)) (λ x. Less t x i.entry) (λ x e. ap is_less e) l a) (true-all (λ x. is_less (cmp t i.entry x)) (λ x. Less t i.entry x) (λ x e. ap is_less e) r b)) (pair (true-ordered (suc t) l c) (true-ordered (suc t) r d))

pub balanced-true : (u : Tree) → balanced u ≡ true → Balanced u
balanced-true nil h = tt
balanced-true (node i l r) h =
    let a = both _ _ h in
    let b = both _ _ a.0 in
    let c = both _ _ a.1 in
    ((leb-true _ _ b.0, leb-true _ _ b.1), balanced-true l c.0, balanced-true r c.1)

pub true-balanced : (u : Tree) → Balanced u → balanced u ≡ true
true-balanced nil h = refl
true-balanced (node i l r) ((a, b), c, d) = pair (pair (le-leb _ _ a) (le-leb _ _ b)) (pair (true-balanced l c) (true-balanced r d))

pub all-map_t : (P Q : Entry → Type 0) → ((x : Entry) → P x → Q x) → (u : Tree) → All P u → All Q u
all-map_t P Q f nil h = tt
all-map_t P Q f (node i l r) (h, a, b) = (f i.entry h, all-map_t P Q f l a, all-map_t P Q f r b)

pub all_both : (P Q R : Entry → Type 0) → ((x : Entry) → P x → Q x → R x) → (u : Tree) → All P u → All Q u → All R u
all_both P Q R f nil g h = tt
all_both P Q R f (node i l r) (g, a, b) (h, c, d) = (f i.entry g h, all_both P Q R f l a c, all_both P Q R f r b d)
