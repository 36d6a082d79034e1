-- The last item of a tree on the way towards an entry: the one that every other comes before. It is what the fold over the items gives.
use mathlib.Core.Path.{◌≡◌, refl, sym, ap, ◌∙◌}
use mathlib.Core.Logic.{◌⊎◌, inl, inr, ⊎_elim}
use mathlib.Core.List.{List, [], ◌∷◌, ◌++◌}
use Prim.Native.Nat.{ℕ, Ordering}
use Rattle.model.specs.Entry.{Entry}
use Rattle.model.specs.Strike.{Side, left, right, nearer, next, toward}
use Rattle.model.specs.Tree.{Item, Tree, nil, node, items}
use Rattle.model.proofs.Adds.{ordered-distinct}
use Rattle.model.proofs.Orders.{flip}
use Rattle.model.proofs.Ranks.{Distinct, Unlike}
use Rattle.model.proofs.Sides.{Before, before-trans, gt-before, ordered-side, other, side_of, toward-eq, toward-flip}
use Rattle.model.proofs.Trees.{All, AllL, Ordered}

abbrev pub Has : Item → List Item → Type 0
Has y [] = ⊥
Has y (x ∷ xs) = (y ≡ x) ⊎ Has y xs

abbrev pub Of : Item → Tree → Type 0
Of y nil = ⊥
Of y (node i l r) = (y ≡ i) ⊎ (Of y l ⊎ Of y r)

-- y is x or comes before it
abbrev pub UpTo : Side → ℕ → Item → Item → Type 0
UpTo s t x y = (y ≡ x) ⊎ Before s t y.entry x.entry

-- x is one of those with P, and the others come before it
pub record Last (s : Side) (t : ℕ) (x : Item) (P : Item → Type 0) : Type 0 where
  pub there : P x
  pub rest : (y : Item) → P y → UpTo s t x y

abbrev pub LastOf : Side → ℕ → Item → Tree → Type 0
LastOf s t x u = Last s t x (λ y. Of y u)

pub up_to-trans : (s : Side) (t : ℕ) (x y z : Item) → UpTo s t x y → UpTo s t y z → UpTo s t x z
up_to-trans s t x y z (inl e) (inl f) = inl (f ∙ e)
up_to-trans s t x y z (inl e) (inr g) = inr (rw e at g)
up_to-trans s t x y z (inr h) (inl f) = inr (rw f h)
up_to-trans s t x y z (inr h) (inr g) = inr (before-trans s t z.entry y.entry x.entry g h)

-- the further of two items: one of them, and the last of them
pub nearer-one : (P : Item → Type 0) (s : Side) (t : ℕ) (a b : Item) → P a → P b → P (nearer s t a b)
nearer-one P s t a b x y = go (toward s t a.entry b.entry) refl
  where
    go : (o : Ordering) → toward s t a.entry b.entry ≡ o → P (nearer s t a b)
    go Ordering.lt e = rw (e, nearer) y
    go Ordering.eq e = rw (e, nearer) x
    go Ordering.gt e = rw (e, nearer) x

pub nearer-past : (s : Side) (t : ℕ) (a b : Item) → UpTo s t (nearer s t a b) a
nearer-past s t a b = go (toward s t a.entry b.entry) refl
  where
    go : (o : Ordering) → toward s t a.entry b.entry ≡ o → UpTo s t (nearer s t a b) a
    go Ordering.lt e = rw (e, nearer) (inr e)
    go Ordering.eq e = rw (e, nearer) (inl refl)
    go Ordering.gt e = rw (e, nearer) (inl refl)

pub past-nearer : (s : Side) (t : ℕ) (a b : Item) → (a.entry ≡ b.entry → a ≡ b) → UpTo s t (nearer s t a b) b
past-nearer s t a b same = go (toward s t a.entry b.entry) refl
  where
    go : (o : Ordering) → toward s t a.entry b.entry ≡ o → UpTo s t (nearer s t a b) b
    go Ordering.lt e = rw (e, nearer) (inl refl)
    go Ordering.eq e = rw (e, nearer) (inl (sym (same (toward-eq s t a.entry b.entry e))))
    go Ordering.gt e = rw (e, nearer) (inr (gt-before s t a.entry b.entry e))

pub nearer-first : (s : Side) (t : ℕ) (a b : Item) → UpTo s t a b → nearer s t a b ≡ a
nearer-first s t a b (inl e) = nearer-one (λ z. z ≡ a) s t a b refl e
nearer-first s t a b (inr h) = rw (toward-flip s t b.entry a.entry ∙ ap flip h, nearer) refl

pub nearer-second : (s : Side) (t : ℕ) (a b : Item) → UpTo s t b a → nearer s t a b ≡ b
nearer-second s t a b (inl e) = nearer-one (λ z. z ≡ b) s t a b e refl
nearer-second s t a b (inr h) = rw (h, nearer) refl

-- an item that is one of a list, up to which all the others go, is what the fold gives
pub last-next : (s : Side) (t : ℕ) (x a : Item) (is : List Item) → Has x (a ∷ is) → ((y : Item) → Has y (a ∷ is) → UpTo s t x y) → x ≡ next s t a is
last-next s t x a [] (inl e) up = e
last-next s t x a [] (inr h) up = absurd h
last-next s t x a (i ∷ is) h up = last-next s t x (nearer s t a i) is (has h) ups
  where
    has : Has x (a ∷ i ∷ is) → Has x (nearer s t a i ∷ is)
    has (inl e) = inl (e ∙ sym (nearer-first s t a i (rw e at (up i (inr (inl refl))))))
    has (inr (inl e)) = inl (e ∙ sym (nearer-second s t a i (rw e at (up a (inl refl)))))
    has (inr (inr g)) = inr g

    ups : (y : Item) → Has y (nearer s t a i ∷ is) → UpTo s t x y
    ups y (inl e) = nearer-one (λ z. y ≡ z → UpTo s t x y) s t a i (λ f. up y (inl f)) (λ f. up y (inr (inl f))) e
    ups y (inr g) = up y (inr (inr g))

-- the fold gives one of the list, and all the others come before it where no entry is there twice
pub next-has : (s : Side) (t : ℕ) (a : Item) (is : List Item) → Has (next s t a is) (a ∷ is)
next-has s t a [] = inl refl
next-has s t a (i ∷ is) =
    ⊎_elim
    (λ e. nearer-one (λ z. next s t (nearer s t a i) is ≡ z → Has (next s t (nearer s t a i) is) (a ∷ i ∷ is)) s t a i (λ f. inl f) (λ f. inr (inl f)) e)
    (λ h. inr (inr h))
    (next-has s t (nearer s t a i) is)

abbrev Apart : List Item → Type 0
Apart is = (y z : Item) → Has y is → Has z is → y.entry ≡ z.entry → y ≡ z

next_up : (s : Side) (t : ℕ) (a : Item) (is : List Item) → Apart (a ∷ is) → (y : Item) → Has y (a ∷ is) → UpTo s t (next s t a is) y
next_up s t a [] apart y (inl e) = inl e
next_up s t a [] apart y (inr h) = absurd h
next_up s t a (i ∷ is) apart y h = go (next_up s t g is among) h
  where
    g : Item
    g = nearer s t a i

    in_all : (z : Item) → Has z (g ∷ is) → Has z (a ∷ i ∷ is)
    in_all z (inl e) = nearer-one (λ w. z ≡ w → Has z (a ∷ i ∷ is)) s t a i (λ f. inl f) (λ f. inr (inl f)) e
    in_all z (inr k) = inr (inr k)

    among : Apart (g ∷ is)
    among y z p q e = apart y z (in_all y p) (in_all z q) e

    go : ((z : Item) → Has z (g ∷ is) → UpTo s t (next s t g is) z) → Has y (a ∷ i ∷ is) → UpTo s t (next s t g is) y
    go ih (inl e) = rw e (up_to-trans s t (next s t g is) g a (ih g (inl refl)) (nearer-past s t a i))
    go ih (inr (inl e)) = rw e (up_to-trans s t (next s t g is) g i (ih g (inl refl)) (past-nearer s t a i (apart a i (inl refl) (inr (inl refl)))))
    go ih (inr (inr k)) = ih y (inr k)

-- from the list of a tree to the tree and back
has_left : (y : Item) (a b : List Item) → Has y a → Has y (a ++ b)
has_left y [] b h = elim h [ ]
has_left y (x ∷ a) b (inl e) = inl e
has_left y (x ∷ a) b (inr h) = inr (has_left y a b h)

has_right : (y : Item) (a b : List Item) → Has y b → Has y (a ++ b)
has_right y [] b h = h
has_right y (x ∷ a) b h = inr (has_right y a b h)

has-cases : (y : Item) (a b : List Item) → Has y (a ++ b) → Has y a ⊎ Has y b
has-cases y [] b h = inr h
has-cases y (x ∷ a) b (inl e) = inl (inl e)
has-cases y (x ∷ a) b (inr h) = ⊎_elim (λ i. inl (inr i)) (λ i. inr i) (has-cases y a b h)

of-has : (y : Item) (u : Tree) → Of y u → Has y (items u)
of-has y nil h = elim h [ ]
of-has y (node i l r) (inl e) = has_right y (items l) (i ∷ items r) (inl e)
of-has y (node i l r) (inr (inl h)) = has_left y (items l) (i ∷ items r) (of-has y l h)
of-has y (node i l r) (inr (inr h)) = has_right y (items l) (i ∷ items r) (inr (of-has y r h))

has_of : (y : Item) (u : Tree) → Has y (items u) → Of y u
has_of y nil h = elim h [ ]
has_of y (node i l r) h = ⊎_elim (λ k. inr (inl (has_of y l k))) (λ k. ⊎_elim (λ e. inl e) (λ g. inr (inr (has_of y r g))) k) (has-cases y (items l) (i ∷ items r) h)

of-root : (y i : Item) (l r : Tree) → Of y (node i l r) → Has y (i ∷ (items l ++ items r))
of-root y i l r (inl e) = inl e
of-root y i l r (inr (inl h)) = inr (has_left y (items l) (items r) (of-has y l h))
of-root y i l r (inr (inr h)) = inr (has_right y (items l) (items r) (of-has y r h))

root-of : (y i : Item) (l r : Tree) → Has y (i ∷ (items l ++ items r)) → Of y (node i l r)
root-of y i l r (inl e) = inl e
root-of y i l r (inr h) = inr (⊎_elim (λ k. inl (has_of y l k)) (λ k. inr (has_of y r k)) (has-cases y (items l) (items r) h))

pub of-all : (P : Entry → Type 0) (y : Item) (u : Tree) → All P u → Of y u → P y.entry
of-all P y nil _ h = elim h [ ]
of-all P y (node i l r) (h, a, b) (inl e) = rw e h
of-all P y (node i l r) (h, a, b) (inr (inl k)) = of-all P y l a k
of-all P y (node i l r) (h, a, b) (inr (inr k)) = of-all P y r b k

has_all : (P : Entry → Type 0) (y : Item) (is : List Item) → AllL P is → Has y is → P y.entry
has_all P y [] _ h = elim h [ ]
has_all P y (x ∷ xs) (h, hs) (inl e) = rw e h
has_all P y (x ∷ xs) (h, hs) (inr k) = has_all P y xs hs k

distinct_apart : (is : List Item) → Distinct is → Apart is
distinct_apart [] _ y z h _ q = elim h [ ]
distinct_apart (x ∷ xs) (h, hs) y z (inl e) (inl f) q = e ∙ sym f
distinct_apart (x ∷ xs) (h, hs) y z (inl e) (inr g) q = absurd (has_all (Unlike x.entry) z xs h g (ap (λ (w : Item). w.entry) (sym e) ∙ q))
distinct_apart (x ∷ xs) (h, hs) y z (inr g) (inl f) q = absurd (has_all (Unlike x.entry) y xs h g (ap (λ (w : Item). w.entry) (sym f) ∙ sym q))
distinct_apart (x ∷ xs) (h, hs) y z (inr g) (inr k) q = distinct_apart xs hs y z g k q

pub ordered-apart : (d : ℕ) (u : Tree) → Ordered d u → (y z : Item) → Of y u → Of z u → y.entry ≡ z.entry → y ≡ z
ordered-apart d u o y z a b = distinct_apart (items u) (ordered-distinct d u o) y z (of-has y u a) (of-has z u b)

-- of a tree in order, whatever its own depth is
pub next_of : (s : Side) (t : ℕ) (i : Item) (l r : Tree) → Of (next s t i (items l ++ items r)) (node i l r)
next_of s t i l r = root-of (next s t i (items l ++ items r)) i l r (next-has s t i (items l ++ items r))

pub next-is-last : (s : Side) (t d : ℕ) (i : Item) (l r : Tree) → Ordered d (node i l r) → LastOf s t (next s t i (items l ++ items r)) (node i l r)
next-is-last s t d i l r o = record {
  there = next_of s t i l r;
  rest = λ y h. next_up s t i (items l ++ items r) (λ v w a b. ordered-apart d (node i l r) o v w (root-of v i l r a) (root-of w i l r b)) y (of-root y i l r h);
}

pub last-is-next : (s : Side) (t : ℕ) (x i : Item) (l r : Tree) → LastOf s t x (node i l r) → x ≡ next s t i (items l ++ items r)
last-is-next s t x i l r h = last-next s t x i (items l ++ items r) (of-root x i l r h.there) (λ y k. h.rest y (root-of y i l r k))

-- the last of two kinds of items, from the last of each
pub last-join : (s : Side) (t : ℕ) (a b : Item) (P Q : Item → Type 0) → Last s t a P → Last s t b Q → (a.entry ≡ b.entry → a ≡ b) → Last s t (nearer s t a b) (λ y. P y ⊎ Q y)
last-join s t a b P Q p q e = record {
  there = nearer-one (λ z. P z ⊎ Q z) s t a b (inl p.there) (inr q.there);
  rest = λ y h. ⊎_elim (λ k. up_to-trans s t (nearer s t a b) a y (nearer-past s t a b) (p.rest y k)) (λ k. up_to-trans s t (nearer s t a b) b y (past-nearer s t a b e) (q.rest y k)) h;
}

-- the sides of a node: one of them first
of-sides : (s : Side) (y i : Item) (l r : Tree) → Of y (node i l r) → (y ≡ i) ⊎ (Of y (side_of s l r) ⊎ Of y (side_of (other s) l r))
of-sides left y i l r h = h
of-sides right y i l r (inl e) = inl e
of-sides right y i l r (inr (inl h)) = inr (inr h)
of-sides right y i l r (inr (inr h)) = inr (inl h)

sides-of : (s : Side) (y i : Item) (l r : Tree) → Of y (side_of s l r) → Of y (node i l r)
sides-of left y i l r h = inr (inl h)
sides-of right y i l r h = inr (inr h)

-- a node whose own order is the one towards the entry: the last is in the far side, or the node itself
module _ (s : Side) (t d : ℕ) (i : Item) (l r : Tree) (o : Ordered d (node i l r)) (same : (y z : Item) → Of y (node i l r) → Of z (node i l r) → Before s d y.entry z.entry → Before s t y.entry z.entry) where
  near : (y : Item) → Of y (side_of s l r) → Before s t y.entry i.entry
  near y h = same y i (sides-of s y i l r h) (inl refl) (of-all (λ x. Before s d x i.entry) y (side_of s l r) (ordered-side s d i l r o).0 h)

  far : (y : Item) → Of y (side_of (other s) l r) → Before s t i.entry y.entry
  far y h = same i y (inl refl) (sides-of (other s) y i l r h) (turn s y.entry (of-all (λ x. Before (other s) d x i.entry) y (side_of (other s) l r) (ordered-side (other s) d i l r o).0 h))
    where
      turn : (s : Side) (x : Entry) → Before (other s) d x i.entry → Before s d i.entry x
      turn left x h = h
      turn right x h = h

  pub last-here : side_of (other s) l r ≡ nil → LastOf s t i (node i l r)
  last-here e = record { there = inl refl; rest = λ y h. ⊎_elim (λ q. inl q) (λ k. ⊎_elim (λ g. inr (near y g)) (λ g. absurd (rw e at g)) k) (of-sides s y i l r h) }

  pub last-far : (x : Item) → LastOf s t x (side_of (other s) l r) → LastOf s t x (node i l r)
  last-far x p =
      let b : Before s t i.entry x.entry = far x p.there in record {
        there = sides-of (other s) x i l r p.there;
        rest = λ y h. ⊎_elim (λ q. inr (rw q b)) (λ k. ⊎_elim (λ g. inr (before-trans s t y.entry i.entry x.entry (near y g) b)) (λ g. p.rest y g) k) (of-sides s y i l r h);
      }
