-- Rebuilding is as low as can be; the greatest height is attained by a tree in order, and passed by none.
use mathlib.Core.Path.{◌≡◌, refl, ap}
use mathlib.Core.List.{List, [], ◌∷◌}
use mathlib.Core.Bool.{Bool, true, false}
use Prim.Native.Nat.{ℕ, zero, suc, ◌+◌, ◌-◌, ◌/◌, ◌≤◌, ◌<◌, max}
use native.Mathlib.Omega.{arith}
use native.Mathlib.Nat.{mod-one}
use native.Mathlib.Decide.{dec_le, dec_lt}
use lib.Dec.{leb}
use lib.ListN.{length}
use lib.IntN.{pos}
use borrow.Author.Tests.{leb-true}
use Rattle.model.specs.Ask.{climb, fewest, tallest}
use Rattle.model.specs.Entry.{Entry, cmp, cut_field, lex, super_key}
use Rattle.model.specs.Rebuild.{rebuild}
use Rattle.model.specs.Tree.{Item, Tree, height, nil, node, size}
use Rattle.model.proofs.Heights.{build-low, climb-tall, fewest-mono≤, le-fewest, size_below, two^, two^-pos}
use Rattle.model.proofs.Orders.{lt→compare}
use Rattle.model.proofs.Trees.{All, Balanced, Even, Less, Ordered, all-map_t}

-- no tree of as many entries is lower than a rebuilt one
pub rebuild-least : (t : ℕ) (is : List Item) (u : Tree) → size u ≡ length is → height (rebuild t is) ≤ height u
unfolding rebuild
rebuild-least t is u e = build-low (length is) (height u) t is (omega (arith, size_below u))

-- the climb goes up only where the entries suffice
climb-fewest : (f h n : ℕ) → fewest h ≤ n → fewest (climb f h n) ≤ n
climb-fewest zero h n p = p
climb-fewest (suc f) h n p = go (leb (fewest (suc h)) n) refl (climb-fewest f (suc h) n)
  where
    go : (b : Bool) → leb (fewest (suc h)) n ≡ b → (fewest (suc h) ≤ n → fewest (climb f (suc h) n) ≤ n) → fewest (climb (suc f) h n) ≤ n
    go true e ih = rw (e, climb) (ih (leb-true (fewest (suc h)) n e))
    go false e ih = rw (e, climb) p

-- so many entries do suffice for that height
pub tallest-fewest : (n : ℕ) → fewest (tallest n) ≤ n
unfolding tallest
tallest-fewest n = climb-fewest n 0 n (omega arith)

-- and for no greater one
pub tallest-top : (n h : ℕ) → fewest h ≤ n → h ≤ tallest n
unfolding tallest
tallest-top n h p = climb-tall n 0 n h p (omega (arith, le-fewest h))

-- a full book: the fewest entries of height 17 are more than 4,096
pub tallest-16 : (n : ℕ) → n ≤ 4096 → tallest n ≤ 16
tallest-16 n p = go (dec_le (tallest n) 16)
  where
    go : Dec (tallest n ≤ 16) → tallest n ≤ 16
    go (yes a) = a
    go (no a) =
        let e : fewest 17 ≡ 4180 = refl in
        let m : fewest 17 ≤ fewest (tallest n) = fewest-mono≤ (tallest n) 17 (omega arith) in
        let l : 4180 ≤ fewest (tallest n) = rw e at m in
        absurd (omega (arith, tallest-fewest n))

-- the fewest entries of a height are too few to fill it, and those of the next are at most one too many for it
fewest-below : (h : ℕ) → (fewest h < two^ h) × (fewest (suc h) ≤ two^ h)
fewest-below zero = (omega arith, omega arith)
fewest-below (suc h) =
    let ih : (fewest h < two^ h) × (fewest (suc h) ≤ two^ h) = fewest-below h in
    (omega (arith, two^-pos h), omega arith)

-- so many entries fit in their greatest height
below-full : (n : ℕ) → n < two^ (tallest n)
below-full n = go (dec_le (fewest (suc (tallest n))) n)
  where
    go : Dec (fewest (suc (tallest n)) ≤ n) → n < two^ (tallest n)
    go (yes a) = absurd (omega (arith, tallest-top n (suc (tallest n)) a))
    go (no a) = omega (arith, (fewest-below (tallest n)).1)

-- entries of one field compare at every depth as their numbers do
one_less : (t a b : ℕ) → a < b → Less t (pos a ∷ []) (pos b ∷ [])
unfolding cmp super_key cut_field
one_less t a b h = rw (mod-one t) (rw (lt→compare a b h, lex) refl)

-- an entry of one field that holds a number from lo on and below hi
abbrev Among : ℕ → ℕ → Entry → Type 0
Among lo hi e = (k : ℕ) × (e ≡ pos k ∷ []) × (lo ≤ k) × (k < hi)

-- a tree of n entries and height h that holds the numbers s .. s + n - 1, in order at every depth
record Grown (s h n : ℕ) : Type 0 where
  tree : Tree
  many : size tree ≡ n
  high : height tree ≡ h
  balanced : Balanced tree
  ordered : (t : ℕ) → Ordered t tree
  among : All (Among s (s + n)) tree

-- two of them, on either side of the number between
grow : {s a b x y h n : ℕ} → Grown s x a → Grown (suc (s + a)) y b → Even x y → suc (max x y) ≡ h → suc (a + b) ≡ n → Grown s h n
grow {s} {a} {b} {n = n} l r v e f =
    record {
      tree = node (record { slot = s + a; entry = mid }) l.tree r.tree;
      many = omega (arith, l.many, r.many);
      high = omega (arith, l.high, r.high);
      balanced = (rw (l.high, r.high) v, l.balanced, r.balanced);
      ordered = λ t. (
        all-map_t Under (λ z. Less t z mid) (below t) l.tree l.among,
        all-map_t Over (Less t mid) (above t) r.tree r.among,
        l.ordered (suc t),
        r.ordered (suc t),
      );
      among = (
        (s + a, refl, omega arith, omega arith),
        all-map_t Under (Among s (s + n)) (λ z k. (k.0, k.1, k.2, omega arith)) l.tree l.among,
        all-map_t Over (Among s (s + n)) (λ z k. (k.0, k.1, omega arith, omega arith)) r.tree r.among,
      );
    }
  where
    mid : Entry
    mid = pos (s + a) ∷ []

    Under : Entry → Type 0
    Under = Among s (s + a)

    Over : Entry → Type 0
    Over = Among (suc (s + a)) (suc (s + a) + b)

    below : (t : ℕ) (z : Entry) → Under z → Less t z mid
    below t z k = rw k.1 (one_less t k.0 (s + a) k.3)

    above : (t : ℕ) (z : Entry) → Over z → Less t mid z
    above t z k = rw k.1 (one_less t (s + a) k.0 k.2)

-- such a tree for every number of entries from the fewest to a full tree's
abbrev Grows : ℕ → Type 0
Grows h = (n s : ℕ) → fewest h ≤ n → n < two^ h → Grown s h n

-- few entries: the fewest on the left, and on the right a side one lower; more: two halves of the same height
taller : (h : ℕ) → Grows h → Grows (suc h) → Grows (suc (suc h))
taller h lower higher n s p q = go (dec_lt n (suc (fewest (suc h) + two^ h)))
  where
    few : ℕ
    few = fewest (suc h)

    half : ℕ
    half = (n - 1) / 2

    go : Dec (n < suc (few + two^ h)) → Grown s (suc (suc h)) n
    go (yes c) =
        let f : few ≤ two^ h = (fewest-below h).1 in
        let l : Grown s (suc h) few = higher few s (omega arith) (omega (arith, two^-pos h)) in
        let r : Grown (suc (s + few)) h (n - 1 - few) = lower (n - 1 - few) (suc (s + few)) (omega arith) (omega arith) in
        grow l r (omega arith, omega arith) (omega arith) (omega arith)
    go (no c) =
        let f : few ≤ two^ h = (fewest-below h).1 in
        let l : Grown s (suc h) half = higher half s (omega arith) (omega arith) in
        let r : Grown (suc (s + half)) (suc h) (n - 1 - half) = higher (n - 1 - half) (suc (s + half)) (omega arith) (omega arith) in
        grow l r (omega arith, omega arith) (omega arith) (omega arith)

empty : (s : ℕ) → Grown s 0 0
empty s = record { tree = nil; many = refl; high = refl; balanced = tt; ordered = λ t. tt; among = tt }

grown : (h : ℕ) → Grows h
grown zero n s p q = let e : n ≡ 0 = omega arith in rw e (empty s)
grown (suc zero) n s p q = grow (empty s) (empty (suc (s + 0))) (omega arith, omega arith) refl (omega arith)
grown (suc (suc h)) n s p q = taller h (grown h) (grown (suc h)) n s p q

-- a tree in order of n entries and the greatest height that n entries can have
pub record Attained (n : ℕ) : Type 0 where
  pub tree : Tree
  pub many : size tree ≡ n
  pub high : height tree ≡ tallest n
  pub balanced : Balanced tree
  pub ordered : Ordered 0 tree
  pub sized : All (λ e. length e ≡ 1) tree  -- entries of one field

-- its slots are the numbers 1 .. n, as its entries are
pub attained : (n : ℕ) → Attained n
attained n =
    let g : Grown 1 (tallest n) n = grown (tallest n) n 1 (tallest-fewest n) (below-full n) in
    record {
      tree = g.tree;
      many = g.many;
      high = g.high;
      balanced = g.balanced;
      ordered = g.ordered 0;
      sized = all-map_t (Among 1 (1 + n)) (λ e. length e ≡ 1) (λ e k. ap length k.1) g.tree g.among;
    }
