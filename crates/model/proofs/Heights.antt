-- Heights: a rebuilt tree is balanced and as low as can be; a balanced tree has at least so many entries.
use mathlib.Core.Path.{◌≡◌, refl, sym, ap, ◌∙◌}
use mathlib.Core.List.{List, [], ◌∷◌, ◌++◌}
use mathlib.Core.Bool.{Bool, true, false}
use Prim.Native.Nat.{ℕ, zero, suc, ◌+◌, ◌-◌, ◌/◌, ◌≤◌, ◌<◌, max, Ordering}
use native.Mathlib.Omega.{arith}
use native.Mathlib.Decide.{dec_le, dec_lt}
use lib.Dec.{leb}
use lib.ListN.{length, take, drop, length-take, length-drop, take-append-drop}
use borrow.Author.Tests.{leb-false}
use Rattle.model.specs.Ask.{climb, fewest, reads, tallest}
use Rattle.model.specs.Entry.{Entry, cmp}
use Rattle.model.specs.Rebuild.{build, put, rank, rebuild}
use Rattle.model.specs.Tree.{Item, Tree, height, nil, node, size}
use Rattle.model.proofs.Trees.{Balanced, Even}

-- a fact about `put`, from its three cases
pub put-by : (P : List Item → Type 0) (t : ℕ) (i j : Item) (js : List Item) → (cmp t i.entry j.entry ≡ Ordering.lt → P (i ∷ j ∷ js)) → (cmp t i.entry j.entry ≡ Ordering.eq → P (i ∷ j ∷ js)) → (cmp t i.entry j.entry ≡ Ordering.gt → P (j ∷ put t i js)) → P (put t i (j ∷ js))
put-by P t i j js a b c = go (cmp t i.entry j.entry) refl
  where
    go : (o : Ordering) → cmp t i.entry j.entry ≡ o → P (put t i (j ∷ js))
    go Ordering.lt e = rw (e, put) (a e)
    go Ordering.eq e = rw (e, put) (b e)
    go Ordering.gt e = rw (e, put) (c e)

pub put-length : (t : ℕ) (i : Item) (is : List Item) → length (put t i is) ≡ suc (length is)
put-length t i [] = refl
put-length t i (j ∷ js) = put-by (λ s. length s ≡ suc (suc (length js))) t i j js (λ e. refl) (λ e. refl) (λ e. ap suc (put-length t i js))

pub rank-length : (t : ℕ) (is : List Item) → length (rank t is) ≡ length is
rank-length t [] = refl
rank-length t (i ∷ is) = put-length t i (rank t is) ∙ ap suc (rank-length t is)

-- what a rebuild makes of a list that is not empty: a node over two parts
pub record Cut (f t : ℕ) (is : List Item) : Type 0 where
  pub item : Item
  pub low : List Item
  pub high : List Item
  pub joined : low ++ (item ∷ high) ≡ rank t is
  pub low-size : length low ≡ length is / 2
  pub high-size : suc (length low + length high) ≡ length is
  pub made : build (suc f) t is ≡ node item (build f (suc t) low) (build f (suc t) high)

abbrev pub two^ : ℕ → ℕ
two^ zero = 1
two^ (suc h) = two^ h + two^ h

pub cut : (f t : ℕ) (is : List Item) → 1 ≤ length is → Cut f t is
cut f t is h = go (drop (length is / 2) (rank t is)) refl
  where
    whole : length (rank t is) ≡ length is
    whole = rank-length t is

    left : length (take (length is / 2) (rank t is)) ≡ length is / 2
    left = rw length-take (omega (arith, whole))

    right : (r : List Item) → drop (length is / 2) (rank t is) ≡ r → length r ≡ length is - length is / 2
    right r e = ap length (sym e) ∙ rw (length-drop, rank-length)

    go : (r : List Item) → drop (length is / 2) (rank t is) ≡ r → Cut f t is
    go [] e = let z : 0 ≡ length is - length is / 2 = right [] e in absurd (omega arith)
    go (i ∷ r) e =
        let z : suc (length r) ≡ length is - length is / 2 = right (i ∷ r) e in
        record { item = i; low = take (length is / 2) (rank t is); high = r; joined = rw (← e) (take-append-drop (length is / 2) (rank t is)); low-size = left; high-size = omega (arith, left); made = rw (e, build) refl }

-- fewer than 2^h entries: height at most h; 2^h entries: height above h
pub build-low : (f h t : ℕ) (is : List Item) → length is < two^ h → height (build f t is) ≤ h
build-low zero h t is b = omega arith
build-low (suc f) h t [] b = omega arith
build-low (suc f) zero t (i ∷ is) b = absurd (omega arith)
build-low (suc f) (suc h) t (i ∷ is) b =
    let c : Cut f t (i ∷ is) = cut f t (i ∷ is) (omega arith) in
    let a : length c.low < two^ h = omega arith in
    let z : length c.high < two^ h = omega arith in
    rw c.made (omega (arith, build-low f h (suc t) c.low a, build-low f h (suc t) c.high z))

pub two^-pos : (h : ℕ) → 1 ≤ two^ h
two^-pos zero = omega arith
two^-pos (suc h) = omega (arith, two^-pos h)

pub build-high : (f h t : ℕ) (is : List Item) → length is ≤ f → two^ h ≤ length is → h < height (build f t is)
build-high zero h t is e b = absurd (omega (arith, two^-pos h))
build-high (suc f) zero t is e b =
    let c : Cut f t is = cut f t is (omega arith) in
    rw c.made (omega arith)
build-high (suc f) (suc h) t is e b =
    let c : Cut f t is = cut f t is (omega (arith, two^-pos h)) in
    let a : two^ h ≤ length c.low = omega arith in
    let z : length c.low ≤ f = omega arith in
    rw c.made (omega (arith, build-high f h (suc t) c.low z a))

-- every number above 0 lies between two powers
abbrev pub Powers : ℕ → Type 0
Powers m = (h : ℕ) × (two^ h ≤ suc m) × (suc m < two^ (suc h))

pub next_power : (m : ℕ) (p : Powers m) → Dec (suc (suc m) < two^ (suc p.0)) → Powers (suc m)
next_power m (h, a, b) (yes c) = (h, omega arith, c)
next_power m (h, a, b) (no c) = (suc h, omega arith, omega arith)

pub between-powers : (m : ℕ) → Powers m
between-powers zero = (0, omega arith, omega arith)
between-powers (suc m) = let p : Powers m = between-powers m in next_power m p (dec_lt (suc (suc m)) (two^ (suc p.0)))

pub build-even : (f t : ℕ) (low high : List Item) → length low ≤ f → length high ≤ length low → length low ≤ suc (length high) → Even (height (build f t low)) (height (build f t high))
build-even f t [] high e a b = let l : height (build f t []) ≤ 0 = build-low f 0 t [] (omega arith) in let r : height (build f t high) ≤ 0 = build-low f 0 t high (omega arith) in (omega arith, omega arith)
build-even f t (i ∷ is) high e a b = go (between-powers (length is))
  where
    go : Powers (length is) → Even (height (build f t (i ∷ is))) (height (build f t high))
    go (zero, p, q) =
        let l1 : height (build f t (i ∷ is)) ≤ 1 = build-low f 1 t (i ∷ is) (omega arith) in
        let r1 : height (build f t high) ≤ 1 = build-low f 1 t high (omega arith) in
        (omega arith, omega arith)
    go (suc h, p, q) =
        let l1 : height (build f t (i ∷ is)) ≤ suc (suc h) = build-low f (suc (suc h)) t (i ∷ is) (omega arith) in
        let l2 : suc (suc h) ≤ height (build f t (i ∷ is)) = build-high f (suc h) t (i ∷ is) e p in
        let r1 : height (build f t high) ≤ suc (suc h) = build-low f (suc (suc h)) t high (omega arith) in
        let r2 : suc h ≤ height (build f t high) = build-high f h t high (omega arith) (omega (arith, two^-pos h)) in
        (omega arith, omega arith)

pub build-balanced : (f t : ℕ) (is : List Item) → length is ≤ f → Balanced (build f t is)
build-balanced zero t is e = tt
build-balanced (suc f) t [] e = tt
build-balanced (suc f) t (i ∷ is) e =
    let c : Cut f t (i ∷ is) = cut f t (i ∷ is) (omega arith) in
    rw c.made (build-even f (suc t) c.low c.high (omega arith) (omega arith) (omega arith), build-balanced f (suc t) c.low (omega arith), build-balanced f (suc t) c.high (omega arith))

pub rebuild-balanced : (t : ℕ) (is : List Item) → Balanced (rebuild t is)
unfolding rebuild
rebuild-balanced t is = build-balanced (length is) t is (omega arith)

-- no tree of so many entries is lower
pub size_below : (t : Tree) → size t < two^ (height t)
size_below nil = omega arith
size_below (node i l r) = omega (arith, size_below l, size_below r, two^-mono (height l) (max (height l) (height r)) (omega arith), two^-mono (height r) (max (height l) (height r)) (omega arith))
  where
    two^-mono : (a b : ℕ) → a ≤ b → two^ a ≤ two^ b
    two^-mono zero b h = two^-pos b
    two^-mono (suc a) zero h = absurd (omega arith)
    two^-mono (suc a) (suc b) h = omega (arith, two^-mono a b (omega arith))

pub fewest-mono : (h : ℕ) → fewest h ≤ fewest (suc h)
fewest-mono zero = omega arith
fewest-mono (suc h) = omega arith

pub fewest-mono≤ : (b a : ℕ) → a ≤ b → fewest a ≤ fewest b
fewest-mono≤ zero a h = let e : a ≡ 0 = omega arith in rw e (omega arith)
fewest-mono≤ (suc b) a h = go (fewest-mono≤ b a) (dec_le a b)
  where
    go : (a ≤ b → fewest a ≤ fewest b) → Dec (a ≤ b) → fewest a ≤ fewest (suc b)
    go ih (yes c) = omega (arith, ih c, fewest-mono b)
    go ih (no c) = let e : a ≡ suc b = omega arith in rw e (omega arith)

pub node-size : (m a b x y : ℕ) → max a b ≡ m → Even a b → fewest a ≤ x → fewest b ≤ y → fewest (suc m) ≤ suc (x + y)
node-size zero a b x y e n p q = omega arith
node-size (suc m) a b x y e n p q = go (dec_le a b)
  where
    go : Dec (a ≤ b) → fewest (suc (suc m)) ≤ suc (x + y)
    go (yes c) = let e' : b ≡ suc m = omega arith in omega (arith, rw e' at q, fewest-mono≤ a m (omega arith))
    go (no c) = let e' : a ≡ suc m = omega arith in omega (arith, rw e' at p, fewest-mono≤ b m (omega arith))

pub balanced-size : (t : Tree) → Balanced t → fewest (height t) ≤ size t
balanced-size nil b = omega arith
balanced-size (node i l r) (n, bl, br) = node-size (max (height l) (height r)) (height l) (height r) (size l) (size r) refl n (balanced-size l bl) (balanced-size r br)

pub le-fewest : (h : ℕ) → h ≤ fewest h
le-fewest zero = omega arith
le-fewest (suc zero) = omega arith
le-fewest (suc (suc h)) = omega (arith, le-fewest (suc h))

pub climb-tall : (f h n x : ℕ) → fewest x ≤ n → x ≤ h + f → x ≤ climb f h n
climb-tall zero h n x p q = omega arith
climb-tall (suc f) h n x p q = go (leb (fewest (suc h)) n) refl (climb-tall f (suc h) n x p)
  where
    out : Dec (x ≤ h) → n < fewest (suc h) → x ≤ h
    out (yes a) b = a
    out (no a) b = absurd (omega (arith, fewest-mono≤ x (suc h) (omega arith)))

    go : (b : Bool) → leb (fewest (suc h)) n ≡ b → (x ≤ suc h + f → x ≤ climb f (suc h) n) → x ≤ climb (suc f) h n
    go true e ih = rw (e, climb) (ih (omega arith))
    go false e ih = rw (e, climb) (out (dec_le x h) (leb-false (fewest (suc h)) n e))

pub balanced-height : (t : Tree) → Balanced t → height t ≤ tallest (size t)
unfolding tallest
balanced-height t b = climb-tall (size t) 0 (size t) (height t) (balanced-size t b) (omega (arith, balanced-size t b, le-fewest (height t)))

pub reads-height : (t : ℕ) (k : Entry) (u : Tree) → reads t k u ≤ height u
unfolding reads
reads-height t k nil = omega arith
reads-height t k (node i l r) = go (cmp t k i.entry) refl (reads-height (suc t) k l) (reads-height (suc t) k r)
  where
    go : (o : Ordering) → cmp t k i.entry ≡ o → reads (suc t) k l ≤ height l → reads (suc t) k r ≤ height r → reads t k (node i l r) ≤ height (node i l r)
    go Ordering.lt e a b = rw (e, reads) (omega arith)
    go Ordering.eq e a b = rw (e, reads) (omega arith)
    go Ordering.gt e a b = rw (e, reads) (omega arith)

pub reads-bound : (t : ℕ) (k : Entry) (u : Tree) → Balanced u → reads t k u ≤ tallest (size u)
reads-bound t k u b = omega (arith, reads-height t k u, balanced-height u b)
