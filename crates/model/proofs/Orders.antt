-- The super key orders the entries: total, strict, transitive, at every depth.
use mathlib.Core.Path.{◌≡◌, refl, sym, ap, ap₂, ◌∙◌}
use mathlib.Core.List.{[], ◌∷◌, ◌++◌}
use Prim.Native.Nat.compare
use Prim.Native.Nat.{ℕ, zero, suc, ◌<◌, compare, Ordering}
use native.Mathlib.Omega.{arith}
use lib.Dec.{eqb→eq}
use lib.ListN.{length, take, drop, length-append, length-take, length-drop, take-append-drop}
use lib.IntN.{ℤ, pos, negsuc}
use Rattle.model.specs.Entry.{Entry, cmp, cut_field, lex, super_key}
use Rattle.model.specs.Number.{order}

abbrev pub flip : Ordering → Ordering
flip Ordering.lt = Ordering.gt
flip Ordering.eq = Ordering.eq
flip Ordering.gt = Ordering.lt

pub compare-flip : (m n : ℕ) → compare n m ≡ flip (compare m n)
compare-flip zero zero = rw compare.zero-zero
compare-flip zero (suc n) = rw (compare.zero-suc, compare.suc-zero)
compare-flip (suc m) zero = rw (compare.zero-suc, compare.suc-zero)
compare-flip (suc m) (suc n) = rw (compare.suc-suc m n, compare.suc-suc n m) (compare-flip m n)

pub compare_refl : (m : ℕ) → compare m m ≡ Ordering.eq
compare_refl zero = compare.zero-zero
compare_refl (suc m) = compare.suc-suc m m ∙ compare_refl m

pub compare-eq : (m n : ℕ) → compare m n ≡ Ordering.eq → m ≡ n
compare-eq m n e = eqb→eq m n (rw e tt)

pub compare→lt : (m n : ℕ) → compare m n ≡ Ordering.lt → m < n
compare→lt zero zero e = absurd (let z : ◌≡◌ {A = ℕ} 0 1 = cc (compare.zero-zero) in omega arith)
compare→lt zero (suc n) e = omega arith
compare→lt (suc m) zero e = absurd (let z : ◌≡◌ {A = ℕ} 0 1 = cc (compare.suc-zero m) in omega arith)
compare→lt (suc m) (suc n) e = omega (arith, compare→lt m n (sym (compare.suc-suc m n) ∙ e))

pub lt→compare : (m n : ℕ) → m < n → compare m n ≡ Ordering.lt
lt→compare zero zero h = absurd (omega arith)
lt→compare zero (suc n) h = compare.zero-suc n
lt→compare (suc m) zero h = absurd (omega arith)
lt→compare (suc m) (suc n) h = compare.suc-suc m n ∙ lt→compare m n (omega arith)

compare-trans : (a b c : ℕ) → compare a b ≡ Ordering.lt → compare b c ≡ Ordering.lt → compare a c ≡ Ordering.lt
compare-trans a b c p q = lt→compare a c (omega (arith, compare→lt a b p, compare→lt b c q))

pub order_flip : (x y : ℤ) → order y x ≡ flip (order x y)
order_flip (pos a) (pos b) = compare-flip a b
order_flip (pos a) (negsuc b) = refl
order_flip (negsuc a) (pos b) = refl
order_flip (negsuc a) (negsuc b) = compare-flip b a

pub order-refl : (x : ℤ) → order x x ≡ Ordering.eq
order-refl (pos a) = compare_refl a
order-refl (negsuc a) = compare_refl a

pub order-eq : (x y : ℤ) → order x y ≡ Ordering.eq → x ≡ y
order-eq (pos a) (pos b) e = ap pos (compare-eq a b e)
order-eq (pos a) (negsuc b) e = cc
order-eq (negsuc a) (pos b) e = cc
order-eq (negsuc a) (negsuc b) e = ap negsuc (sym (compare-eq b a e))

pub order_trans : (x y z : ℤ) → order x y ≡ Ordering.lt → order y z ≡ Ordering.lt → order x z ≡ Ordering.lt
order_trans (pos a) (pos b) (pos c) p q = compare-trans a b c p q
order_trans (pos a) (pos b) (negsuc c) p q = q
order_trans (pos a) (negsuc b) (pos c) p q = cc
order_trans (pos a) (negsuc b) (negsuc c) p q = p
order_trans (negsuc a) (pos b) (pos c) p q = refl
order_trans (negsuc a) (pos b) (negsuc c) p q = cc
order_trans (negsuc a) (negsuc b) (pos c) p q = refl
order_trans (negsuc a) (negsuc b) (negsuc c) p q = compare-trans c b a q p

lex-flip : (a b : Entry) → lex b a ≡ flip (lex a b)
lex-flip [] [] = refl
lex-flip [] (y ∷ ys) = refl
lex-flip (x ∷ xs) [] = refl
lex-flip (x ∷ xs) (y ∷ ys) = go (order x y) refl (lex-flip xs ys)
  where
    go : (o : Ordering) → order x y ≡ o → lex ys xs ≡ flip (lex xs ys) → lex (y ∷ ys) (x ∷ xs) ≡ flip (lex (x ∷ xs) (y ∷ ys))
    go Ordering.lt e h = rw (order_flip x y, e, lex) refl
    go Ordering.eq e h = rw (order_flip x y, e, lex) h
    go Ordering.gt e h = rw (order_flip x y, e, lex) refl

lex-refl : (a : Entry) → lex a a ≡ Ordering.eq
lex-refl [] = refl
lex-refl (x ∷ xs) = rw (order-refl x, lex) (lex-refl xs)

lex-eq : (a b : Entry) → lex a b ≡ Ordering.eq → a ≡ b
lex-eq [] [] e = refl
lex-eq [] (y ∷ ys) e = cc
lex-eq (x ∷ xs) [] e = cc
lex-eq (x ∷ xs) (y ∷ ys) e = go (order x y) refl (lex-eq xs ys)
  where
    go : (o : Ordering) → order x y ≡ o → (lex xs ys ≡ Ordering.eq → xs ≡ ys) → x ∷ xs ≡ y ∷ ys
    go Ordering.lt p h = let q = rw (p, lex) at e in cc
    go Ordering.eq p h = let q = rw (p, lex) at e in cc (order-eq x y p, h q)
    go Ordering.gt p h = let q = rw (p, lex) at e in cc

lex-lt : (x y : ℤ) (xs ys : Entry) → order x y ≡ Ordering.lt → lex (x ∷ xs) (y ∷ ys) ≡ Ordering.lt
lex-lt x y xs ys e = rw (e, lex) refl

lex-trans : (a b c : Entry) → lex a b ≡ Ordering.lt → lex b c ≡ Ordering.lt → lex a c ≡ Ordering.lt
lex-trans [] [] c p q = cc
lex-trans [] (y ∷ ys) [] p q = cc
lex-trans [] (y ∷ ys) (z ∷ zs) p q = refl
lex-trans (x ∷ xs) [] c p q = cc
lex-trans (x ∷ xs) (y ∷ ys) [] p q = cc
lex-trans (x ∷ xs) (y ∷ ys) (z ∷ zs) p q = go (order x y) (order y z) refl refl (lex-trans xs ys zs)
  where
    go : (o o' : Ordering) → order x y ≡ o → order y z ≡ o' → (lex xs ys ≡ Ordering.lt → lex ys zs ≡ Ordering.lt → lex xs zs ≡ Ordering.lt) → lex (x ∷ xs) (z ∷ zs) ≡ Ordering.lt
    go Ordering.lt Ordering.lt e f h = lex-lt x z xs zs (order_trans x y z e f)
    go Ordering.lt Ordering.eq e f h = lex-lt x z xs zs (rw (order-eq y z f) at e)
    go Ordering.lt Ordering.gt e f h = let r = rw (f, lex) at q in cc
    go Ordering.eq Ordering.lt e f h = lex-lt x z xs zs (rw (← order-eq x y e) at f)
    go Ordering.eq Ordering.eq e f h = rw (order-eq x y e ∙ order-eq y z f, order-refl z, lex) (h (rw (e, lex) at p) (rw (f, lex) at q))
    go Ordering.eq Ordering.gt e f h = let r = rw (f, lex) at q in cc
    go Ordering.gt o' e f h = let r = rw (e, lex) at p in cc

-- the super key keeps all that an entry holds
pub key-length : (t : ℕ) (e : Entry) → length (super_key t e) ≡ length e
unfolding super_key
key-length t e =
    let c : ℕ = cut_field (length e) t in
    length-append (drop c e) (take c e) ∙ rw (length-drop, length-take) (omega arith)

split-same : (a b c d : Entry) → length a ≡ length c → a ++ b ≡ c ++ d → (a ≡ c) × (b ≡ d)
split-same [] b [] d n e = (refl, e)
split-same [] b (y ∷ c) d n e = absurd (omega arith)
split-same (x ∷ a) b [] d n e = absurd (omega arith)
split-same (x ∷ a) b (y ∷ c) d n e =
    let p : x ≡ y = cc in
    let q : a ++ b ≡ c ++ d = cc in
    let r = split-same a b c d (omega arith) q in
    (ap₂ ◌∷◌ p r.0, r.1)

turned-inj : (c : ℕ) (a b : Entry) → length a ≡ length b → drop c a ++ take c a ≡ drop c b ++ take c b → a ≡ b
turned-inj c a b n e =
    let r = split-same (drop c a) (take c a) (drop c b) (take c b) (rw (length-drop, length-drop, n) refl) e in
    sym (take-append-drop c a) ∙ ap₂ ◌++◌ r.1 r.0 ∙ take-append-drop c b

super_key-inj : (t : ℕ) (a b : Entry) → super_key t a ≡ super_key t b → a ≡ b
unfolding super_key
super_key-inj t a b e =
    let n : length a ≡ length b = sym (key-length t a) ∙ ap length e ∙ key-length t b in
    turned-inj (cut_field (length a) t) a b n (e ∙ rw n refl)

pub cmp-flip : (t : ℕ) (a b : Entry) → cmp t b a ≡ flip (cmp t a b)
unfolding cmp
cmp-flip t a b = lex-flip (super_key t a) (super_key t b)

pub cmp-refl : (t : ℕ) (a : Entry) → cmp t a a ≡ Ordering.eq
unfolding cmp
cmp-refl t a = lex-refl (super_key t a)

pub cmp-eq : (t : ℕ) (a b : Entry) → cmp t a b ≡ Ordering.eq → a ≡ b
unfolding cmp
cmp-eq t a b e = super_key-inj t a b (lex-eq (super_key t a) (super_key t b) e)

pub cmp-trans : (t : ℕ) (a b c : Entry) → cmp t a b ≡ Ordering.lt → cmp t b c ≡ Ordering.lt → cmp t a c ≡ Ordering.lt
unfolding cmp
cmp-trans t a b c p q = lex-trans (super_key t a) (super_key t b) (super_key t c) p q
