-- The comparison by the first field that differs, field by field and in two spans.
use mathlib.Core.Path.{◌≡◌, refl, sym, ap, ◌∙◌}
use mathlib.Core.Bool.{cond}
use mathlib.Core.List.{[], ◌∷◌, ◌++◌}
use Prim.Native.Nat.{ℕ, suc, ◌+◌, ◌-◌, ◌%◌, ◌<◌, Ordering}
use native.Mathlib.Omega.{arith}
use native.Mathlib.Nat.{suc-mod, mod_self, mod-eq_of_lt}
use lib.ListN.{length, take, drop, get_or, length-drop}
use lib.Seq.{drop-cons, take_all}
use lib.IntN.{ℤ, pos}
use Rattle.model.specs.Number.{order}
use Rattle.model.specs.Entry.{Entry, lex, cut_field, super_key, cmp}
use Rattle.model.specs.Tree.{is_less}
use Rattle.model.proofs.Orders.{flip, order-eq, order_flip}
use Rattle.model.proofs.Numbers.{lt_z-cmp}
use Rattle.std.specs.Ordering.{int_cmp, ordering_then}
use Rattle.std.specs.Cmp.Lexicographic.{slice_cmp}
use Rattle.cells.specs.Orders.{named, Compared, Deeper}
use Rattle.std.specs.declared.cmp.Ordering.{Ordering as Order}
use Rattle.std.specs.declared.cmp.Ordering.TheVariants.{Less, Equal, Greater}

-- the model's order of two numbers is std's
pub numbers_told : (x y : ℤ) → int_cmp x y ≡ named (order x y)
numbers_told x y = rw (lt_z-cmp x y, lt_z-cmp y x, order_flip x y) (go (order x y))
  where
    go : (o : Ordering) → cond (is_less o) Less (cond (is_less (flip o)) Greater Equal) ≡ named o
    go Ordering.lt = refl
    go Ordering.eq = refl
    go Ordering.gt = refl

lex-else : (x y : ℤ) (xs ys : Entry) → named (lex (x ∷ xs) (y ∷ ys)) ≡ ordering_then (named (order x y)) (named (lex xs ys))
lex-else x y xs ys = go (order x y) refl
  where
    go : (o : Ordering) → order x y ≡ o → named (lex (x ∷ xs) (y ∷ ys)) ≡ ordering_then (named (order x y)) (named (lex xs ys))
    go Ordering.lt e = rw (e, lex) refl
    go Ordering.eq e = rw (e, lex) refl
    go Ordering.gt e = rw (e, lex) refl

-- and so is the order of two lists
pub lists_told : (a b : Entry) → slice_cmp int_cmp a b ≡ named (lex a b)
lists_told [] [] = refl
lists_told [] (y ∷ b) = refl
lists_told (x ∷ a) [] = refl
lists_told (x ∷ a) (y ∷ b) = rw (numbers_told x y, lists_told a b) (sym (lex-else x y a b))

-- two spans, one behind the other
lex-spans : (p q r s : Entry) → length p ≡ length q → named (lex (p ++ r) (q ++ s)) ≡ ordering_then (named (lex p q)) (named (lex r s))
lex-spans [] [] r s n = refl
lex-spans [] (y ∷ q) r s n = absurd (omega arith)
lex-spans (x ∷ p) [] r s n = absurd (omega arith)
lex-spans (x ∷ p) (y ∷ q) r s n = lex-else x y (p ++ r) (q ++ s) ∙ go (named (order x y)) (lex-spans p q r s (omega arith)) ∙ ap (λ z. ordering_then z (named (lex r s))) (sym (lex-else x y p q))
  where
    go : (o : Order) → named (lex (p ++ r) (q ++ s)) ≡ ordering_then (named (lex p q)) (named (lex r s)) → ordering_then o (named (lex (p ++ r) (q ++ s))) ≡ ordering_then (ordering_then o (named (lex p q))) (named (lex r s))
    go Less ih = refl
    go Equal ih = ih
    go Greater ih = refl

-- the whole comparison at a depth that is cut at field c, from its two spans
pub cut-spans : (a b : Entry) (c t : ℕ) → c < length a → length a ≡ length b → cut_field (length a) t ≡ c → named (cmp t a b) ≡ ordering_then (named (lex (drop c a) (drop c b))) (named (lex (take c a) (take c b)))
unfolding cmp super_key
cut-spans a b c t h n e =
    let f : cut_field (length b) t ≡ c = rw (← n) e in
    rw (e, f) (lex-spans (drop c a) (drop c b) (take c a) (take c b) (rw (length-drop, length-drop) (omega arith)))

-- where the cut field differs it decides
pub cut-decides : (a b : Entry) (c t : ℕ) → c < length a → length a ≡ length b → cut_field (length a) t ≡ c → ¬ (get_or a c (pos 0) ≡ get_or b c (pos 0)) → named (cmp t a b) ≡ named (order (get_or a c (pos 0)) (get_or b c (pos 0)))
cut-decides a b c t h n e d =
    let k : c < length b = omega arith in
    cut-spans a b c t h n e
    ∙ ap (λ x. ordering_then x (named (lex (take c a) (take c b)))) (heads k)
    ∙ go (order (get_or a c (pos 0)) (get_or b c (pos 0))) refl (named (lex (drop (suc c) a) (drop (suc c) b))) (named (lex (take c a) (take c b)))
  where
    heads : c < length b → named (lex (drop c a) (drop c b)) ≡ ordering_then (named (order (get_or a c (pos 0)) (get_or b c (pos 0)))) (named (lex (drop (suc c) a) (drop (suc c) b)))
    heads k = rw (drop-cons a c (pos 0) h, drop-cons b c (pos 0) k) (lex-else (get_or a c (pos 0)) (get_or b c (pos 0)) (drop (suc c) a) (drop (suc c) b))

    go : (o : Ordering) → order (get_or a c (pos 0)) (get_or b c (pos 0)) ≡ o → (p q : Order) → ordering_then (ordering_then (named o) p) q ≡ named o
    go Ordering.lt w p q = refl
    go Ordering.eq w p q = absurd (d (order-eq (get_or a c (pos 0)) (get_or b c (pos 0)) w))
    go Ordering.gt w p q = refl

-- what lies from the cut on, as a loan of `&a[cut..]` has it
pub behind-cut : (a : Entry) (c : ℕ) → take (length a - c) (drop c a) ≡ drop c a
behind-cut a c = take_all (length a - c) (drop c a) (rw length-drop (omega arith))

-- the two comparisons of `compare`, and what they come to
module _ (a b : Entry) (c : ℕ) (o : Order) (h : c < length a) (n : length a ≡ length b) (e : o ≡ named (lex (take (length a - c) (drop c a)) (take (length b - c) (drop c b)))) where
  two-spans : (p : Order) → p ≡ ordering_then o (named (lex (take c a) (take c b))) → Compared a b c p
  two-spans p f =
      let g : o ≡ named (lex (drop c a) (drop c b)) = rw (behind-cut a c, behind-cut b c) at e in
      record { at = λ t k. f ∙ ap (λ x. ordering_then x (named (lex (take c a) (take c b)))) g ∙ sym (cut-spans a b c t h n k) }

  pub spans-equal : (p : Order) → o ≡ Equal → p ≡ named (lex (take c a) (take c b)) → Compared a b c p
  spans-equal p q f = two-spans p (f ∙ ap (λ x. ordering_then x (named (lex (take c a) (take c b)))) (sym q))

  pub spans-less : o ≡ Less → Compared a b c Less
  spans-less q = two-spans Less (ap (λ x. ordering_then x (named (lex (take c a) (take c b)))) (sym q))

  pub spans-greater : o ≡ Greater → Compared a b c Greater
  spans-greater q = two-spans Greater (ap (λ x. ordering_then x (named (lex (take c a) (take c b)))) (sym q))

-- one level deeper the next field cuts, behind the last the first
deeper-at : (K c t : ℕ) → c < K → cut_field K t ≡ c → cut_field K (suc t) ≡ suc c % K
unfolding cut_field
deeper-at K c t h e = suc-mod t K ∙ ap (λ (x : ℕ). suc x % K) e

pub deeper-wrap : (K c n : ℕ) → c < K → n ≡ c + 1 → n ≡ K → Deeper K c 0
deeper-wrap K c n h e q = record { low = omega arith; at = λ t f. deeper-at K c t h f ∙ (let w : suc c ≡ K = omega arith in rw w (mod_self K)) }

pub deeper-on : (K c n : ℕ) → c < K → n ≡ c + 1 → ¬ (n ≡ K) → Deeper K c n
deeper-on K c n h e q = record { low = omega (arith, q); at = λ t f. deeper-at K c t h f ∙ (let l : suc c < K = omega (arith, q) in mod-eq_of_lt l ∙ omega arith) }
