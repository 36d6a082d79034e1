-- Less under a super key: not greater in the cut field; and what that says of every entry of a side.
use mathlib.Core.Path.{◌≡◌, refl, sym, ◌∙◌}
use mathlib.Core.Bool.{true}
use mathlib.Core.List.{◌∷◌, ◌++◌}
use Prim.Native.Nat.{ℕ, suc, ◌<◌, Ordering}
use native.Mathlib.Omega.{arith}
use lib.Dec.{is_le}
use lib.ListN.{length, take, drop, get_or}
use lib.Seq.{drop-cons}
use lib.IntN.{ℤ, pos}
use Rattle.model.specs.Number.{order}
use Rattle.model.specs.Entry.{Entry, lex, cut_field, super_key, cmp}
use Rattle.model.specs.Tree.{is_less}

first-less : (x y : ℤ) (xs ys : Entry) → is_less (lex (x ∷ xs) (y ∷ ys)) ≡ true → is_le (order x y) ≡ true
first-less x y xs ys h = go (order x y) h
  where
    go : (o : Ordering) → is_less (elim o as (λ z. Ordering) [ Ordering.lt ↦ Ordering.lt | Ordering.eq ↦ lex xs ys | Ordering.gt ↦ Ordering.gt ]) ≡ true → is_le o ≡ true
    go Ordering.lt e = refl
    go Ordering.eq e = refl
    go Ordering.gt e = e

pub cut-least : (K t c : ℕ) (a b : Entry) → length a ≡ K → length b ≡ K → cut_field K t ≡ c → c < K → is_less (cmp t a b) ≡ true → is_le (order (get_or a c (pos 0)) (get_or b c (pos 0))) ≡ true
unfolding cmp super_key
cut-least K t c a b la lb e h q =
    let ea : super_key t a ≡ get_or a c (pos 0) ∷ (drop (suc c) a ++ take c a) = turned a la in
    let eb : super_key t b ≡ get_or b c (pos 0) ∷ (drop (suc c) b ++ take c b) = turned b lb in
    first-less (get_or a c (pos 0)) (get_or b c (pos 0)) (drop (suc c) a ++ take c a) (drop (suc c) b ++ take c b) (sym (λ i. is_less (lex (ea i) (eb i))) ∙ q)
  where
    turned : (x : Entry) → length x ≡ K → super_key t x ≡ get_or x c (pos 0) ∷ (drop (suc c) x ++ take c x)
    turned x l =
        let f : cut_field (length x) t ≡ c = rw l e in
        let g : c < length x = omega arith in
        rw (f, drop-cons x c (pos 0)) refl
