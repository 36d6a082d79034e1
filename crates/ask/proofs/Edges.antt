-- What lies beyond the edge of the near side is at least as far as the edge.
use mathlib.Core.Path.{◌≡◌, refl, ap, ◌∙◌}
use mathlib.Core.Bool.{true, false, false≢true, true≢false}
use mathlib.Core.List.{List, [], ◌∷◌}
use Prim.Native.Nat.{ℕ, zero, suc, ◌≤◌, ◌<◌, Ordering}
use native.Mathlib.Omega.{arith}
use borrow.Author.Tests.{leb-true}
use lib.Dec.{is_le}
use lib.ListN.{length, get_or}
use lib.IntN.{ℤ, pos, negsuc}
use Rattle.model.specs.Number.{order, difference, distance_of_field}
use Rattle.model.specs.Entry.{Entry, cut_field, cmp, distance}
use Rattle.model.specs.Tree.{is_less}
use Rattle.model.proofs.Distances.{distance-up}
use Rattle.model.proofs.Orders.{flip, order_flip}
use Rattle.ask.proofs.Cuts.{cut-least}

-- beyond x as seen from q: up, and down
diff-up : (q x y : ℤ) → is_le (order q x) ≡ true → is_le (order x y) ≡ true → difference q x ≤ difference q y
unfolding difference
diff-up (pos a) (pos b) (pos c) g h = let m = leb-true a b g in let n = leb-true b c h in omega arith
diff-up (pos a) (pos b) (negsuc c) g h = absurd (false≢true h)
diff-up (pos a) (negsuc b) y g h = absurd (false≢true g)
diff-up (negsuc a) (pos b) (pos c) g h = let n = leb-true b c h in omega arith
diff-up (negsuc a) (pos b) (negsuc c) g h = absurd (false≢true h)
diff-up (negsuc a) (negsuc b) (pos c) g h = let m = leb-true b a g in omega arith
diff-up (negsuc a) (negsuc b) (negsuc c) g h = let m = leb-true b a g in let n = leb-true c b h in omega arith

diff-down : (q x y : ℤ) → is_le (order x q) ≡ true → is_le (order y x) ≡ true → difference q x ≤ difference q y
unfolding difference
diff-down (pos a) (pos b) (pos c) g h = let m = leb-true b a g in let n = leb-true c b h in omega arith
diff-down (pos a) (pos b) (negsuc c) g h = let m = leb-true b a g in omega arith
diff-down (pos a) (negsuc b) (pos c) g h = absurd (false≢true h)
diff-down (pos a) (negsuc b) (negsuc c) g h = let n = leb-true b c h in omega arith
diff-down (negsuc a) (pos b) y g h = absurd (false≢true g)
diff-down (negsuc a) (negsuc b) (pos c) g h = absurd (false≢true h)
diff-down (negsuc a) (negsuc b) (negsuc c) g h = let m = leb-true a b g in let n = leb-true b c h in omega arith

-- the test that chose the side, as the weak order
lt-le : (x y : ℤ) → is_less (order x y) ≡ true → is_le (order x y) ≡ true
lt-le x y h = go (order x y) h
  where
    go : (o : Ordering) → is_less o ≡ true → is_le o ≡ true
    go Ordering.lt e = refl
    go Ordering.eq e = absurd (false≢true e)
    go Ordering.gt e = absurd (false≢true e)

not-lt-le : (x y : ℤ) → is_less (order x y) ≡ false → is_le (order y x) ≡ true
not-lt-le x y h = ap is_le (order_flip x y) ∙ go (order x y) h
  where
    go : (o : Ordering) → is_less o ≡ false → is_le (flip o) ≡ true
    go Ordering.lt e = absurd (true≢false e)
    go Ordering.eq e = refl
    go Ordering.gt e = refl

-- an entry is at least as far as each of its fields
reach : (ss : List ℕ) (q e : Entry) (c : ℕ) → c < length ss → c < length q → c < length e → distance_of_field (get_or ss c 0) (get_or q c (pos 0)) (get_or e c (pos 0)) ≤ distance ss q e
unfolding distance
reach [] q e c a b d = absurd (omega arith)
reach (s ∷ ss) [] e c a b d = absurd (omega arith)
reach (s ∷ ss) (x ∷ q) [] c a b d = absurd (omega arith)
reach (s ∷ ss) (x ∷ q) (y ∷ e) zero a b d = omega arith
reach (s ∷ ss) (x ∷ q) (y ∷ e) (suc c) a b d = let m = reach ss q e c (omega arith) (omega arith) (omega arith) in omega arith

-- the entry x cuts at field c, and e is on the side of it where the query q is not
module _ (K t c : ℕ) (ss : List ℕ) (q x e : Entry) (low : c < K) (four : K ≤ length ss) (lq : length q ≡ K) (lx : length x ≡ K) (le : length e ≡ K) (cut : cut_field K t ≡ c) (step : 0 < get_or ss c 0) where
  abbrev edge_of : ℕ
  edge_of = distance_of_field (get_or ss c 0) (get_or q c (pos 0)) (get_or x c (pos 0))

  far : difference (get_or q c (pos 0)) (get_or x c (pos 0)) ≤ difference (get_or q c (pos 0)) (get_or e c (pos 0)) → edge_of ≤ distance ss q e
  far h =
      let m = reach ss q e c (omega arith) (omega arith) (omega arith) in
      let n = distance-up (get_or ss c 0) (get_or q c (pos 0)) (get_or x c (pos 0)) (get_or e c (pos 0)) step h in
      omega arith

  pub far-right : is_less (order (get_or q c (pos 0)) (get_or x c (pos 0))) ≡ true → is_less (cmp t x e) ≡ true → edge_of ≤ distance ss q e
  far-right a b = far (diff-up (get_or q c (pos 0)) (get_or x c (pos 0)) (get_or e c (pos 0)) (lt-le (get_or q c (pos 0)) (get_or x c (pos 0)) a) (cut-least K t c x e lx le cut low b))

  pub far-left : is_less (order (get_or q c (pos 0)) (get_or x c (pos 0))) ≡ false → is_less (cmp t e x) ≡ true → edge_of ≤ distance ss q e
  far-left a b = far (diff-down (get_or q c (pos 0)) (get_or x c (pos 0)) (get_or e c (pos 0)) (not-lt-le (get_or q c (pos 0)) (get_or x c (pos 0)) a) (cut-least K t c e x le lx cut low b))
