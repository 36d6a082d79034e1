-- Numbers by their tests, and by their place in the 64-bit range.
use mathlib.Core.Path.{◌≡◌, refl, sym, ap, ◌∙◌}
use Prim.Native.Nat.{ℕ, suc, ◌+◌, ◌-◌, ◌^◌, ◌<◌, compare, Ordering}
use native.Mathlib.Omega.{arith}
use lib.Dec.{ltb}
use lib.IntN.{ℤ, pos, negsuc}
use lib.Signed.{lt_z, mag}
use borrow.Author.Tests.{lt-ltb, le-ltb}
use Rattle.model.specs.Number.{order}
use Rattle.model.specs.Tree.{is_less}
use Rattle.model.proofs.Orders.{compare-eq, compare-flip, compare_refl, compare→lt, flip, lt→compare}

-- the three-way order and the test that the code computes
pub compare→gt : (a b : ℕ) → compare a b ≡ Ordering.gt → b < a
compare→gt a b e = compare→lt b a (compare-flip a b ∙ ap flip e)

ltb-cmp : (a b : ℕ) → ltb a b ≡ is_less (compare a b)
ltb-cmp a b = go (compare a b) refl
  where
    go : (o : Ordering) → compare a b ≡ o → ltb a b ≡ is_less (compare a b)
    go Ordering.lt e = rw e (lt-ltb a b (compare→lt a b e))
    go Ordering.eq e = rw e (le-ltb a b (omega (arith, compare-eq a b e)))
    go Ordering.gt e = rw e (le-ltb a b (omega (arith, compare→gt a b e)))

pub lt_z-cmp : (a b : ℤ) → lt_z a b ≡ is_less (order a b)
lt_z-cmp (pos a) (pos b) = ltb-cmp a b
lt_z-cmp (pos a) (negsuc b) = refl
lt_z-cmp (negsuc a) (pos b) = refl
lt_z-cmp (negsuc a) (negsuc b) = ltb-cmp b a

-- the place of a number in the signed range: an order of ℕ that omega reads
unfoldable pub off : ℤ → ℕ
off (pos a) = 2 ^ 63 + a
off (negsuc a) = 2 ^ 63 - suc a

compare_same : (a b c d : ℕ) → (a < b → c < d) → (a ≡ b → c ≡ d) → (b < a → d < c) → compare a b ≡ compare c d
compare_same a b c d x y z = go (compare a b) refl
  where
    go : (o : Ordering) → compare a b ≡ o → compare a b ≡ compare c d
    go Ordering.lt e = e ∙ sym (lt→compare c d (x (compare→lt a b e)))
    go Ordering.eq e = e ∙ rw (y (compare-eq a b e)) (sym (compare_refl d))
    go Ordering.gt e = e ∙ sym (compare-flip d c ∙ ap flip (lt→compare d c (z (compare→gt a b e))))

pub off-cmp : (a b : ℤ) → mag a < 2 ^ 63 → mag b < 2 ^ 63 → order a b ≡ compare (off a) (off b)
unfolding off
off-cmp (pos a) (pos b) p q = compare_same a b (2 ^ 63 + a) (2 ^ 63 + b) (omega arith) (omega arith) (omega arith)
off-cmp (pos a) (negsuc b) p q = sym (compare-flip (2 ^ 63 - suc b) (2 ^ 63 + a) ∙ ap flip (lt→compare (2 ^ 63 - suc b) (2 ^ 63 + a) (omega arith)))
off-cmp (negsuc a) (pos b) p q = sym (lt→compare (2 ^ 63 - suc a) (2 ^ 63 + b) (omega arith))
off-cmp (negsuc a) (negsuc b) p q = compare_same b a (2 ^ 63 - suc a) (2 ^ 63 - suc b) (omega arith) (omega arith) (omega arith)
