-- From signed numbers to their bits, their exact difference and its steps.
use Rattle.std.proofs.Common.{◌≡◌, ◌+◌, ◌-◌, ◌%◌, ◌^◌, ℤ, pos, negsuc, true, arith, w64, SFits, of_z, ltb-true, le-leb}
use lib.Signed.{lt_z, le_z}
use Rattle.std.specs.Int.{int_max, int_min}
use Rattle.std.proofs.lemmas.Bool.Decides.{nat_tests}
use Rattle.model.specs.Number.{difference}

-- the wrapped difference of the bits, the larger's less the smaller's, is the difference itself
pub wrapped : (a b : ℤ) → SFits w64 a → SFits w64 b → (of_z w64 (int_max a b) + (2 ^ 64 - of_z w64 (int_min a b))) % 2 ^ 64 ≡ difference a b
unfolding difference
wrapped (pos a) (pos b) fa fb = let f = fa.sfits in let g = fb.sfits in grind (arith, nat_tests)
wrapped (pos a) (negsuc b) fa fb = let f = fa.sfits in let g = fb.sfits in omega arith
wrapped (negsuc a) (pos b) fa fb = let f = fa.sfits in let g = fb.sfits in omega arith
wrapped (negsuc a) (negsuc b) fa fb = let f = fa.sfits in let g = fb.sfits in grind (arith, nat_tests)

-- which of two comes first is nothing to their difference
pub diff-sym : (a b : ℤ) → difference a b ≡ difference b a
unfolding difference
diff-sym (pos a) (pos b) = omega arith
diff-sym (pos a) (negsuc b) = omega arith
diff-sym (negsuc a) (pos b) = omega arith
diff-sym (negsuc a) (negsuc b) = omega arith

-- less is at most
pub lt-le : (a b : ℤ) → lt_z a b ≡ true → le_z a b ≡ true
lt-le (pos a) (pos b) t = le-leb a b (let h = ltb-true a b t in omega arith)
lt-le (pos a) (negsuc b) t = t
lt-le (negsuc a) (pos b) t = t
lt-le (negsuc a) (negsuc b) t = le-leb b a (let h = ltb-true b a t in omega arith)
