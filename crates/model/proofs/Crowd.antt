-- So many different slots among 1 to C are all of them.
use mathlib.Core.Path.{◌≡◌, refl, sym, ap}
use mathlib.Core.Logic.{◌⊎◌, inl, inr}
use mathlib.Core.List.Permᴰ
use mathlib.Core.List.{List, [], ◌∷◌, ◌++◌, Permᴰ}
use mathlib.Core.Bool.{Bool, true, false}
use Prim.Native.Nat.{ℕ, zero, suc, ◌+◌, ◌≤◌}
use native.Mathlib.Omega.{arith}
use lib.Dec.{eqb}
use lib.ListN.{length}
use borrow.Author.Tests.{eqb-true, eqb-false}
use Rattle.model.specs.Book.{up_from}
use Rattle.model.proofs.Lists.{Every, OnceEach, every-both, every_map, every-perm, once-perm, perm-length}

abbrev pub PermS : List ℕ → List ℕ → Type 0
PermS a b = Permᴰ a b

abbrev pub InPool : ℕ → ℕ → Type 0
InPool C s = (1 ≤ s) × (s ≤ C)

-- a number taken out of a list, or not there
pub pick : (x : ℕ) (xs : List ℕ) → ((ys : List ℕ) × PermS xs (x ∷ ys)) ⊎ Every (λ y. ¬ (y ≡ x)) xs
pick x [] = inr tt
pick x (y ∷ xs) = go (eqb y x) refl (pick x xs)
  where
    go : (o : Bool) → eqb y x ≡ o → (((ys : List ℕ) × PermS xs (x ∷ ys)) ⊎ Every (λ y. ¬ (y ≡ x)) xs) → (((ys : List ℕ) × PermS (y ∷ xs) (x ∷ ys)) ⊎ Every (λ y. ¬ (y ≡ x)) (y ∷ xs))
    go true e r = inl (xs, Permᴰ.cons (eqb-true y x e) (Permᴰ.refl xs))
    go false e (inl (ys, p)) = inl ((y ∷ ys), Permᴰ.trans (Permᴰ.cons refl p) (Permᴰ.swap refl refl))
    go false e (inr h) = inr (eqb-false y x e, h)

up-last : (n s : ℕ) → up_from (suc n) s ≡ up_from n s ++ ((s + n) ∷ [])
unfolding up_from
up-last zero s = let e : s + 0 ≡ s = omega arith in rw e refl
up-last (suc n) s = let e : s + suc n ≡ suc s + n = omega arith in rw e (ap (λ x. s ∷ x) (up-last n (suc s)))

pub up-length : (n s : ℕ) → length (up_from n s) ≡ n
unfolding up_from
up-length zero s = refl
up-length (suc n) s = ap suc (up-length n (suc s))

up_turn : (n : ℕ) → PermS (suc n ∷ up_from n 1) (up_from (suc n) 1)
unfolding up_from
up_turn n =
    let e : 1 + n ≡ suc n = omega arith in
    rw (up-last n 1, e) (Permᴰ.symm (Permᴰ.trans (Permᴰ.middle (suc n) (up_from n 1) []) (Permᴰ.cons refl (rw nil-right (Permᴰ.refl (up_from n 1))))))
  where
    nil-right : up_from n 1 ++ [] ≡ up_from n 1
    nil-right = mathlib.Core.List.append-nil (up_from n 1)

pub crowd : (C : ℕ) (xs : List ℕ) → OnceEach xs → Every (InPool C) xs → C ≤ length xs → PermS xs (up_from C 1)
unfolding up_from
crowd zero [] o p h = Permᴰ.nil
crowd zero (x ∷ xs) o (p, ps) h = absurd (omega arith)
crowd (suc C) xs o p h = go (λ ys a b c. crowd C ys a b c) (pick (suc C) xs)
  where
    lower : (ys : List ℕ) → Every (InPool (suc C)) ys → Every (λ y. ¬ (y ≡ suc C)) ys → Every (InPool C) ys
    lower ys g k = every-both (InPool (suc C)) (λ y. ¬ (y ≡ suc C)) (InPool C) (λ y a b. (a.0, omega arith)) ys g k

    go : ((ys : List ℕ) → OnceEach ys → Every (InPool C) ys → C ≤ length ys → PermS ys (up_from C 1)) → (((ys : List ℕ) × PermS xs (suc C ∷ ys)) ⊎ Every (λ y. ¬ (y ≡ suc C)) xs) → PermS xs (up_from (suc C) 1)
    go ih (inl (ys, q)) =
        let o' = once-perm q o in
        let p' = every-perm (InPool (suc C)) q p in
        let n : length xs ≡ suc (length ys) = perm-length q in
        Permᴰ.trans q (Permᴰ.trans (Permᴰ.cons refl (ih ys o'.1 (lower ys p'.1 (every_map (λ y. ¬ (suc C ≡ y)) (λ y. ¬ (y ≡ suc C)) (λ y k e. k (sym e)) ys o'.0)) (omega arith))) (up_turn C))
    go ih (inr k) =
        let e : length xs ≡ length (up_from C 1) = perm-length (ih xs o (lower xs p k) (omega arith)) in
        let u : length (up_from C 1) ≡ C = up-length C 1 in
        absurd (omega arith)
