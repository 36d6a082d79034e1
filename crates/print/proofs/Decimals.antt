-- Decimal prints, digit by digit from the back; how long they are.
use mathlib.Core.Path.{◌≡◌, refl, sym, ap, ◌∙◌}
use mathlib.Core.List.{List, [], ◌∷◌, ◌++◌, append_assoc}
use mathlib.Core.Bool.{Bool, true, false}
use Prim.Native.Nat.{ℕ, zero, suc, ◌+◌, ◌-◌, ◌*◌, ◌/◌, ◌%◌, ◌≤◌, ◌<◌}
use native.Mathlib.Omega.{arith}
use lib.Dec.{ltb}
use lib.ListN.{length, length-append}
use borrow.Author.Tests.{ltb-true, ltb-false, lt-ltb, le-ltb}
use Rattle.model.specs.Text.{decimal, digits_of}

-- the digits behind are only carried along
carried : (f n : ℕ) (tail : List ℕ) → digits_of f n tail ≡ digits_of f n [] ++ tail
carried zero n tail = refl
carried (suc f) n tail = go (ltb n 10) refl (carried f (n / 10) ((48 + n % 10) ∷ tail)) (carried f (n / 10) ((48 + n % 10) ∷ []))
  where
    go : (o : Bool) → ltb n 10 ≡ o
        → digits_of f (n / 10) ((48 + n % 10) ∷ tail) ≡ digits_of f (n / 10) [] ++ ((48 + n % 10) ∷ tail)
        → digits_of f (n / 10) ((48 + n % 10) ∷ []) ≡ digits_of f (n / 10) [] ++ ((48 + n % 10) ∷ [])
        → digits_of (suc f) n tail ≡ digits_of (suc f) n [] ++ tail
    go true e p q = rw (e, digits_of) refl
    go false e p q = rw (e, digits_of) (p ∙ sym (append_assoc (digits_of f (n / 10) []) ((48 + n % 10) ∷ []) tail) ∙ ap (λ l. l ++ tail) (sym q))

-- enough steps are enough
enough : (f g n : ℕ) (tail : List ℕ) → n ≤ f → n ≤ g → digits_of f n tail ≡ digits_of g n tail
enough zero zero n tail h k = refl
enough zero (suc g) n tail h k = let z : n ≡ 0 = omega arith in rw z refl
enough (suc f) zero n tail h k = let z : n ≡ 0 = omega arith in rw z refl
enough (suc f) (suc g) n tail h k = go (ltb n 10) refl (enough f g (n / 10) ((48 + n % 10) ∷ tail))
  where
    go : (o : Bool) → ltb n 10 ≡ o
        → (n / 10 ≤ f → n / 10 ≤ g → digits_of f (n / 10) ((48 + n % 10) ∷ tail) ≡ digits_of g (n / 10) ((48 + n % 10) ∷ tail))
        → digits_of (suc f) n tail ≡ digits_of (suc g) n tail
    go true e ih = rw (e, digits_of) refl
    go false e ih = let a : 10 ≤ n = ltb-false n 10 e in rw (e, digits_of) (ih (omega arith) (omega arith))

pub decimal-one : (n : ℕ) → n < 10 → decimal n ≡ (48 + n) ∷ []
decimal-one zero h = refl
decimal-one (suc n) h = rw (lt-ltb (suc n) 10 h, digits_of) refl

pub decimal-more : (n : ℕ) → 10 ≤ n → decimal n ≡ decimal (n / 10) ++ ((48 + n % 10) ∷ [])
decimal-more zero h = absurd (omega arith)
decimal-more (suc n) h =
    rw (le-ltb (suc n) 10 h, digits_of)
    (carried n (suc n / 10) ((48 + suc n % 10) ∷ []) ∙ ap (λ l. l ++ ((48 + suc n % 10) ∷ [])) (enough n (suc n / 10) (suc n / 10) [] (omega arith) (omega arith)))

-- a digit more behind a number that is not 0
pub decimal-behind : (n b : ℕ) → 1 ≤ n → 48 ≤ b → b ≤ 57 → decimal (n * 10 + (b - 48)) ≡ decimal n ++ (b ∷ [])
decimal-behind n b g h k =
    let q : (n * 10 + (b - 48)) / 10 ≡ n = omega arith in
    let r : 48 + (n * 10 + (b - 48)) % 10 ≡ b = omega arith in
    decimal-more (n * 10 + (b - 48)) (omega arith) ∙ rw (q, r) refl

-- lengths
pub length-one : (n : ℕ) → n < 10 → length (decimal n) ≡ 1
length-one n h = ap length (decimal-one n h)

pub length_more : (n : ℕ) → 10 ≤ n → length (decimal n) ≡ length (decimal (n / 10)) + 1
length_more n h = ap length (decimal-more n h) ∙ length-append (decimal (n / 10)) ((48 + n % 10) ∷ [])

-- 10 to so many and one more
power : ℕ → ℕ
power zero = 10
power (suc k) = 10 * power k

short : (k n : ℕ) → n < power k → length (decimal n) ≤ suc k
unfolding power
short zero n h = let e = length-one n h in omega arith
short (suc k) n h = go (ltb n 10) refl (short k (n / 10))
  where
    go : (o : Bool) → ltb n 10 ≡ o → (n / 10 < power k → length (decimal (n / 10)) ≤ suc k) → length (decimal n) ≤ suc (suc k)
    go true e ih = let d = length-one n (ltb-true n 10 e) in omega arith
    go false e ih =
        let m = length_more n (ltb-false n 10 e) in
        let i = ih (omega arith) in
        omega arith

pub decimal-short : (n : ℕ) → n < 18446744073709551616 → length (decimal n) ≤ 20
unfolding power
decimal-short n h = short 19 n (omega arith)

pub decimal-some : (n : ℕ) → 1 ≤ length (decimal n)
decimal-some n = go (ltb n 10) refl
  where
    go : (o : Bool) → ltb n 10 ≡ o → 1 ≤ length (decimal n)
    go true e = let d = length-one n (ltb-true n 10 e) in omega arith
    go false e = let m = length_more n (ltb-false n 10 e) in omega arith
