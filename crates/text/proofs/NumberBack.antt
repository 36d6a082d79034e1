-- A number that is read strictly was so written, and what is written is read strictly.
use mathlib.Core.Path.{◌≡◌, refl, sym, ap, ap₂, ◌∙◌}
use mathlib.Core.List.{List, [], ◌∷◌, ◌++◌, append_assoc}
use mathlib.Core.Option.{none, some}
use mathlib.Core.Bool.{Bool, true, false, ◌&&◌}
use Prim.Native.Nat.{ℕ, zero, suc, ◌+◌, ◌-◌, ◌*◌, ◌/◌, ◌%◌, ◌≤◌, ◌<◌}
use native.Mathlib.Omega.{arith}
use lib.Dec.{eqb, leb, ltb}
use lib.IntN.{ℤ, pos, negsuc}
use borrow.Author.Tests.{eqb-false, eqb-true, le-leb, leb-true, lt-ltb, ltb-false, ltb-true}
use Rattle.model.specs.Number.{in_range}
use Rattle.model.specs.Text.{decimal, digits, signed}
use Rattle.model.proofs.Prints.{decimal-back, digit-step}
use Rattle.model.proofs.Trees.{both}
use Rattle.text.specs.Strict.{Decimally, above, below, capped, decimal_at, grown, number_at, small}
use Rattle.print.proofs.Decimals.{decimal-behind, decimal-more, decimal-one}
use Rattle.text.proofs.Readings.{above-is, below-is, capped-step, capped-stop, decimal-by, grown-cap, grown-more, minus-at, not_none, plain_at, some_at, unsome, zero-at}

-- what cannot go on a number
abbrev pub Stops : List ℕ → Type 0
Stops [] = Unit {0}
Stops (b ∷ bs) = b < 48

-- the model's reading of digits
digits-stop : (b n : ℕ) (bs : List ℕ) → (leb 48 b && leb b 57) ≡ false → digits (b ∷ bs) n ≡ (n, b ∷ bs)
digits-stop b n bs h = rw (h, digits) refl

-- n, and what is kept of it: the same, unless both are too large
abbrev Kept : ℕ → ℕ → Type 0
Kept n m = (m < 9223372036854775809 → n ≡ m) × (n < 9223372036854775809 → n ≡ m)

kept_on : (n m d : ℕ) → d ≤ 9 → Kept n m → Kept (n * 10 + d) (grown m d)
kept_on n m d h (p, q) = go (ltb 922337203685477580 m) refl
  where
    go : (o : Bool) → ltb 922337203685477580 m ≡ o → Kept (n * 10 + d) (grown m d)
    go true e =
        let g = ltb-true 922337203685477580 m e in
        rw (grown-cap m d g) ((λ x. absurd (omega arith)), (λ x. let y = q (omega arith) in absurd (omega arith)))
    go false e =
        let g = ltb-false 922337203685477580 m e in
        let y = p (omega arith) in
        rw (grown-more m d g) ((λ x. omega arith), (λ x. omega arith))

Both : List ℕ → ℕ → ℕ → Type 0
Both bs n m = ((digits bs n).1 ≡ (capped bs m).1) × Kept (digits bs n).0 (capped bs m).0

capped-kept : (bs : List ℕ) (n m : ℕ) → Kept n m → Both bs n m
unfolding Both capped
capped-kept [] n m k = (refl, k)
capped-kept (b ∷ bs) n m k = go (leb 48 b && leb b 57) refl (λ d h. capped-kept bs (n * 10 + d) (grown m d) (kept_on n m d h k))
  where
    go : (o : Bool) → (leb 48 b && leb b 57) ≡ o → ((d : ℕ) → d ≤ 9 → Both bs (n * 10 + d) (grown m d)) → Both (b ∷ bs) n m
    go true e ih =
        let t = both (leb 48 b) (leb b 57) e in
        let g = leb-true 48 b t.0 in
        let h = leb-true b 57 t.1 in
        rw (digit-step b n bs g h, capped-step b m bs g h) (ih (b - 48) (omega arith))
    go false e ih = rw (digits-stop b n bs e, capped-stop b m bs e) (refl, k)

-- both read the same, where either stays small
same_digits : (bs : List ℕ) (n v : ℕ) (r : List ℕ) → v ≤ 9223372036854775808 → capped bs n ≡ (v, r) → digits bs n ≡ (v, r)
unfolding Both
same_digits bs n v r h e =
    let k = capped-kept bs n n ((λ x. refl), (λ x. refl)) in
    let a : (capped bs n).0 ≡ v = ap (λ (d : ℕ × List ℕ). d.0) e in
    let b : (capped bs n).1 ≡ r = ap (λ (d : ℕ × List ℕ). d.1) e in
    ap₂ {C = ℕ × List ℕ} (λ x y. (x, y)) (k.1.0 (omega arith) ∙ a) (k.0 ∙ b)

same-capped : (bs : List ℕ) (n v : ℕ) (r : List ℕ) → v ≤ 9223372036854775808 → digits bs n ≡ (v, r) → capped bs n ≡ (v, r)
unfolding Both
same-capped bs n v r h e =
    let k = capped-kept bs n n ((λ x. refl), (λ x. refl)) in
    let a : (digits bs n).0 ≡ v = ap (λ (d : ℕ × List ℕ). d.0) e in
    let b : (digits bs n).1 ≡ r = ap (λ (d : ℕ × List ℕ). d.1) e in
    ap₂ {C = ℕ × List ℕ} (λ x y. (x, y)) (sym (k.1.1 (omega arith)) ∙ a) (sym k.0 ∙ b)

-- digits behind a number that is not 0 are its own print's
digits-print : (bs : List ℕ) (w : ℕ) → 1 ≤ w → decimal (digits bs w).0 ++ (digits bs w).1 ≡ decimal w ++ bs
digits-print [] w h = refl
digits-print (b ∷ bs) w h = go (leb 48 b && leb b 57) refl (λ d. digits-print bs (w * 10 + d))
  where
    go : (o : Bool) → (leb 48 b && leb b 57) ≡ o
        → ((d : ℕ) → 1 ≤ w * 10 + d → decimal (digits bs (w * 10 + d)).0 ++ (digits bs (w * 10 + d)).1 ≡ decimal (w * 10 + d) ++ bs)
        → decimal (digits (b ∷ bs) w).0 ++ (digits (b ∷ bs) w).1 ≡ decimal w ++ (b ∷ bs)
    go true e ih =
        let t = both (leb 48 b) (leb b 57) e in
        let g = leb-true 48 b t.0 in
        let l = leb-true b 57 t.1 in
        ap (λ (d : ℕ × List ℕ). decimal d.0 ++ d.1) (digit-step b w bs g l)
        ∙ ih (b - 48) (omega arith)
        ∙ ap (λ x. x ++ bs) (decimal-behind w b h g l)
        ∙ append_assoc (decimal w) (b ∷ []) bs
    go false e ih = ap (λ (d : ℕ × List ℕ). decimal d.0 ++ d.1) (digits-stop b w bs e)

pub decimal-sound : (bs : List ℕ) (v : ℕ) (r : List ℕ) → decimal_at bs ≡ some (v, r) → (bs ≡ decimal v ++ r) × (v ≤ 9223372036854775808)
decimal-sound bs v r e = decimal-by ((bs ≡ decimal v ++ r) × (v ≤ 9223372036854775808)) bs v r e (λ x y. (rw y x, omega arith)) on
  where
    on : (b : ℕ) (cs : List ℕ) → bs ≡ b ∷ cs → 49 ≤ b → b ≤ 57 → capped cs (b - 48) ≡ (v, r) → v ≤ 9223372036854775808 → (bs ≡ decimal v ++ r) × (v ≤ 9223372036854775808)
    on b cs x l h c s =
        let d : digits cs (b - 48) ≡ (v, r) = same_digits cs (b - 48) v r s c in
        let p : decimal v ++ r ≡ decimal (b - 48) ++ cs = ap (λ (z : ℕ × List ℕ). decimal z.0 ++ z.1) (sym d) ∙ digits-print cs (b - 48) (omega arith) in
        let o : decimal (b - 48) ≡ (48 + (b - 48)) ∷ [] = decimal-one (b - 48) (omega arith) in
        let w : 48 + (b - 48) ≡ b = omega arith in
        (x ∙ sym (p ∙ rw (o, w) refl), s)

-- the first digit of a number that is not 0
pub record Head (l : List ℕ) : Type 0 where
  pub first : ℕ
  pub rest : List ℕ
  pub is : l ≡ first ∷ rest
  pub low : 49 ≤ first
  pub high : first ≤ 57

head_of : (f n : ℕ) → n ≤ f → 1 ≤ n → Head (decimal n)
head_of zero n g h = absurd (omega arith)
head_of (suc f) n g h = go (ltb n 10) refl (head_of f (n / 10))
  where
    go : (o : Bool) → ltb n 10 ≡ o → (n / 10 ≤ f → 1 ≤ n / 10 → Head (decimal (n / 10))) → Head (decimal n)
    go true e ih =
        let l = ltb-true n 10 e in
        record { first = 48 + n; rest = []; is = decimal-one n l; low = omega arith; high = omega arith }
    go false e ih =
        let l = ltb-false n 10 e in
        let i = ih (omega arith) (omega arith) in
        record {
          first = i.first;
          rest = i.rest ++ ((48 + n % 10) ∷ []);
          is = decimal-more n l ∙ ap (λ x. x ++ ((48 + n % 10) ∷ [])) i.is;
          low = i.low;
          high = i.high;
        }

pub decimal-complete : (v : ℕ) (r : List ℕ) → v ≤ 9223372036854775808 → Stops r → decimal_at (decimal v ++ r) ≡ some (v, r)
decimal-complete zero r h s = zero-at 48 r refl
decimal-complete (suc v) r h s =
    let i = head_of (suc v) (suc v) (omega arith) (omega arith) in
    let b = i.first in
    let l : 48 ≤ b = let x = i.low in omega arith in
    let n : (b ≡ 48 → ⊥) = λ e. let x = i.low in omega arith in
    let z : 0 * 10 + (b - 48) ≡ b - 48 = omega arith in
    let p : decimal (suc v) ++ r ≡ b ∷ (i.rest ++ r) = ap (λ x. x ++ r) i.is in
    let q : digits (b ∷ (i.rest ++ r)) 0 ≡ (suc v, r) = ap (λ x. digits x 0) (sym p) ∙ decimal-back (suc v) r s in
    let d : digits (i.rest ++ r) (b - 48) ≡ (suc v, r) = ap (digits (i.rest ++ r)) (sym z) ∙ sym (digit-step b 0 (i.rest ++ r) l i.high) ∙ q in
    let c : capped (i.rest ++ r) (b - 48) ≡ (suc v, r) = same-capped (i.rest ++ r) (b - 48) (suc v) r h d in
    ap decimal_at p ∙ some_at b (i.rest ++ r) n l i.high ∙ ap small c ∙ rw (le-leb (suc v) 9223372036854775808 h, small) refl

-- signed numbers
below-sound : (o : Decimally) (x : ℤ) (r : List ℕ) → below o ≡ some (x, r) → ((v : ℕ) → o ≡ some (v, r) → v ≤ 9223372036854775808) → (v : ℕ) × (o ≡ some (v, r)) × (45 ∷ decimal v ≡ signed x) × (in_range x ≡ true)
unfolding below
below-sound none x r e h = not_none e
below-sound (some (zero, s)) x r e h = not_none e
below-sound (some (suc n, s)) x r e h =
    let w : ◌≡◌ {A = ℤ × List ℕ} (negsuc n, s) (x, r) = unsome e in
    let a : negsuc n ≡ x = ap (λ (d : ℤ × List ℕ). d.0) w in
    let b : s ≡ r = ap (λ (d : ℤ × List ℕ). d.1) w in
    let l = h (suc n) (rw b refl) in
    (suc n, rw b refl, ap signed a, ap in_range (sym a) ∙ lt-ltb n 9223372036854775808 (omega arith))

above-sound : (o : Decimally) (x : ℤ) (r : List ℕ) → above o ≡ some (x, r) → (v : ℕ) × (o ≡ some (v, r)) × (decimal v ≡ signed x) × (in_range x ≡ true)
unfolding above
above-sound none x r e = not_none e
above-sound (some (n, s)) x r e = go (ltb n 9223372036854775808) refl
  where
    go : (t : Bool) → ltb n 9223372036854775808 ≡ t → (v : ℕ) × (◌≡◌ {A = Decimally} (some (n, s)) (some (v, r))) × (decimal v ≡ signed x) × (in_range x ≡ true)
    go true q =
        let w : ◌≡◌ {A = ℤ × List ℕ} (pos n, s) (x, r) = unsome (rw (q, above) at e) in
        let a : pos n ≡ x = ap (λ (d : ℤ × List ℕ). d.0) w in
        let b : s ≡ r = ap (λ (d : ℤ × List ℕ). d.1) w in
        (n, rw b refl, ap signed a, ap in_range (sym a) ∙ q)
    go false q = not_none (rw (q, above) at e)

pub number-sound : (bs : List ℕ) (x : ℤ) (r : List ℕ) → number_at bs ≡ some (x, r) → (bs ≡ signed x ++ r) × (in_range x ≡ true)
unfolding number_at
number-sound [] x r e = not_none e
number-sound (b ∷ bs) x r e = go (eqb b 45) refl
  where
    go : (o : Bool) → eqb b 45 ≡ o → (b ∷ bs ≡ signed x ++ r) × (in_range x ≡ true)
    go true q =
        let m = eqb-true b 45 q in
        let w = below-sound (decimal_at bs) x r (sym (minus-at b bs m) ∙ e) (λ v y. (decimal-sound bs v r y).1) in
        (ap₂ (λ h l. h ∷ l) m (decimal-sound bs w.0 r w.1).0 ∙ ap (λ l. l ++ r) w.2, w.3)
    go false q =
        let w = above-sound (decimal_at (b ∷ bs)) x r (sym (plain_at b bs (eqb-false b 45 q)) ∙ e) in
        ((decimal-sound (b ∷ bs) w.0 r w.1).0 ∙ ap (λ l. l ++ r) w.2, w.3)

pub number-complete : (x : ℤ) (r : List ℕ) → in_range x ≡ true → Stops r → number_at (signed x ++ r) ≡ some (x, r)
number-complete (pos zero) r h s = plain_at 48 r (λ e. omega arith) ∙ ap above (zero-at 48 r refl) ∙ above-is 0 r (omega arith)
number-complete (pos (suc n)) r h s =
    let l = ltb-true (suc n) 9223372036854775808 h in
    let i = head_of (suc n) (suc n) (omega arith) (omega arith) in
    let p : decimal (suc n) ++ r ≡ i.first ∷ (i.rest ++ r) = ap (λ x. x ++ r) i.is in
    ap number_at p
    ∙ plain_at i.first (i.rest ++ r) (λ e. let x = i.low in omega arith)
    ∙ ap above (ap decimal_at (sym p) ∙ decimal-complete (suc n) r (omega arith) s)
    ∙ above-is (suc n) r l
number-complete (negsuc n) r h s =
    let l = ltb-true n 9223372036854775808 h in
    minus-at 45 (decimal (suc n) ++ r) refl ∙ ap below (decimal-complete (suc n) r (omega arith) s) ∙ below-is (suc n) r (omega arith)
