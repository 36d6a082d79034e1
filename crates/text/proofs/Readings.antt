-- What each test on the first byte of what is left tells of its strict reading.
use mathlib.Core.Path.{◌≡◌, refl, sym, ap, ap₂, ◌∙◌}
use mathlib.Core.List.{List, [], ◌∷◌}
use mathlib.Core.Option.{Option, none, some}
use mathlib.Core.Bool.{Bool, true, false, ◌&&◌}
use Prim.Native.Nat.{ℕ, zero, suc, ◌+◌, ◌-◌, ◌*◌, ◌≤◌, ◌<◌}
use native.Mathlib.Omega.{arith}
use lib.Dec.{eqb, leb}
use lib.IntN.{ℤ, pos}
use lib.ListN.{length, get_or}
use borrow.Author.Tests.{eq-eqb, eqb-false, eqb-true, ne_eqb, le-leb, leb-true, lt-leb, lt-ltb, le-ltb}
use mir.Syntax.{w64}
use mir.Val.{SFits, to_z, of_z}
use mir.ValLaws.{to_z-of_z}
use Rattle.std.proofs.Common.{inl, inr, Result, Ok, Err, Some, None}
use Rattle.std.specs.Result.{OkIff, result_ok}
use Rattle.std.proofs.lemmas.Bool.{cases_lt}
use Rattle.model.specs.Text.{minus}
use Rattle.model.proofs.Trees.{both, pair}
use Rattle.text.specs.Strict.{Decimally, above, below, capped, decimal_at, grown, number_at, small}
use Rattle.std.specs.List.{between}
use Rattle.std.proofs.lemmas.Slice.{first_rest}
use Rattle.print.proofs.Signs.{minus-back}

pub unsome : {A : Type 0} {x y : A} → some x ≡ some y → x ≡ y
unsome h = cc

pub not_none : {A X : Type 0} {x : A} → ◌≡◌ {A = Option A} none (some x) → X
not_none h = let z : ◌≡◌ {A = ℕ} 0 1 = cc in absurd (omega arith)

pub left_false : (a b : Bool) → a ≡ false → (a && b) ≡ false
left_false a b h = rw h refl

pub right-false : (a b : Bool) → b ≡ false → (a && b) ≡ false
right-false true b h = h
right-false false b h = refl

digit-yes : (b : ℕ) → 48 ≤ b → b ≤ 57 → (leb 48 b && leb b 57) ≡ true
digit-yes b g h = pair (le-leb 48 b g) (le-leb b 57 h)

no_digit : (b : ℕ) → (48 ≤ b → b ≤ 57 → ⊥) → (leb 48 b && leb b 57) ≡ false
no_digit b n = go (leb 48 b) refl (leb b 57) refl
  where
    go : (o : Bool) → leb 48 b ≡ o → (t : Bool) → leb b 57 ≡ t → (leb 48 b && leb b 57) ≡ false
    go false x t y = left_false (leb 48 b) (leb b 57) x
    go true x false y = right-false (leb 48 b) (leb b 57) y
    go true x true y = absurd (n (leb-true 48 b x) (leb-true b 57 y))

-- a digit more
pub grown-cap : (n d : ℕ) → 922337203685477580 < n → grown n d ≡ 9223372036854775809
unfolding grown
grown-cap n d h = rw (lt-ltb 922337203685477580 n h, grown) refl

pub grown-more : (n d : ℕ) → n ≤ 922337203685477580 → grown n d ≡ n * 10 + d
unfolding grown
grown-more n d h = rw (le-ltb 922337203685477580 n h, grown) refl

-- digits
pub capped-stop : (b n : ℕ) (bs : List ℕ) → (leb 48 b && leb b 57) ≡ false → capped (b ∷ bs) n ≡ (n, b ∷ bs)
unfolding capped
capped-stop b n bs h = rw (h, capped) refl

pub capped-step : (b n : ℕ) (bs : List ℕ) → 48 ≤ b → b ≤ 57 → capped (b ∷ bs) n ≡ capped bs (grown n (b - 48))
unfolding capped
capped-step b n bs g h = rw (digit-yes b g h, capped) refl

-- a turn over what is left, and its end
module _ (text left : List ℕ) (value sum : ℕ) (inv : capped text value ≡ capped left sum) where
  pub digits-on : (more : ℕ) → 1 ≤ length left → 48 ≤ get_or left 0 0 → get_or left 0 0 ≤ 57 → more ≡ grown sum (get_or left 0 0 - 48) → capped text value ≡ capped (between 1 (length left) left) more
  digits-on more h a b e = inv ∙ ap (λ l. capped l sum) (first_rest left 0 h) ∙ capped-step (get_or left 0 0) sum (between 1 (length left) left) a b ∙ rw e refl

  pub digits-off : (1 ≤ length left → 48 ≤ get_or left 0 0 → get_or left 0 0 ≤ 57 → ⊥) → capped text value ≡ (sum, left)
  unfolding capped
  digits-off n = inv ∙ off left n
    where
      off : (l : List ℕ) → (1 ≤ length l → 48 ≤ get_or l 0 0 → get_or l 0 0 ≤ 57 → ⊥) → capped l sum ≡ (sum, l)
      off [] n = refl
      off (b ∷ bs) n = capped-stop b sum bs (no_digit b (n (omega arith)))

-- a decimal
pub zero-at : (b : ℕ) (bs : List ℕ) → b ≡ 48 → decimal_at (b ∷ bs) ≡ some (0, bs)
unfolding decimal_at
zero-at b bs h = rw (eq-eqb b 48 h, decimal_at) refl

none-at : (b : ℕ) (bs : List ℕ) → (b ≡ 48 → ⊥) → (leb 48 b && leb b 57) ≡ false → decimal_at (b ∷ bs) ≡ none
unfolding decimal_at
none-at b bs h e = rw (ne_eqb b 48 h, decimal_at) (rw e refl)

pub some_at : (b : ℕ) (bs : List ℕ) → (b ≡ 48 → ⊥) → 48 ≤ b → b ≤ 57 → decimal_at (b ∷ bs) ≡ small (capped bs (b - 48))
unfolding decimal_at
some_at b bs h l r = rw (ne_eqb b 48 h, decimal_at) (rw (digit-yes b l r) refl)

pub decimal-zero : (text : List ℕ) → 1 ≤ length text → get_or text 0 0 ≡ 48 → some (0, between 1 (length text) text) ≡ decimal_at text
decimal-zero text h e = sym (ap decimal_at (first_rest text 0 h) ∙ zero-at (get_or text 0 0) (between 1 (length text) text) e)

pub decimal-none : (text : List ℕ) → (1 ≤ length text → 48 ≤ get_or text 0 0 → get_or text 0 0 ≤ 57 → ⊥) → none ≡ decimal_at text
unfolding decimal_at
decimal-none [] n = refl
decimal-none (b ∷ bs) n = sym (none-at b bs (λ e. n (omega arith) (omega arith) (omega arith)) (no_digit b (n (omega arith))))

module _ (text : List ℕ) (h : 1 ≤ length text) (l : 49 ≤ get_or text 0 0) (r : get_or text 0 0 ≤ 57)
    (digit value : ℕ) (rest : List ℕ) (d : digit ≡ get_or text 0 0 - 48) (e : capped (between 1 (length text) text) digit ≡ (value, rest)) where
  through : decimal_at text ≡ small (value, rest)
  through =
      ap decimal_at (first_rest text 0 h)
      ∙ some_at (get_or text 0 0) (between 1 (length text) text) (λ z. omega arith) (omega arith) r
      ∙ ap small (ap (capped (between 1 (length text) text)) (sym d) ∙ e)

  pub decimal-big : 9223372036854775808 < value → none ≡ decimal_at text
  decimal-big g = sym (through ∙ rw (lt-leb value 9223372036854775808 g, small) refl)

  pub decimal-is : value ≤ 9223372036854775808 → some (value, rest) ≡ decimal_at text
  decimal-is g = sym (through ∙ rw (le-leb value 9223372036854775808 g, small) refl)

small-bound : (d : ℕ × List ℕ) (v : ℕ) (r : List ℕ) → small d ≡ some (v, r) → (d ≡ (v, r)) × (v ≤ 9223372036854775808)
small-bound d v r e = go (leb d.0 9223372036854775808) refl
  where
    go : (o : Bool) → leb d.0 9223372036854775808 ≡ o → (d ≡ (v, r)) × (v ≤ 9223372036854775808)
    go true q =
        let w : d ≡ (v, r) = unsome (rw (q, small) at e) in
        let b = leb-true d.0 9223372036854775808 q in
        (w, rw (ap (λ (x : ℕ × List ℕ). x.0) w) at b)
    go false q = not_none (rw (q, small) at e)

-- what a decimal that was read is: a lone 0, or digits that begin with another
pub decimal-by : (P : Type 0) (bs : List ℕ) (v : ℕ) (r : List ℕ) → decimal_at bs ≡ some (v, r)
    → (bs ≡ 48 ∷ r → v ≡ 0 → P)
    → ((b : ℕ) (cs : List ℕ) → bs ≡ b ∷ cs → 49 ≤ b → b ≤ 57 → capped cs (b - 48) ≡ (v, r) → v ≤ 9223372036854775808 → P)
    → P
unfolding decimal_at
decimal-by P [] v r e p q = not_none e
decimal-by P (b ∷ bs) v r e p q = go (eqb b 48) refl (leb 48 b && leb b 57) refl
  where
    go : (o : Bool) → eqb b 48 ≡ o → (t : Bool) → (leb 48 b && leb b 57) ≡ t → P
    go true x t y =
        let w : ◌≡◌ {A = ℕ × List ℕ} (0, bs) (v, r) = unsome (sym (zero-at b bs (eqb-true b 48 x)) ∙ e) in
        p (ap₂ (λ h l. h ∷ l) (eqb-true b 48 x) (ap (λ (d : ℕ × List ℕ). d.1) w)) (sym (ap (λ (d : ℕ × List ℕ). d.0) w))
    go false x true y =
        let t = both (leb 48 b) (leb b 57) y in
        let n = eqb-false b 48 x in
        let l = leb-true 48 b t.0 in
        let h = leb-true b 57 t.1 in
        let w = small-bound (capped bs (b - 48)) v r (sym (some_at b bs n l h) ∙ e) in
        q b bs refl (above_zero n l) h w.0 w.1
      where
        above_zero : (b ≡ 48 → ⊥) → 48 ≤ b → 49 ≤ b
        above_zero n l = omega arith
    go false x false y = not_none (sym (none-at b bs (eqb-false b 48 x) y) ∙ e)

pub decimal-bound : (bs : List ℕ) (v : ℕ) (r : List ℕ) → decimal_at bs ≡ some (v, r) → v ≤ 9223372036854775808
decimal-bound bs v r e = decimal-by (v ≤ 9223372036854775808) bs v r e (λ x y. omega arith) (λ b cs x y z w h. h)

-- a signed number
pub minus-at : (b : ℕ) (bs : List ℕ) → b ≡ 45 → number_at (b ∷ bs) ≡ below (decimal_at bs)
unfolding number_at
minus-at b bs h = rw (eq-eqb b 45 h, number_at) refl

pub plain_at : (b : ℕ) (bs : List ℕ) → (b ≡ 45 → ⊥) → number_at (b ∷ bs) ≡ above (decimal_at (b ∷ bs))
unfolding number_at
plain_at b bs h = rw (ne_eqb b 45 h, number_at) refl

pub below-is : (v : ℕ) (r : List ℕ) → 1 ≤ v → below (some (v, r)) ≡ some (minus v, r)
unfolding below
below-is zero r h = absurd (omega arith)
below-is (suc v) r h = refl

pub above-is : (v : ℕ) (r : List ℕ) → v < 9223372036854775808 → above (some (v, r)) ≡ some (pos v, r)
unfolding above
above-is v r h = rw (lt-ltb v 9223372036854775808 h, above) refl

above-big : (v : ℕ) (r : List ℕ) → 9223372036854775808 ≤ v → above (some (v, r)) ≡ none
unfolding above
above-big v r h = rw (le-ltb v 9223372036854775808 h, above) refl

module _ (text : List ℕ) (h : 1 ≤ length text) (m : get_or text 0 0 ≡ 45) (o : Decimally) (e : o ≡ decimal_at (between 1 (length text) text)) where
  minus-through : below o ≡ number_at text
  minus-through = ap below e ∙ sym (ap number_at (first_rest text 0 h) ∙ minus-at (get_or text 0 0) (between 1 (length text) text) m)

  pub minus-none : o ≡ none → none ≡ number_at text
  unfolding below
  minus-none q = sym (ap below q) ∙ minus-through

  module _ (value : ℕ) (rest : List ℕ) (q : o ≡ some (value, rest)) where
    pub minus-small : value ≤ 9223372036854775808
    minus-small = decimal-bound (between 1 (length text) text) value rest (sym e ∙ q)

    pub minus-zero : value ≡ 0 → none ≡ number_at text
    unfolding below
    minus-zero z = rw z at (sym (ap below q) ∙ minus-through)

    pub minus_is : (value ≡ 0 → ⊥) → (x : ℤ) → x ≡ minus value → some (to_z w64 (of_z w64 x), rest) ≡ number_at text
    minus_is z x f =
        let b : to_z w64 (of_z w64 x) ≡ minus value = ap (λ y. to_z w64 (of_z w64 y)) f ∙ minus-back value minus-small in
        rw b (sym (below-is value rest (omega arith)) ∙ sym (ap below q) ∙ minus-through)

-- whether a value has an i64, as the machine tells it
module _ {E : Type 0} (v : ℕ) where
  too_big : (r : Result ℤ E) → OkIff r (SFits w64 (pos v)) (pos v) → result_ok r ≡ None → 9223372036854775808 ≤ v
  too_big (Ok x) k z = cc
  too_big (Err e) k z = elim (cases_lt v 9223372036854775808) [ inl l ↦ absurd (k (record { sfits = l })) | inr g ↦ g ]

  fits : (r : Result ℤ E) (x : ℤ) → OkIff r (SFits w64 (pos v)) (pos v) → result_ok r ≡ Some x → (x ≡ pos v) × (v < 9223372036854775808)
  fits (Ok y) x k z = let f = k.0.sfits in (cc, f)
  fits (Err e) x k z = cc

module _ (text : List ℕ) (m : 1 ≤ length text → get_or text 0 0 ≡ 45 → ⊥) (o : Decimally) (e : o ≡ decimal_at text) where
  plain-through : above o ≡ number_at text
  unfolding number_at decimal_at above
  plain-through = ap above e ∙ sym (plain text m)
    where
      plain : (l : List ℕ) → (1 ≤ length l → get_or l 0 0 ≡ 45 → ⊥) → number_at l ≡ above (decimal_at l)
      plain [] n = refl
      plain (b ∷ bs) n = plain_at b bs (n (omega arith))

  pub plain-none : o ≡ none → none ≡ number_at text
  unfolding above
  plain-none q = sym (ap above q) ∙ plain-through

  module _ (value : ℕ) (rest : List ℕ) (q : o ≡ some (value, rest)) where
    pub plain-big : {E : Type 0} (r : Result ℤ E) → OkIff r (SFits w64 (pos value)) (pos value) → result_ok r ≡ None → none ≡ number_at text
    plain-big r k z = sym (above-big value rest (too_big value r k z)) ∙ sym (ap above q) ∙ plain-through

    pub plain-is : {E : Type 0} (r : Result ℤ E) (x : ℤ) → OkIff r (SFits w64 (pos value)) (pos value) → result_ok r ≡ Some x → some (to_z w64 (of_z w64 x), rest) ≡ number_at text
    plain-is r x k z =
        let f = fits value r x k z in
        let b : to_z w64 (of_z w64 x) ≡ pos value = rw f.0 (to_z-of_z w64 (pos value) (record { sfits = f.1 })) in
        rw b (sym (above-is value rest f.1) ∙ sym (ap above q) ∙ plain-through)
