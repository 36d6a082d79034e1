-- Reading strictly gives the verdict of the model.
use mathlib.Core.Path.{◌≡◌, refl, sym, ap, ◌∙◌}
use mathlib.Core.List.{List, [], ◌∷◌, ◌++◌}
use mathlib.Core.Option.{Option, none, some}
use mathlib.Core.Bool.{Bool, true, false}
use Prim.Native.Nat.{ℕ, zero, suc, ◌+◌, ◌-◌, ◌≤◌, ◌<◌}
use native.Mathlib.Omega.{arith}
use lib.Dec.{eqb, ltb}
use lib.ListN.{length, get_or, drop, length-append}
use borrow.Author.Tests.{eq-eqb, eqb-false, eqb-true, ltb-false, ne_eqb}
use Rattle.model.specs.Entry.{Entry}
use Rattle.model.specs.Text.{Parsed, body, broken, cut_line, entry_of_line, following, pairs, rises, saved}
use Rattle.model.proofs.Prints.{Parted, cut-back, cut-join, entry-back, entry-line, pairs-high}
use Rattle.model.proofs.Texts.{body-by, body-step, line-length}
use Rattle.text.specs.Strict.{line_at}
use Rattle.std.proofs.Common.{Result, Ok, Err, Some}
use Rattle.std.proofs.lemmas.List.Quantifiers.{position-Some}
use Rattle.std.specs.List.{between, position, position_or_len}
use Rattle.std.specs.Option.{IsSome}
use Rattle.std.proofs.lemmas.List.Sums.{fails_before_first}
use Rattle.std.proofs.lemmas.List.{get_or_at}
use Rattle.std.proofs.lemmas.Slice.{between_to_end}
use Rattle.text.specs.Told.{summed, Stands}
use Rattle.text.specs.declared.title.Title.{Title}
use Rattle.text.specs.declared.Broken.{Broken}
use Rattle.text.proofs.LineBack.{line-stands, stands-line}
use Rattle.text.proofs.Readings.{not_none, unsome}

-- the error of a `?`
pub same_err : {A E : Type 0} {x y : E} → ◌≡◌ {A = Result A E} (Err x) (Err y) → x ≡ y
same_err h = cc

-- the first LF
pub cut-first : (text : List ℕ) (i : ℕ) → i < length text → get_or text i 0 ≡ 10 → ((k : ℕ) → k < i → get_or text k 0 ≡ 10 → ⊥)
    → (c : Parted) → cut_line text ≡ some c → drop (i + 1) text ≡ c.1
cut-first [] i h e n c q = absurd (omega arith)
cut-first (b ∷ bs) zero h e n c q = ap (λ (d : Parted). d.1) (unsome (rw (eq-eqb b 10 e, cut_line) at q))
cut-first (b ∷ bs) (suc i) h e n c q = go (cut_line bs) refl (rw (ne_eqb b 10 (n 0 (omega arith)), cut_line) at q) (cut-first bs i (omega arith) e (λ k l. n (suc k) (omega arith)))
  where
    go : (o : Option Parted) → cut_line bs ≡ o → ◌≡◌ {A = Option Parted} (elim o [ none ↦ none | some d ↦ some ((b ∷ d.0), d.1) ]) (some c)
        → ((d : Parted) → cut_line bs ≡ some d → drop (i + 1) bs ≡ d.1) → drop (suc i + 1) (b ∷ bs) ≡ c.1
    go none x z ih = not_none z
    go (some d) x z ih = let a : suc i + 1 ≡ suc (i + 1) = omega arith in rw a (ih d x ∙ ap (λ (d : Parted). d.1) (unsome z))

pub cut-found : (text : List ℕ) (c : Parted) → cut_line text ≡ some c → IsSome (position (λ b. eqb b 10) text)
cut-found text c q = go (ltb (position_or_len (λ b. eqb b 10) text) (length text)) refl
  where
    go : (o : Bool) → ltb (position_or_len (λ b. eqb b 10) text) (length text) ≡ o → IsSome (position (λ b. eqb b 10) text)
    go true x = rw x refl
    go false x =
        let m = ltb-false (position_or_len (λ b. eqb b 10) text) (length text) x in
        let t = cut-join text c q in
        let l = ap length t ∙ length-append c.0 (10 ∷ c.1) in
        let z : eqb (get_or text (length c.0) 0) 10 ≡ false = fails_before_first (λ b. eqb b 10) text (length c.0) 0 (omega arith) in
        let w : get_or text (length c.0) 0 ≡ 10 = rw t (get_or_at c.0 10 c.1 0 _ refl) in
        absurd (eqb-false (get_or text (length c.0) 0) 10 z w)

pub behind-first : (text : List ℕ) (i : ℕ) → position (λ b. eqb b 10) text ≡ Some i → (c : Parted) → cut_line text ≡ some c → between (i + 1) (length text) text ≡ c.1
behind-first text i e c q =
    let p = position-Some (λ b. eqb b 10) text i 0 e in
    between_to_end text (i + 1) (length text) (omega arith) ∙ cut-first text i p.0 (eqb-true (get_or text i 0) 10 p.1) (λ k h. eqb-false (get_or text k 0) 10 (p.2 k h)) c q

-- one entry line
module _ (m K line : ℕ) (last : Option Entry) (bs : List ℕ) (low : 1 ≤ K) where
  body-bad : line_at K 97 bs ≡ none → body (suc m) K line last bs ≡ broken line
  body-bad q = body-by (λ p. p ≡ broken line) m K line last bs (λ x. refl) (λ c x y. refl) (λ c e x y z. refl) never
    where
      never : (c : Parted) (e : Entry) → cut_line bs ≡ some c → entry_of_line K c.0 ≡ some e → rises last e ≡ true → following e (body m K (suc line) (some e) c.1) ≡ broken line
      never c e x y z =
          let l = entry-line K c.0 e y in
          let p : bs ≡ pairs 97 e ++ (10 ∷ c.1) = rw l.0 (cut-join bs c x) in
          let s : Stands bs K e c.1 = record { printed = p; sized = line-length K c.0 e y; in_range = l.1 } in
          not_none (sym q ∙ stands-line K bs e c.1 low s)

  module _ (e : Entry) (r : List ℕ) (q : line_at K 97 bs ≡ some (e, r)) where
    stands : Stands bs K e r
    stands = line-stands K bs e r low q

    cut : cut_line bs ≡ some (pairs 97 e, r)
    cut = ap cut_line stands.printed ∙ cut-back (pairs 97 e) r (pairs-high 97 e (omega arith))

    entry : entry_of_line K (pairs 97 e) ≡ some e
    entry = entry-back K e stands.sized stands.in_range

    body-falls : rises last e ≡ false → body (suc m) K line last bs ≡ broken line
    body-falls z = rw (cut, body) (rw entry (rw z refl))

    body-good : rises last e ≡ true → body (suc m) K line last bs ≡ following e (body m K (suc line) (some e) r)
    body-good z = body-step m K line last bs (pairs 97 e, r) e cut entry z

-- the verdict on what is left, behind i entries
abbrev pub more : ℕ → Parsed → Result Title Broken
more i (broken l) = Err (record { line = l })
more i (saved K es) = Ok (record { fields = K; entries = i + length es })

more-following : (i : ℕ) (e : Entry) (p : Parsed) → more i (following e p) ≡ more (i + 1) p
more-following i e (broken l) = refl
more-following i e (saved K es) = let q : i + suc (length es) ≡ i + 1 + length es = omega arith in rw q refl

module _ (text : List ℕ) (k n : ℕ) (last : Option Entry) (left : List ℕ) (i : ℕ)
    (inv : summed (body n k 2 none text) ≡ more i (body (n - i) k (i + 2) last left)) where
  module _ (low : 1 ≤ k) (h : i < n) where
    turn : summed (body n k 2 none text) ≡ more i (body (suc (n - (i + 1))) k (i + 2) last left)
    turn = let m : n - i ≡ suc (n - (i + 1)) = omega arith in inv ∙ rw m refl

    pub body-line : none ≡ line_at k 97 left → Err (record { line = i + 2 }) ≡ summed (body n k 2 none text)
    body-line o = sym (turn ∙ ap (more i) (body-bad (n - (i + 1)) k (i + 2) last left low (sym o)))

    module _ (e : Entry) (rest : List ℕ) (got : some (e, rest) ≡ line_at k 97 left) where
      pub body-order : false ≡ rises last e → Err (record { line = i + 2 }) ≡ summed (body n k 2 none text)
      body-order r = sym (turn ∙ ap (more i) (body-falls (n - (i + 1)) k (i + 2) last left low e rest (sym got) (sym r)))

      pub body-on : true ≡ rises last e → summed (body n k 2 none text) ≡ more (i + 1) (body (n - (i + 1)) k (i + 1 + 2) (some e) rest)
      body-on r =
          let s : suc (i + 2) ≡ i + 1 + 2 = omega arith in
          turn
          ∙ ap (more i) (body-good (n - (i + 1)) k (i + 2) last left low e rest (sym got) (sym r))
          ∙ more-following i e (body (n - (i + 1)) k (suc (i + 2)) (some e) rest)
          ∙ ap (λ x. more (i + 1) (body (n - (i + 1)) k x (some e) rest)) s
