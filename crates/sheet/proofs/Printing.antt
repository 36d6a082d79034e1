-- The text of some slots, a line at a time: counted and written.
use mathlib.Core.Path.{◌≡◌, refl, sym, ap, subst, ◌∙◌}
use mathlib.Core.List.{List, [], ◌∷◌, ◌++◌, append_assoc}
use Prim.Native.Nat.{ℕ, suc, ◌+◌, ◌-◌, ◌≤◌, ◌<◌}
use native.Mathlib.Omega.{arith}
use native.Mathlib.Numerals.{add-one}
use lib.ListN.{length, get_or, take, drop, length-append, drop_of_length-le}
use lib.Seq.{drop-cons}
use lib.IntN.{ℤ}
use Rattle.model.specs.Entry.{Entry}
use Rattle.model.specs.Tree.{entries_of}
use Rattle.model.specs.Text.{pairs, title, entry_lines, text_of}
use Rattle.cells.specs.Slots.{numbers_of, address_of}
use Rattle.cells.proofs.Slots.{numbers-long, part_at}
use Rattle.print.specs.Place.{written, Puts}
use Rattle.print.proofs.Places.{written_none, written-join, written-length}
use Rattle.rank.specs.Ranking.{items_at, InTable}
use Rattle.std.specs.declared.option.Option.TheVariants.{Some, None}
use Rattle.sheet.specs.Saving.{text_in, Measured}

-- the first line, the line of a slot, and the lines of some slots
abbrev pub first : ℕ → ℕ → List ℕ
first K n = title K n ++ (10 ∷ [])

abbrev pub line_at : ℕ → List ℤ → ℕ → List ℕ
line_at K ks s = pairs 97 (numbers_of K ks s) ++ (10 ∷ [])

unfoldable pub lines_in : ℕ → List ℤ → List ℕ → List ℕ
lines_in K ks ss = entry_lines (entries_of (items_at K ks ss))

module _ (K : ℕ) (ks : List ℤ) where
  entries-many : (ss : List ℕ) → length (entries_of (items_at K ks ss)) ≡ length ss
  entries-many [] = refl
  entries-many (s ∷ ss) = ap suc (entries-many ss)

  pub text-is : (ss : List ℕ) → text_in K ks ss ≡ first K (length ss) ++ lines_in K ks ss
  unfolding text_of lines_in
  text-is ss = rw (← entries-many ss) (sym (append_assoc (title K (length (entries_of (items_at K ks ss)))) (10 ∷ []) (entry_lines (entries_of (items_at K ks ss)))))

  text-long : (ss : List ℕ) (n : ℕ) → n ≡ length (title K (length ss)) + 1 → n + length (lines_in K ks ss) ≡ length (text_in K ks ss)
  text-long ss n e = go (title K (length ss)) (lines_in K ks ss) e ∙ sym (ap length (text-is ss))
    where
      go : (t l : List ℕ) → n ≡ length t + 1 → n + length l ≡ length ((t ++ (10 ∷ [])) ++ l)
      go t l q = let a = length-append (t ++ (10 ∷ [])) l in let b = length-append t (10 ∷ []) in omega arith

  -- the lines from i on: one, and the rest
  module _ (ss : List ℕ) (i : ℕ) where
    lines-on : i < length ss → lines_in K ks (drop i ss) ≡ line_at K ks (get_or ss i 0) ++ lines_in K ks (drop (i + 1) ss)
    unfolding lines_in
    lines-on h = rw (drop-cons ss i 0 h, add-one i) (sym (append_assoc (pairs 97 (numbers_of K ks (get_or ss i 0))) (10 ∷ []) (entry_lines (entries_of (items_at K ks (drop (suc i) ss))))))

    lines-gone : length ss ≤ i → lines_in K ks (drop i ss) ≡ []
    unfolding lines_in
    lines-gone h = ap (λ (x : List ℕ). entry_lines (entries_of (items_at K ks x))) (drop_of_length-le ss h)

    lines_long : i < length ss → (n : ℕ) → n ≡ length (pairs 97 (numbers_of K ks (get_or ss i 0))) + 1 → length (lines_in K ks (drop i ss)) ≡ n + length (lines_in K ks (drop (i + 1) ss))
    lines_long h n e =
        let a = length-append (line_at K ks (get_or ss i 0)) (lines_in K ks (drop (i + 1) ss)) in
        let b = length-append (pairs 97 (numbers_of K ks (get_or ss i 0))) (10 ∷ []) in
        ap length (lines-on h) ∙ (let r : length (line_at K ks (get_or ss i 0) ++ lines_in K ks (drop (i + 1) ss)) ≡ n + length (lines_in K ks (drop (i + 1) ss)) = omega arith in r)

  -- ---- `measure`

  clash : {P : Type 0} {b : ℕ} → None ≡ Some b → P
  clash f = let z : ◌≡◌ {A = ℕ} 0 1 = cc in absurd (omega arith)

  abbrev pub Counted : List ℕ → ℕ → ℕ → ℕ → Type 0
  Counted ss most bytes i = (bytes ≤ most) × ((i ≤ length ss) × (bytes + length (lines_in K ks (drop i ss)) ≡ length (text_in K ks ss)))

  module _ (ss : List ℕ) (most : ℕ) where
    pub count-starts : (n : ℕ) → n ≡ length (title K (length ss)) + 1 → n ≤ most → Counted ss most n 0
    count-starts n e h = (h, (omega arith, text-long ss n e))

    pub title-over : (n : ℕ) → n ≡ length (title K (length ss)) + 1 → most < n → Measured (text_in K ks ss) most None
    title-over n e h = let a = text-long ss n e in record { bytes = λ b f. clash f; long = λ b f. clash f; short = λ _. omega arith }

    module _ (bytes i : ℕ) (inv : Counted ss most bytes i) where
      pub count-ends : length ss ≤ i → Measured (text_in K ks ss) most (Some bytes)
      count-ends h =
          let a : length (lines_in K ks (drop i ss)) ≡ 0 = ap length (lines-gone ss i h) in
          let b = inv.1.1 in
          let e : bytes ≡ length (text_in K ks ss) = omega arith in
          let m = inv.0 in
          record { bytes = λ b f. (let q : bytes ≡ b = cc in sym q ∙ e); long = λ _ _. omega arith; short = λ f. clash (sym f) }

      module _ (h : i < length ss) (n : ℕ) (e : n ≡ length (pairs 97 (numbers_of K ks (get_or ss i 0))) + 1) where
        pub count-goes : n ≤ most - bytes → Counted ss most (bytes + n) (i + 1)
        count-goes l =
            let a = lines_long ss i h n e in
            let b = inv.1.1 in
            let m = inv.0 in
            (omega arith, (omega arith, (let r : bytes + n + length (lines_in K ks (drop (i + 1) ss)) ≡ length (text_in K ks ss) = omega arith in r)))

        pub count-over : most - bytes < n → Measured (text_in K ks ss) most None
        count-over l =
            let a = lines_long ss i h n e in
            let b = inv.1.1 in
            let m = inv.0 in
            record { bytes = λ b f. clash f; long = λ b f. clash f; short = λ _. omega arith }

  -- ---- `write_text`

  abbrev pub Writing : List ℕ → List ℕ → ℕ → List ℕ → ℕ → ℕ → Type 0
  Writing ss room₀ to₀ room to i = (i ≤ length ss) × ((length room ≡ length room₀) × ((to + length (lines_in K ks (drop i ss)) ≤ length room) × (written room to (lines_in K ks (drop i ss)) ≡ written room₀ to₀ (lines_in K ks ss))))

  module _ (ss room : List ℕ) (fits : length (text_in K ks ss) ≤ length room) where
    both : length (first K (length ss)) + length (lines_in K ks ss) ≤ length room
    both = let a = ap length (text-is ss) in let b = length-append (first K (length ss)) (lines_in K ks ss) in go (length (text_in K ks ss)) (length (first K (length ss) ++ lines_in K ks ss)) (length (first K (length ss))) (length (lines_in K ks ss)) a b fits
      where
        go : (t x f l : ℕ) → t ≡ x → x ≡ f + l → t ≤ length room → f + l ≤ length room
        go t x f l p q r = omega arith

    pub title-fits : 0 + length (first K (length ss)) ≤ length room
    title-fits = go (length (first K (length ss))) (length (lines_in K ks ss)) both
      where
        go : (f l : ℕ) → f + l ≤ length room → 0 + f ≤ length room
        go f l h = omega arith

    module _ (room₀ : List ℕ) (to₀ : ℕ) (p : Puts room 0 (first K (length ss)) room₀ to₀) where
      pub titled-long : length room₀ ≡ length room
      titled-long = ap length p.0 ∙ written-length room 0 (first K (length ss)) title-fits

      pub write-starts : Writing ss room₀ to₀ room₀ to₀ 0
      write-starts = (omega arith, (refl, (go (length (first K (length ss))) (length (lines_in K ks ss)) p.1 both titled-long, refl)))
        where
          go : (f l : ℕ) → to₀ ≡ 0 + f → f + l ≤ length room → length room₀ ≡ length room → to₀ + l ≤ length room₀
          go f l a b d = omega arith

      pub write-ends : (now : List ℕ) (to i : ℕ) → Writing ss room₀ to₀ now to i → length ss ≤ i → now ≡ written room 0 (text_in K ks ss)
      write-ends now to i v h =
          let a : now ≡ written room₀ to₀ (lines_in K ks ss) = sym (ap (written now to) (lines-gone ss i h) ∙ written_none now to) ∙ v.1.1.1 in
          let q : 0 + length (first K (length ss) ++ lines_in K ks ss) ≤ length room = let b = ap length (text-is ss) in go (length (text_in K ks ss)) (length (first K (length ss) ++ lines_in K ks ss)) b fits in
          a ∙ (λ j. written (p.0 j) (p.1 j) (lines_in K ks ss)) ∙ written-join room 0 (first K (length ss)) (lines_in K ks ss) q ∙ ap (written room 0) (sym (text-is ss))
        where
          go : (t x : ℕ) → t ≡ x → t ≤ length room → 0 + x ≤ length room
          go t x e l = omega arith

  module _ (ss room₀ : List ℕ) (to₀ : ℕ) (room : List ℕ) (to i : ℕ) (v : Writing ss room₀ to₀ room to i) (h : i < length ss) where
    joined : to + length (line_at K ks (get_or ss i 0) ++ lines_in K ks (drop (i + 1) ss)) ≤ length room
    joined = subst (λ (x : List ℕ). to + length x ≤ length room) (lines-on ss i h) v.1.1.0

    pub line-fits : to + length (line_at K ks (get_or ss i 0)) ≤ length room
    line-fits = let a = joined in let b = length-append (line_at K ks (get_or ss i 0)) (lines_in K ks (drop (i + 1) ss)) in omega arith

    pub write_goes : (room' : List ℕ) (to' : ℕ) → Puts room to (line_at K ks (get_or ss i 0)) room' to' → length room' ≡ length room → Writing ss room₀ to₀ room' to' (i + 1)
    write_goes room' to' p l =
        let a = joined in
        let b = length-append (line_at K ks (get_or ss i 0)) (lines_in K ks (drop (i + 1) ss)) in
        let q = p.1 in (
          omega arith,
          (
            l ∙ v.1.0,
            (
              omega arith,
              (λ j. written (p.0 j) (p.1 j) (lines_in K ks (drop (i + 1) ss))) ∙ written-join room to (line_at K ks (get_or ss i 0)) (lines_in K ks (drop (i + 1) ss)) joined ∙ ap (written room to) (sym (lines-on ss i h)) ∙ v.1.1.1,
            ),
          ),
        )

-- the part of the key table that a slot's line is printed from
module _ (K : ℕ) (ks : List ℤ) (s a : ℕ) (ea : a ≡ address_of K s) where
  module _ (room : List ℕ) (to : ℕ) where
    pub line-ready : K ≤ 4 → InTable K (length ks) s → to + length (line_at K ks s) ≤ length room → (to + length (pairs 97 (take (a + K - a) (drop a ks)) ++ (10 ∷ [])) ≤ length room) × (length (take (a + K - a) (drop a ks)) ≤ 4)
    line-ready k t h = subst (λ (x : Entry). (to + length (pairs 97 x ++ (10 ∷ [])) ≤ length room) × (length x ≤ 4)) (sym (part_at K ks s a ea)) (h, (let n = numbers-long K ks s t.keyed in omega arith))
