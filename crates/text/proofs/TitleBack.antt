-- A first line that is read strictly was so written, and what is written is read strictly; so a text's verdict is the body's, or line 1.
use mathlib.Core.Path.{◌≡◌, refl, sym, ap, ap₂, ◌∙◌}
use mathlib.Core.List.{List, [], ◌∷◌, ◌++◌}
use mathlib.Core.Option.{Option, none, some}
use mathlib.Core.Bool.{Bool, true, false, ◌&&◌}
use Prim.Native.Nat.{ℕ, ◌≤◌}
use native.Mathlib.Omega.{arith}
use lib.Dec.{eqb, leb}
use borrow.Author.Tests.{eqb-true, le-leb, leb-true}
use Rattle.model.specs.Text.{body, broken, cut_line, decimal, parse, title, title_of_line}
use Rattle.model.proofs.Lists.{Every, every-join}
use Rattle.model.proofs.Prints.{High, KN, Parted, cut-back, cut-join, decimal-high, title-back, title-line}
use Rattle.model.proofs.Texts.{parse-by}
use Rattle.model.proofs.Trees.{both, pair}
use Rattle.text.specs.Strict.{Decimally, after_at, title_at, title_end, is_fitting_title, word_at}
use Rattle.print.specs.Title.{entries_word, fields_word}
use Rattle.std.proofs.Common.{Err}
use Rattle.text.specs.Told.{summed}
use Rattle.text.proofs.NumberBack.{Stops, decimal-complete, decimal-sound}
use Rattle.text.proofs.Readings.{not_none, unsome}
use Rattle.text.proofs.Words.{end-right, end-wrong, title-first, title-second, title-through, word_sound, word-complete}
use Rattle.print.proofs.Writes.{title-pieces}

-- a word and a decimal
after-sound : (w bs : List ℕ) (v : ℕ) (r : List ℕ) → after_at w bs ≡ some (v, r) → bs ≡ w ++ (decimal v ++ r)
unfolding after_at
after-sound w bs v r e = go (word_at w bs) refl
  where
    go : (o : Option (List ℕ)) → word_at w bs ≡ o → bs ≡ w ++ (decimal v ++ r)
    go none q = not_none (rw (q, after_at) at e)
    go (some s) q = word_sound w bs s q ∙ ap (λ l. w ++ l) (decimal-sound s v r (rw (q, after_at) at e)).0

after-complete : (w : List ℕ) (v : ℕ) (r : List ℕ) → v ≤ 9223372036854775808 → Stops r → after_at w (w ++ (decimal v ++ r)) ≡ some (v, r)
unfolding after_at
after-complete w v r h s = rw (word-complete w (decimal v ++ r), after_at) (decimal-complete v r h s)

-- the first line
pub record TitleIs (bs : List ℕ) (k n : ℕ) (r : List ℕ) : Type 0 where
  pub printed : bs ≡ title k n ++ (10 ∷ r)
  pub low : 1 ≤ k
  pub high : k ≤ 4
  pub few : n ≤ 4096

end-sound : (k n : ℕ) (bs : List ℕ) (kn : ℕ × ℕ) (r : List ℕ) → title_end k n bs ≡ some (kn, r) → (bs ≡ 10 ∷ r) × ((k, n) ≡ kn) × (is_fitting_title k n ≡ true)
unfolding title_end
end-sound k n [] kn r e = not_none e
end-sound k n (b ∷ bs) kn r e = go (eqb b 10 && is_fitting_title k n) refl
  where
    go : (o : Bool) → (eqb b 10 && is_fitting_title k n) ≡ o → (b ∷ bs ≡ 10 ∷ r) × ((k, n) ≡ kn) × (is_fitting_title k n ≡ true)
    go true q =
        let t = both (eqb b 10) (is_fitting_title k n) q in
        let m = eqb-true b 10 t.0 in
        let w : ◌≡◌ {A = (ℕ × ℕ) × List ℕ} ((k, n), bs) (kn, r) = unsome (sym (end-right k n b bs m t.1) ∙ e) in
        (ap₂ (λ h l. h ∷ l) m (ap (λ (d : (ℕ × ℕ) × List ℕ). d.1) w), ap (λ (d : (ℕ × ℕ) × List ℕ). d.0) w, t.1)
    go false q = not_none (sym (end-wrong k n b bs q) ∙ e)

pub title-sound : (bs : List ℕ) (k n : ℕ) (r : List ℕ) → title_at bs ≡ some ((k, n), r) → TitleIs bs k n r
title-sound bs k n r e = go (after_at fields_word bs) refl
  where
    ready : (i : ℕ) (s : List ℕ) (j : ℕ) (t : List ℕ) → after_at fields_word bs ≡ some (i, s) → after_at entries_word s ≡ some (j, t) → TitleIs bs k n r
    ready i s j t p q =
        let w = end-sound i j t (k, n) r (sym (title-through bs i s j t p q) ∙ e) in
        let ik : i ≡ k = ap (λ (d : ℕ × ℕ). d.0) w.1 in
        let jn : j ≡ n = ap (λ (d : ℕ × ℕ). d.1) w.1 in
        let f = both (leb 1 i && leb i 4) (leb j 4096) w.2 in
        let g = both (leb 1 i) (leb i 4) f.0 in
        let x : t ≡ 10 ∷ r = w.0 in
        let y : s ≡ entries_word ++ (decimal j ++ (10 ∷ r)) = after-sound entries_word s j t q ∙ ap (λ l. entries_word ++ (decimal j ++ l)) x in
        let z : bs ≡ fields_word ++ (decimal i ++ (entries_word ++ (decimal j ++ (10 ∷ r)))) = after-sound fields_word bs i s p ∙ ap (λ l. fields_word ++ (decimal i ++ l)) y in
        rw (← ik, ← jn)
        record {
          printed = z ∙ sym (title-pieces i j (10 ∷ r));
          low = leb-true 1 i g.0;
          high = leb-true i 4 g.1;
          few = leb-true j 4096 f.1;
        }

    next : (i : ℕ) (s : List ℕ) (o : Decimally) → after_at fields_word bs ≡ some (i, s) → after_at entries_word s ≡ o → TitleIs bs k n r
    next i s none p q = not_none (sym (title-second bs i s p q) ∙ e)
    next i s (some (j, t)) p q = ready i s j t p q

    go : (o : Decimally) → after_at fields_word bs ≡ o → TitleIs bs k n r
    go none p = not_none (sym (title-first bs p) ∙ e)
    go (some (i, s)) p = next i s (after_at entries_word s) p refl

pub title-complete : (k n : ℕ) (r : List ℕ) → 1 ≤ k → k ≤ 4 → n ≤ 4096 → title_at (title k n ++ (10 ∷ r)) ≡ some ((k, n), r)
title-complete k n r a b c =
    let tail : List ℕ = entries_word ++ (decimal n ++ (10 ∷ r)) in
    ap title_at (title-pieces k n (10 ∷ r))
    ∙ title-through (fields_word ++ (decimal k ++ tail)) k tail n (10 ∷ r) (after-complete fields_word k tail (omega arith) (omega arith)) (after-complete entries_word n (10 ∷ r) (omega arith) (omega arith))
    ∙ end-right k n 10 r refl (pair (pair (le-leb 1 k a) (le-leb k 4 b)) (le-leb n 4096 c))

-- a text
title-high : (k n : ℕ) → Every High (title k n)
title-high k n = every-join High fields_word (decimal k ++ (entries_word ++ decimal n)) (omega arith) (every-join High (decimal k) (entries_word ++ decimal n) (decimal-high k) (every-join High entries_word (decimal n) (omega arith) (decimal-high n)))

parse-good : (text : List ℕ) (k n : ℕ) (r : List ℕ) → title_at text ≡ some ((k, n), r) → parse text ≡ body n k 2 none r
unfolding parse
parse-good text k n r e =
    let t = title-sound text k n r e in
    let x : cut_line text ≡ some (title k n, r) = ap cut_line t.printed ∙ cut-back (title k n) r (title-high k n) in
    rw (x, parse) (rw (title-back k n t.low t.high t.few) refl)

parse-bad : (text : List ℕ) → title_at text ≡ none → parse text ≡ broken 1
parse-bad text e = parse-by (λ p. p ≡ broken 1) text (λ x. refl) (λ c x y. refl) never
  where
    never : (c : Parted) (kn : KN) → cut_line text ≡ some c → title_of_line c.0 ≡ some kn → body kn.1 kn.0 2 none c.1 ≡ broken 1
    never c kn x y =
        let t = title-line c.0 kn y in
        let p : text ≡ title kn.0 kn.1 ++ (10 ∷ c.1) = cut-join text c x ∙ ap (λ l. l ++ (10 ∷ c.1)) (sym t.0) in
        not_none (sym e ∙ ap title_at p ∙ title-complete kn.0 kn.1 c.1 t.1 t.2 t.3)

module _ (text : List ℕ) where
  pub text-bad : none ≡ title_at text → Err (record { line = 1 }) ≡ summed (parse text)
  text-bad e = sym (ap summed (parse-bad text (sym e)))

  module _ (k n : ℕ) (left : List ℕ) (e : some ((k, n), left) ≡ title_at text) where
    pub text-sizes : ((1 ≤ k) × (k ≤ 4)) × (n ≤ 4096)
    text-sizes = let t = title-sound text k n left (sym e) in ((t.low, t.high), t.few)

    pub text-body : summed (body n k 2 none left) ≡ summed (parse text)
    text-body = ap summed (sym (parse-good text k n left (sym e)))
