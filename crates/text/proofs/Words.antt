-- What each test tells of the strict reading of the first line.
use mathlib.Core.Path.{◌≡◌, refl, sym, ap, ap₂, ◌∙◌}
use mathlib.Core.List.{List, [], ◌∷◌, ◌++◌}
use mathlib.Core.Option.{Option, none, some}
use mathlib.Core.Bool.{Bool, true, false, ◌&&◌}
use Prim.Native.Nat.{ℕ, ◌≤◌}
use native.Mathlib.Omega.{arith}
use lib.Dec.{eqb}
use lib.ListN.{length, get_or}
use borrow.Author.Tests.{eq-eqb, eqb-false, eqb-true, ne_eqb}
use Rattle.model.proofs.Trees.{both, pair}
use Rattle.text.specs.Strict.{Decimally, after_at, decimal_at, title_at, title_end, is_fitting_title, word_at}
use Rattle.print.specs.Title.{entries_word, fields_word}
use Rattle.std.specs.List.{between}
use Rattle.std.proofs.lemmas.Slice.{first_rest}
use Rattle.text.proofs.Readings.{not_none, unsome}

-- a word
pub word_next : (w : ℕ) (ws : List ℕ) (b : ℕ) (bs : List ℕ) → b ≡ w → word_at (w ∷ ws) (b ∷ bs) ≡ word_at ws bs
unfolding word_at
word_next w ws b bs h = rw (eq-eqb b w h, word_at) refl

pub word-other : (w : ℕ) (ws : List ℕ) (b : ℕ) (bs : List ℕ) → (b ≡ w → ⊥) → word_at (w ∷ ws) (b ∷ bs) ≡ none
unfolding word_at
word-other w ws b bs h = rw (ne_eqb b w h, word_at) refl

pub word_sound : (w bs r : List ℕ) → word_at w bs ≡ some r → bs ≡ w ++ r
unfolding word_at
word_sound [] bs r e = unsome e
word_sound (x ∷ w) [] r e = not_none e
word_sound (x ∷ w) (b ∷ bs) r e = go (eqb b x) refl (word_sound w bs r)
  where
    go : (o : Bool) → eqb b x ≡ o → (word_at w bs ≡ some r → bs ≡ w ++ r) → b ∷ bs ≡ x ∷ (w ++ r)
    go true q ih = let m = eqb-true b x q in ap₂ (λ h l. h ∷ l) m (ih (sym (word_next x w b bs m) ∙ e))
    go false q ih = not_none (sym (word-other x w b bs (eqb-false b x q)) ∙ e)

pub word-complete : (w r : List ℕ) → word_at w (w ++ r) ≡ some r
unfolding word_at
word-complete [] r = refl
word-complete (x ∷ w) r = word_next x w x (w ++ r) refl ∙ word-complete w r

-- a word and a decimal
module _ (word bs : List ℕ) where
  pub after_none : ((rest : List ℕ) → bs ≡ word ++ rest → ⊥) → none ≡ after_at word bs
  unfolding after_at
  after_none n = go (word_at word bs) refl
    where
      go : (o : Option (List ℕ)) → word_at word bs ≡ o → none ≡ after_at word bs
      go none q = rw (q, after_at) refl
      go (some r) q = absurd (n r (word_sound word bs r q))

  pub after_is : (rest : List ℕ) (d : Decimally) → bs ≡ word ++ rest → d ≡ decimal_at rest → d ≡ after_at word bs
  unfolding after_at
  after_is rest d e f = let w : word_at word bs ≡ some rest = ap (word_at word) e ∙ word-complete word rest in rw (w, after_at) f

-- the first line
pub end-right : (k n b : ℕ) (r : List ℕ) → b ≡ 10 → is_fitting_title k n ≡ true → title_end k n (b ∷ r) ≡ some ((k, n), r)
unfolding title_end
end-right k n b r h f = rw (pair (eq-eqb b 10 h) f, title_end) refl

pub end-wrong : (k n b : ℕ) (r : List ℕ) → (eqb b 10 && is_fitting_title k n) ≡ false → title_end k n (b ∷ r) ≡ none
unfolding title_end
end-wrong k n b r h = rw (h, title_end) refl

pub title-through : (bs : List ℕ) (k : ℕ) (r : List ℕ) (n : ℕ) (s : List ℕ) → after_at fields_word bs ≡ some (k, r) → after_at entries_word r ≡ some (n, s) → title_at bs ≡ title_end k n s
unfolding title_at
title-through bs k r n s e f = rw (e, title_at) (rw f refl)

pub title-first : (bs : List ℕ) → after_at fields_word bs ≡ none → title_at bs ≡ none
unfolding title_at
title-first bs e = rw (e, title_at) refl

pub title-second : (bs : List ℕ) (k : ℕ) (r : List ℕ) → after_at fields_word bs ≡ some (k, r) → after_at entries_word r ≡ none → title_at bs ≡ none
unfolding title_at
title-second bs k r e f = rw (e, title_at) (rw f refl)

module _ (text : List ℕ) where
  pub title-none : none ≡ after_at fields_word text → none ≡ title_at text
  title-none e = sym (title-first text (sym e))

  module _ (k : ℕ) (left : List ℕ) (e : some (k, left) ≡ after_at fields_word text) where
    pub title-none2 : none ≡ after_at entries_word left → none ≡ title_at text
    title-none2 f = sym (title-second text k left (sym e) (sym f))

    module _ (n : ℕ) (end : List ℕ) (f : some (n, end) ≡ after_at entries_word left) where
      to_end : title_at text ≡ title_end k n end
      to_end = title-through text k left n end (sym e) (sym f)

      pub title-open : (1 ≤ length end → get_or end 0 0 ≡ 10 → is_fitting_title k n ≡ true → ⊥) → none ≡ title_at text
      unfolding title_end
      title-open m = sym (to_end ∙ unended end m)
        where
          unended : (l : List ℕ) → (1 ≤ length l → get_or l 0 0 ≡ 10 → is_fitting_title k n ≡ true → ⊥) → title_end k n l ≡ none
          unended [] m = refl
          unended (b ∷ r) m = end-wrong k n b r (go (eqb b 10 && is_fitting_title k n) refl)
            where
              go : (o : Bool) → (eqb b 10 && is_fitting_title k n) ≡ o → o ≡ false
              go true q = let t = both (eqb b 10) (is_fitting_title k n) q in absurd (m (omega arith) (eqb-true b 10 t.0) t.1)
              go false q = refl

      pub title-is : 1 ≤ length end → get_or end 0 0 ≡ 10 → is_fitting_title k n ≡ true → some ((k, n), between 1 (length end) end) ≡ title_at text
      title-is g b fit = sym (to_end ∙ ap (title_end k n) (first_rest end 0 g) ∙ end-right k n (get_or end 0 0) (between 1 (length end) end) b fit)
