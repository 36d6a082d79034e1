-- What each test tells of the strict reading of a pair, and each turn of that of a line.
use mathlib.Core.Path.{◌≡◌, refl, sym, ap, ◌∙◌}
use mathlib.Core.List.{List, [], ◌∷◌, ◌++◌}
use mathlib.Core.Option.{none, some}
use mathlib.Core.Bool.{false, ◌&&◌}
use Prim.Native.Nat.{ℕ, suc, ◌+◌, ◌-◌, ◌≤◌, ◌<◌}
use native.Mathlib.Omega.{arith}
use native.Mathlib.Numerals.{add-one}
use lib.Dec.{eqb}
use lib.IntN.{ℤ, pos}
use lib.ListN.{length, get_or, set, take, drop, replicate}
use lib.Seq.{drop-cons, drop-drop, drop-set-lt, take-suc-set}
use borrow.Author.Tests.{eq-eqb, eqb-true, ne_eqb}
use Rattle.model.specs.Entry.{Entry}
use Rattle.model.proofs.Trees.{both, pair}
use Rattle.print.specs.Line.{end_byte_of}
use Rattle.text.specs.Strict.{Entirely, Signedly, closed, consed, line_at, number_at, pair_at}
use Rattle.std.specs.List.{between}
use Rattle.std.proofs.lemmas.Slice.{between_to_end, first_rest}

-- a pair
short-at : (name end : ℕ) (bs : List ℕ) → length bs < 2 → pair_at name end bs ≡ none
unfolding pair_at
short-at name end [] h = refl
short-at name end (a ∷ []) h = refl
short-at name end (a ∷ b ∷ bs) h = absurd (omega arith)

pub wrong-at : (name end a b : ℕ) (bs : List ℕ) → (eqb a name && eqb b 61) ≡ false → pair_at name end (a ∷ b ∷ bs) ≡ none
unfolding pair_at
wrong-at name end a b bs h = rw (h, pair_at) refl

pub right-at : (name end a b : ℕ) (bs : List ℕ) → a ≡ name → b ≡ 61 → pair_at name end (a ∷ b ∷ bs) ≡ closed end (number_at bs)
unfolding pair_at
right-at name end a b bs g h = rw (pair (eq-eqb a name g) (eq-eqb b 61 h), pair_at) refl

pub closed_at : (end : ℕ) (x : ℤ) (b : ℕ) (r : List ℕ) → b ≡ end → closed end (some (x, b ∷ r)) ≡ some (x, r)
unfolding closed
closed_at end x b r h = rw (eq-eqb b end h, closed) refl

pub open_at : (end : ℕ) (x : ℤ) (b : ℕ) (r : List ℕ) → (b ≡ end → ⊥) → closed end (some (x, b ∷ r)) ≡ none
unfolding closed
open_at end x b r h = rw (ne_eqb b end h, closed) refl

module _ (text : List ℕ) (name end : ℕ) where
  pub pair-other : (2 ≤ length text → get_or text 0 0 ≡ name → get_or text 1 0 ≡ 61 → ⊥) → none ≡ pair_at name end text
  pair-other n = sym (other text n)
    where
      other : (l : List ℕ) → (2 ≤ length l → get_or l 0 0 ≡ name → get_or l 1 0 ≡ 61 → ⊥) → pair_at name end l ≡ none
      other [] n = short-at name end [] (omega arith)
      other (a ∷ []) n = short-at name end (a ∷ []) (omega arith)
      other (a ∷ b ∷ bs) n = wrong-at name end a b bs (grind (arith, n, both, eqb-true))

  module _ (h : 2 ≤ length text) (n : get_or text 0 0 ≡ name) (q : get_or text 1 0 ≡ 61)
      (o : Signedly) (e : o ≡ number_at (between 2 (length text) text)) where
    two : text ≡ get_or text 0 0 ∷ get_or text 1 0 ∷ between 2 (length text) text
    two = drop-cons text 0 0 (omega arith) ∙ ap (λ l. get_or text 0 0 ∷ l) (drop-cons text 1 0 h ∙ ap (λ l. get_or text 1 0 ∷ l) (sym (between_to_end text 2 (length text) (omega arith))))

    through : closed end o ≡ pair_at name end text
    through = ap (closed end) e ∙ sym (ap (pair_at name end) two ∙ right-at name end (get_or text 0 0) (get_or text 1 0) (between 2 (length text) text) n q)

    pub pair-none : o ≡ none → none ≡ pair_at name end text
    unfolding closed
    pair-none z = sym (ap (closed end) z) ∙ through

    module _ (x : ℤ) (rest : List ℕ) (z : o ≡ some (x, rest)) where
      pub pair-open : (1 ≤ length rest → get_or rest 0 0 ≡ end → ⊥) → none ≡ pair_at name end text
      unfolding closed
      pair-open m = sym (unended rest m) ∙ sym (ap (closed end) z) ∙ through
        where
          unended : (l : List ℕ) → (1 ≤ length l → get_or l 0 0 ≡ end → ⊥) → closed end (some (x, l)) ≡ none
          unended [] m = refl
          unended (b ∷ bs) m = open_at end x b bs (m (omega arith))

      pub pair_is : 1 ≤ length rest → get_or rest 0 0 ≡ end → (y : ℤ) → y ≡ x → some (y, between 1 (length rest) rest) ≡ pair_at name end text
      pair_is g b y v =
          rw v (sym (closed_at end x (get_or rest 0 0) (between 1 (length rest) rest) b)
          ∙ sym (ap (λ l. closed end (some (x, l))) (first_rest rest 0 g))
          ∙ sym (ap (closed end) z)
          ∙ through)

-- a line, with the numbers of its first pairs at hand
abbrev pub prefixed : Entry → Entirely → Entirely
prefixed [] o = o
prefixed (x ∷ e) o = consed x (prefixed e o)

prefixed-none : (e : Entry) → prefixed e none ≡ none
prefixed-none [] = refl
prefixed-none (x ∷ e) = ap (consed x) (prefixed-none e)

prefixed-end : (e : Entry) (r : List ℕ) → prefixed e (some ([], r)) ≡ some (e, r)
prefixed-end [] r = refl
prefixed-end (x ∷ e) r = ap (consed x) (prefixed-end e r)

prefixed-more : (e : Entry) (x : ℤ) (o : Entirely) → prefixed e (consed x o) ≡ prefixed (e ++ (x ∷ [])) o
prefixed-more [] x o = refl
prefixed-more (y ∷ e) x o = ap (consed y) (prefixed-more e x o)

pub line-stop : (k name : ℕ) (bs : List ℕ) → pair_at name (end_byte_of (suc k)) bs ≡ none → line_at (suc k) name bs ≡ none
unfolding line_at
line-stop k name bs e = rw (e, line_at) refl

pub line_step : (k name : ℕ) (bs : List ℕ) (x : ℤ) (r : List ℕ) → pair_at name (end_byte_of (suc k)) bs ≡ some (x, r) → line_at (suc k) name bs ≡ consed x (line_at k (suc name) r)
unfolding line_at
line_step k name bs x r e = rw (e, line_at) refl

module _ (text : List ℕ) (k : ℕ) (f : List ℤ) (left : List ℕ) (i : ℕ)
    (inv : line_at k 97 text ≡ prefixed (take i f) (line_at (k - i) (97 + i) left)) where
  pub line-done : i ≡ k → some (take k f, left) ≡ line_at k 97 text
  unfolding line_at
  line-done e =
      let z : k - i ≡ 0 = omega arith in
      sym (inv ∙ rw (z, e) (prefixed-end (take k f) left))

  module _ (h : i < k) (end : ℕ) (ee : end ≡ end_byte_of (k - i)) where
    m : k - i ≡ suc (k - (i + 1))
    m = omega arith

    pub line-none : none ≡ pair_at (97 + i) end left → none ≡ line_at k 97 text
    line-none e =
        let s : pair_at (97 + i) (end_byte_of (suc (k - (i + 1)))) left ≡ none = rw (← m, ← ee) (sym e) in
        sym (inv ∙ rw m (ap (prefixed (take i f)) (line-stop (k - (i + 1)) (97 + i) left s)) ∙ prefixed-none (take i f))

    pub line-more : (x : ℤ) (rest : List ℕ) → some (x, rest) ≡ pair_at (97 + i) end left → i < length f → (y : ℤ) → y ≡ x
        → line_at k 97 text ≡ prefixed (take (i + 1) (set f i y)) (line_at (k - (i + 1)) (97 + (i + 1)) rest)
    line-more x rest e l y v =
        let b : 97 + (i + 1) ≡ suc (97 + i) = omega arith in
        let s : pair_at (97 + i) (end_byte_of (suc (k - (i + 1)))) left ≡ some (x, rest) = rw (← m, ← ee) (sym e) in
        let t : take (i + 1) (set f i y) ≡ take i f ++ (y ∷ []) = rw (add-one i) (take-suc-set f i y l) in
        let p : line_at (k - i) (97 + i) left ≡ consed x (line_at (k - (i + 1)) (suc (97 + i)) rest) =
        rw m (line_step (k - (i + 1)) (97 + i) left x rest s) in
        inv ∙ ap (prefixed (take i f)) p ∙ rw (b, t, v) (prefixed-more (take i f) x (line_at (k - (i + 1)) (suc (97 + i)) rest))

-- what is behind the pairs read so far stays 0
pub fill_on : (f : List ℤ) (i : ℕ) (y : ℤ) → drop i f ≡ replicate (4 - i) (pos 0) → i < 4 → drop (i + 1) (set f i y) ≡ replicate (4 - (i + 1)) (pos 0)
fill_on f i y e h =
    let m : 4 - i ≡ suc (4 - (i + 1)) = omega arith in
    drop-set-lt (i + 1) f i y (omega arith) ∙ sym (drop-drop 1 i f) ∙ ap (drop 1) (e ∙ ap (λ n. replicate n (pos 0)) m)
