-- An entry line as a row of pairs, one pair at a time.
use mathlib.Core.Path.{◌≡◌, refl, sym, ap, ◌∙◌}
use mathlib.Core.List.{List, [], ◌∷◌, ◌++◌, append_assoc, append-nil}
use Prim.Native.Nat.{ℕ, zero, suc, ◌+◌, ◌-◌, ◌≤◌, ◌<◌}
use native.Mathlib.Omega.{arith}
use native.Mathlib.Numerals.{add-one}
use lib.IntN.{ℤ, pos}
use lib.ListN.{length, get_or, drop, length-append, length-drop, drop_of_length-le}
use lib.Seq.{drop-cons}
use Rattle.model.specs.Entry.{Entry}
use Rattle.model.specs.Text.{pairs, signed}
use Rattle.print.specs.Line.{end_byte_of, ended, pair_of}
use Rattle.print.specs.Place.{written}
use Rattle.print.proofs.Places.{written-join, written_none}
use Rattle.print.proofs.Writes.{pair_size}

pub end-last : (i n : ℕ) → i + 1 ≡ n → end_byte_of (n - i) ≡ 10
unfolding end_byte_of
end-last i n h = let e : n - i ≡ 1 = omega arith in rw e refl

pub end-other : (i n : ℕ) → i < n → (i + 1 ≡ n → ⊥) → end_byte_of (n - i) ≡ 32
unfolding end_byte_of
end-other i n g h = go (n - i) refl
  where
    go : (k : ℕ) → n - i ≡ k → end_byte_of k ≡ 32
    go zero e = refl
    go (suc zero) e = absurd (h (omega arith))
    go (suc (suc k)) e = refl

-- pairs with one space between them and an LF behind are pairs each with its end
pub ended-pairs : (name : ℕ) (x : ℤ) (xs : Entry) (rest : List ℕ) → pairs name (x ∷ xs) ++ (10 ∷ rest) ≡ ended name (x ∷ xs) ++ rest
unfolding ended end_byte_of
ended-pairs name x [] rest =
    ap (λ l. name ∷ 61 ∷ l) (sym (append_assoc (signed x) (10 ∷ []) rest ∙ refl) ∙ ap (λ l. l ++ rest) (sym (append-nil (signed x ++ (10 ∷ [])))))
ended-pairs name x (y ∷ ys) rest =
    let ih = ended-pairs (suc name) y ys rest in
    ap (λ l. name ∷ 61 ∷ l)
    (append_assoc (signed x) (32 ∷ pairs (suc name) (y ∷ ys)) (10 ∷ rest)
    ∙ ap (λ l. signed x ++ (32 ∷ l)) ih
    ∙ sym (append_assoc (signed x) (32 ∷ []) (ended (suc name) (y ∷ ys) ++ rest))
    ∙ sym (append_assoc (signed x ++ (32 ∷ [])) (ended (suc name) (y ∷ ys)) rest))

pub line_row : (part : Entry) → (length part ≡ 0 → ⊥) → pairs 97 part ++ (10 ∷ []) ≡ ended 97 part
line_row [] h = absurd (h refl)
line_row (x ∷ xs) h = ended-pairs 97 x xs [] ∙ append-nil (ended 97 (x ∷ xs))

-- the row from pair i on: that pair, and those behind it
pub ended_at : (part : Entry) (i : ℕ) → i < length part
    → ended (97 + i) (drop i part) ≡ pair_of (97 + i) (get_or part i (pos 0)) (end_byte_of (length part - i)) ++ ended (97 + (i + 1)) (drop (i + 1) part)
unfolding ended
ended_at part i h =
    let e : 97 + (i + 1) ≡ suc (97 + i) = omega arith in
    let l : suc (length (drop (suc i) part)) ≡ length part - i = let d = length-drop (suc i) part in omega arith in
    rw (drop-cons part i (pos 0) h, e, add-one i, ← l) refl

pub ended-none : (part : Entry) (i name : ℕ) → length part ≤ i → ended name (drop i part) ≡ []
unfolding ended
ended-none part i name h = rw (drop_of_length-le part h) refl

-- a turn of the loop that prints a line: pair i goes to place `to`
module _ (out₀ out : List ℕ) (part : Entry) (at to i : ℕ) (x : ℤ) (end : ℕ)
    (h : i < length part) (kept : length out ≡ length out₀) (room : at + length (ended 97 part) ≤ length out₀)
    (left : to + length (ended (97 + i) (drop i part)) ≡ at + length (ended 97 part))
    (all : written out to (ended (97 + i) (drop i part)) ≡ written out₀ at (ended 97 part))
    (ex : x ≡ get_or part i (pos 0)) (ee : end ≡ end_byte_of (length part - i)) where
  abbrev piece : List ℕ
  piece = pair_of (97 + i) x end

  abbrev behind : List ℕ
  behind = ended (97 + (i + 1)) (drop (i + 1) part)

  split : ended (97 + i) (drop i part) ≡ piece ++ behind
  split = ended_at part i h ∙ rw (← ex, ← ee) refl

  sum : length (ended (97 + i) (drop i part)) ≡ length piece + length behind
  sum = ap length split ∙ length-append piece behind

  pub pair_fits : to + length piece ≤ length out
  pair_fits = let s = sum in omega arith

  pub pair_left : (r : ℕ) → r ≡ to + length piece → r + length behind ≡ at + length (ended 97 part)
  pair_left r e = let s = sum in omega arith

  pub pair-all : (o : List ℕ) (r : ℕ) → o ≡ written out to piece → r ≡ to + length piece → written o r behind ≡ written out₀ at (ended 97 part)
  pair-all o r p q =
      let s = sum in
      let n = length-append piece behind in
      rw (p, q) (written-join out to piece behind (omega arith)) ∙ ap (written out to) (sym split) ∙ all

-- how long a row is
pub row-none : (part : Entry) → length part ≡ 0 → pairs 97 part ≡ []
row-none [] h = refl
row-none (x ∷ xs) h = absurd (omega arith)

pub row-size : (part : Entry) → (length part ≡ 0 → ⊥) → length (ended 97 part) ≡ length (pairs 97 part) + 1
row-size part h = ap length (sym (line_row part h)) ∙ length-append (pairs 97 part) (10 ∷ [])

pub row_on : (part : Entry) (i : ℕ) → i < length part
    → length (ended (97 + i) (drop i part)) ≡ length (signed (get_or part i (pos 0))) + 3 + length (ended (97 + (i + 1)) (drop (i + 1) part))
row_on part i h =
    let s = pair_size (97 + i) (get_or part i (pos 0)) (end_byte_of (length part - i)) in
    let a = length-append (pair_of (97 + i) (get_or part i (pos 0)) (end_byte_of (length part - i))) (ended (97 + (i + 1)) (drop (i + 1) part)) in
    ap length (ended_at part i h) ∙ a ∙ ap (λ n. n + length (ended (97 + (i + 1)) (drop (i + 1) part))) s

pub row-end : (part : Entry) (i name : ℕ) → length part ≤ i → length (ended name (drop i part)) ≡ 0
row-end part i name h = ap length (ended-none part i name h)

-- after the last pair nothing is left to print
pub row_done : (out₀ out : List ℕ) (part : Entry) (at to i : ℕ) (line : List ℕ) → length part ≤ i → line ≡ ended 97 part
    → to + length (ended (97 + i) (drop i part)) ≡ at + length (ended 97 part)
    → written out to (ended (97 + i) (drop i part)) ≡ written out₀ at (ended 97 part)
    → (out ≡ written out₀ at line) × (to ≡ at + length line)
row_done out₀ out part at to i line h e left all =
    let n = ended-none part i (97 + i) h in
    let z = row-end part i (97 + i) h in
    rw e (sym (written_none out to) ∙ ap (written out to) (sym n) ∙ all, omega arith)
