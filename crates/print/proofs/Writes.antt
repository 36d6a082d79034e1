-- What each printing function writes, put together from its pieces.
use mathlib.Core.Path.{◌≡◌, refl, sym, ap, ◌∙◌}
use mathlib.Core.List.{List, [], ◌∷◌, ◌++◌, append_assoc}
use Prim.Native.Nat.{ℕ, ◌+◌, ◌/◌, ◌%◌, ◌≤◌, ◌<◌}
use native.Mathlib.Omega.{arith}
use lib.ListN.{length, set, length-append, length-set}
use Rattle.model.specs.Text.{decimal, signed, title}
use lib.IntN.{ℤ}
use Rattle.print.specs.Place.{written}
use Rattle.print.specs.Line.{pair_of}
use Rattle.print.specs.Title.{entries_word, fields_word}
use Rattle.print.proofs.Places.{written-join, written-length, written-more, written_one}
use Rattle.print.proofs.Decimals.{decimal-more, decimal-one, length_more}

pub digit-one : (out : List ℕ) (at n : ℕ) → n < 10 → at + length (decimal n) ≤ length out → set out at (48 + n) ≡ written out at (decimal n)
digit-one out at n h f = rw (decimal-one n h) (written_one out at (48 + n) (let e = ap length (decimal-one n h) in omega arith))

-- the last digit, behind those in front of it
pub digit-last : (out : List ℕ) (at n : ℕ) → 10 ≤ n → at + length (decimal n) ≤ length out
    → (now : List ℕ) (to : ℕ) → now ≡ written out at (decimal (n / 10)) → to ≡ at + length (decimal (n / 10)) → set now to (48 + n % 10) ≡ written out at (decimal n)
digit-last out at n h f now to p q =
    let e = length_more n h in
    rw (p, q, decimal-more n h) (written-more out at (decimal (n / 10)) (48 + n % 10) (omega arith))

-- the first line
pub title-size : (k n : ℕ) → length (title k n ++ (10 ∷ [])) ≡ length (decimal k) + length (decimal n) + 24
title-size k n =
    let e = length-append (title k n) (10 ∷ []) in
    let d = length-append (decimal k) ((32 ∷ 101 ∷ 110 ∷ 116 ∷ 114 ∷ 105 ∷ 101 ∷ 115 ∷ 61 ∷ []) ++ decimal n) in
    omega arith

-- two pieces written one behind the other
then : (out : List ℕ) (at : ℕ) (a b o : List ℕ) (to : ℕ) → at + length (a ++ b) ≤ length out → o ≡ written out at a → to ≡ at + length a → written o to b ≡ written out at (a ++ b)
then out at a b o to f p q = rw (p, q) (written-join out at a b f)

pub title-pieces : (k n : ℕ) (rest : List ℕ) → title k n ++ rest ≡ fields_word ++ (decimal k ++ (entries_word ++ (decimal n ++ rest)))
title-pieces k n rest =
    ap (λ l. fields_word ++ l) (append_assoc (decimal k) (entries_word ++ decimal n) rest)

pub title-all : (out : List ℕ) (at k n : ℕ) → at + length (title k n ++ (10 ∷ [])) ≤ length out
    → (o1 : List ℕ) (p1 : ℕ) → o1 ≡ written out at fields_word → p1 ≡ at + 14
    → (o2 : List ℕ) (p2 : ℕ) → o2 ≡ written o1 p1 (decimal k) → p2 ≡ p1 + length (decimal k)
    → (o3 : List ℕ) (p3 : ℕ) → o3 ≡ written o2 p2 entries_word → p3 ≡ p2 + 9
    → (o4 : List ℕ) (p4 : ℕ) → o4 ≡ written o3 p3 (decimal n) → p4 ≡ p3 + length (decimal n)
    → set o4 p4 10 ≡ written out at (title k n ++ (10 ∷ []))
title-all out at k n f o1 p1 e1 q1 o2 p2 e2 q2 o3 p3 e3 q3 o4 p4 e4 q4 =
    let s = title-size k n in
    let a = length-append (decimal n) (10 ∷ []) in
    let b = length-append (decimal k) (entries_word ++ (decimal n ++ (10 ∷ []))) in
    let l1 = ap length e1 ∙ written-length out at fields_word (omega arith) in
    let l2 = ap length e2 ∙ written-length o1 p1 (decimal k) (omega arith) in
    let l3 = ap length e3 ∙ written-length o2 p2 entries_word (omega arith) in
    let l4 = ap length e4 ∙ written-length o3 p3 (decimal n) (omega arith) in
    written_one o4 p4 10 (omega arith)
    ∙ then o3 p3 (decimal n) (10 ∷ []) o4 p4 (omega arith) e4 q4
    ∙ then o2 p2 entries_word (decimal n ++ (10 ∷ [])) o3 p3 (omega arith) e3 q3
    ∙ then o1 p1 (decimal k) (entries_word ++ (decimal n ++ (10 ∷ []))) o2 p2 (omega arith) e2 q2
    ∙ then out at fields_word (decimal k ++ (entries_word ++ (decimal n ++ (10 ∷ [])))) o1 p1 (omega arith) e1 q1
    ∙ ap (written out at) (sym (title-pieces k n (10 ∷ [])))

-- a pair of an entry line
pub pair_size : (name : ℕ) (x : ℤ) (end : ℕ) → length (pair_of name x end) ≡ length (signed x) + 3
pair_size name x end = let a = length-append (signed x) (end ∷ []) in omega arith

pub pair-written : (out : List ℕ) (at name : ℕ) (x : ℤ) (end : ℕ) → at + length (pair_of name x end) ≤ length out
    → (o : List ℕ) (to : ℕ) → o ≡ written (set (set out at name) (at + 1) 61) (at + 2) (signed x) → to ≡ at + 2 + length (signed x)
    → set o to end ≡ written out at (pair_of name x end)
pair-written out at name x end f o to p q =
    let s = pair_size name x end in
    let a = length-append (signed x) (end ∷ []) in
    let w : set (set out at name) (at + 1) 61 ≡ written out at (name ∷ 61 ∷ []) =
    ap (λ l. set l (at + 1) 61) (written_one out at name (omega arith)) ∙ written-more out at (name ∷ []) 61 (omega arith) in
    let n = length-set out at name in
    let n2 = length-set (set out at name) (at + 1) 61 in
    let l = ap length p ∙ written-length (set (set out at name) (at + 1) 61) (at + 2) (signed x) (omega arith) in
    written_one o to end (omega arith)
    ∙ then (set (set out at name) (at + 1) 61) (at + 2) (signed x) (end ∷ []) o to (omega arith) p q
    ∙ then out at (name ∷ 61 ∷ []) (signed x ++ (end ∷ [])) (set (set out at name) (at + 1) 61) (at + 2) (omega arith) w refl
