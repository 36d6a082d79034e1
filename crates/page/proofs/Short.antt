-- No line of a print is longer than 160 bytes.
use mathlib.Core.Path.{◌≡◌, subst}
use mathlib.Core.List.{List, [], ◌∷◌, ◌++◌}
use Prim.Native.Nat.{ℕ, suc, ◌+◌, ◌*◌, ◌^◌, ◌≤◌, ◌<◌}
use native.Mathlib.Omega.{arith}
use lib.ListN.{length, take, length-append}
use lib.Seq.{length-take-le}
use lib.IntN.{ℤ}
use Rattle.model.specs.Entry.{Entry, cut_field}
use Rattle.model.specs.Text.{decimal, pairs, signed}
use Rattle.model.specs.Answer.{outward, number_of}
use Rattle.model.specs.Show.{refusal_line}
use Rattle.model.specs.declared.Refusal.{Refusal}
use Rattle.model.specs.declared.Refusal.TheVariants.{Fields, Capacity, Lengths, Unsound, Present, Missing, Full, Room, Text, Mismatch, Step, Tray}
use Rattle.model.specs.declared.Entry.{Entry as Four}
use Rattle.cells.specs.Slots.{numbers_of}
use Rattle.cells.proofs.Slots.{numbers-long}
use Rattle.rank.specs.Ranking.{InTable}
use Rattle.weigh.proofs.Inward.{back_in}
use Rattle.print.specs.Place.{Puts}
use Rattle.print.proofs.Decimals.{decimal-short}
use Rattle.print.proofs.Signs.{signed-short}
use Rattle.page.specs.Trees.{entry_line, totals, PutEntry}
use mir.Syntax.{w64}
use mir.Val.{Val}
use denote.Array.{Array}
use denote.Laws.{Is}
use denote.Signed.{SInt}
use Rattle.page.proofs.Bits.{Small, array-small, array_long, front-small}

-- pairs of numbers of 64 bits
pairs-short : (name : ℕ) (e : Entry) → Small e → length (pairs name e) ≤ 24 * length e
pairs-short name [] h = omega arith
pairs-short name (x ∷ []) h = let a = signed-short x (h 0 (omega arith)) in omega arith
pairs-short name (x ∷ y ∷ xs) h =
    let a = signed-short x (h 0 (omega arith)) in
    let b = pairs-short (suc name) (y ∷ xs) (λ i l. h (suc i) (omega arith)) in
    let l = length-append (signed x) (32 ∷ pairs (suc name) (y ∷ xs)) in
    omega arith

pub entry-short : (K t s : ℕ) (e : Entry) → t < 2 ^ 64 → s < 2 ^ 64 → length e ≤ 4 → Small e → length (entry_line K t s e) ≤ 160
unfolding entry_line
entry-short K t s e ht hs l h =
    let p = pairs-short 97 e h in
    let a = decimal-short t (omega arith) in
    let b = decimal-short s (omega arith) in
    let x = pairs 97 e ++ (10 ∷ []) in
    let q = length-append (pairs 97 e) (10 ∷ []) in
    let m = length-append (decimal t) (32 ∷ 99 ∷ 117 ∷ 116 ∷ 61 ∷ (97 + cut_field K t) ∷ 32 ∷ x) in
    let n = length-append (decimal s) (32 ∷ 100 ∷ 101 ∷ 112 ∷ 116 ∷ 104 ∷ 61 ∷ (decimal t ++ (32 ∷ 99 ∷ 117 ∷ 116 ∷ 61 ∷ (97 + cut_field K t) ∷ 32 ∷ x))) in
    omega arith

-- the line of an entry that was read by value
module _ (K t s : ℕ) (f : List ℤ) (vs : List Val) (own : Is (Array (SInt w64) 4) f vs) (k : K ≤ 4) (ht : t < 2 ^ 64) (hs : s < 2 ^ 64) where
  pub part-long : length (take K f) ≡ K
  part-long = let four = array_long 4 f vs own in length-take-le K f (omega arith)

  pub line-short : length (entry_line K t s (take K f)) ≤ 160
  line-short = let n = part-long in entry-short K t s (take K f) ht hs (omega arith) (front-small K f (array-small 4 f vs own))

  pub line-ready : (room : List ℕ) (at : ℕ) → at + 160 ≤ length room → at + length (entry_line K t s (take K f)) ≤ length room
  line-ready room at h = let n = line-short in omega arith

-- the numbers of slot s, as it was read
pub read_back : (K : ℕ) (ks : List ℤ) (s : ℕ) (e : Four) → InTable K (length ks) s → e ≡ outward (numbers_of K ks s) → take K e.f ≡ numbers_of K ks s
read_back K ks s e t q = back_in K (numbers_of K ks s) e (numbers-long K ks s t.keyed) q

pub entry-put-in : (K : ℕ) (ks : List ℤ) (s t : ℕ) (x : Entry) (room o : List ℕ) (at p : ℕ) → x ≡ numbers_of K ks s → length (entry_line K t s x) ≤ 160 → Puts room at (entry_line K t s x) o p → PutEntry K ks s t room o at p
entry-put-in K ks s t x room o at p e h w = record { put = subst (λ (y : Entry). Puts room at (entry_line K t s y) o p) e w; short = subst (λ (y : Entry). length (entry_line K t s y) ≤ 160) e h }

pub totals-short : (n h f : ℕ) → n < 2 ^ 64 → h < 2 ^ 64 → f < 2 ^ 64 → length (totals n h f) ≤ 160
unfolding totals
totals-short n h f p q r =
    let a = decimal-short n (omega arith) in
    let b = decimal-short h (omega arith) in
    let c = decimal-short f (omega arith) in
    let x = length-append (decimal f) (10 ∷ []) in
    let y = length-append (decimal h) (32 ∷ 102 ∷ 114 ∷ 101 ∷ 101 ∷ 61 ∷ (decimal f ++ (10 ∷ []))) in
    let z = length-append (decimal n) (32 ∷ 104 ∷ 101 ∷ 105 ∷ 103 ∷ 104 ∷ 116 ∷ 61 ∷ (decimal h ++ (32 ∷ 102 ∷ 114 ∷ 101 ∷ 101 ∷ 61 ∷ (decimal f ++ (10 ∷ []))))) in
    omega arith

number_small : (r : Refusal) → number_of r < 13
number_small Fields = omega arith
number_small Capacity = omega arith
number_small Lengths = omega arith
number_small Unsound = omega arith
number_small Present = omega arith
number_small Missing = omega arith
number_small Full = omega arith
number_small Room = omega arith
number_small Text = omega arith
number_small Mismatch = omega arith
number_small Step = omega arith
number_small Tray = omega arith

refusal-short : (r : Refusal) (l : ℕ) → l < 2 ^ 64 → length (refusal_line r l) ≤ 160
refusal-short r l h =
    let s = number_small r in
    let a = decimal-short (number_of r) (omega arith) in
    let b = decimal-short l (omega arith) in
    let x = length-append (decimal l) (10 ∷ []) in
    let y = length-append (decimal (number_of r)) (32 ∷ 108 ∷ 105 ∷ 110 ∷ 101 ∷ 61 ∷ (decimal l ++ (10 ∷ []))) in
    omega arith

pub refusal-fits : (r : Refusal) (l : ℕ) (room : List ℕ) → l < 2 ^ 64 → 160 ≤ length room → length (refusal_line r l) ≤ length room
refusal-fits r l room h f = go (length (refusal_line r l)) (refusal-short r l h)
  where
    go : (n : ℕ) → n ≤ 160 → n ≤ length room
    go n e = omega arith
