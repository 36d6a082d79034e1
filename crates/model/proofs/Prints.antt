-- A number, a line, the first line: what is written is read back, and what is read back was so written.
use mathlib.Core.Path.{◌≡◌, refl, sym, ap, ap₂, ◌∙◌}
use mathlib.Core.List.{List, [], ◌∷◌, ◌++◌, append-nil}
use mathlib.Core.Option.{Option, none, some}
use mathlib.Core.Bool.{Bool, true, false, ◌&&◌, false≢true}
use Prim.Native.Nat.{ℕ, zero, suc, ◌+◌, ◌-◌, ◌*◌, ◌/◌, ◌%◌, ◌≤◌, ◌<◌}
use native.Mathlib.Omega.{arith}
use lib.Dec.{leb, ltb, eqb}
use lib.ListN.{length, drop}
use lib.IntN.{ℤ, pos, negsuc}
use borrow.Author.Tests.{eqb-true, eq-eqb, ne_eqb, leb-true, le-leb, lt-leb, ltb-true, ltb-false}
use Rattle.model.specs.Book.{rest}
use Rattle.model.specs.Entry.{Entry}
use Rattle.model.specs.Text.{cut_line, decimal, digits, digits_of, entry_of_line, minus, number, numbers, pairs, ranged, same, signed, title, title_of_line}
use Rattle.model.proofs.Lists.{Every, every-join, every_map}
use Rattle.model.proofs.Trees.{both, pair}

-- writing, then reading: a number
pub digit-step : (b n : ℕ) (bs : List ℕ) → 48 ≤ b → b ≤ 57 → digits (b ∷ bs) n ≡ digits bs (n * 10 + (b - 48))
digit-step b n bs g h = rw (pair (le-leb 48 b g) (le-leb b 57 h), digits) refl

digit-stop : (b n : ℕ) (bs : List ℕ) → b < 48 → digits (b ∷ bs) n ≡ (n, b ∷ bs)
digit-stop b n bs g = rw (lt-leb 48 b g, digits) refl

decimal-digits : (f n : ℕ) (acc rest : List ℕ) → n ≤ f → digits (digits_of f n acc ++ rest) 0 ≡ digits (acc ++ rest) n
decimal-digits zero n acc rest h =
    let z : n ≡ 0 = omega arith in
    rw z (digit-step 48 0 (acc ++ rest) (omega arith) (omega arith))
decimal-digits (suc f) n acc rest h = go (ltb n 10) refl (decimal-digits f (n / 10) ((48 + n % 10) ∷ acc) rest)
  where
    go : (o : Bool) → ltb n 10 ≡ o → (n / 10 ≤ f → digits (digits_of f (n / 10) ((48 + n % 10) ∷ acc) ++ rest) 0 ≡ digits (((48 + n % 10) ∷ acc) ++ rest) (n / 10)) → digits (digits_of (suc f) n acc ++ rest) 0 ≡ digits (acc ++ rest) n
    go true e ih =
        let a : n < 10 = ltb-true n 10 e in
        let v : 0 * 10 + (48 + n - 48) ≡ n = omega arith in
        rw (e, digits_of) (digit-step (48 + n) 0 (acc ++ rest) (omega arith) (omega arith) ∙ ap (digits (acc ++ rest)) v)
    go false e ih =
        let a : 10 ≤ n = ltb-false n 10 e in
        let v : n / 10 * 10 + (48 + n % 10 - 48) ≡ n = omega arith in
        rw (e, digits_of) (ih (omega arith) ∙ digit-step (48 + n % 10) (n / 10) (acc ++ rest) (omega arith) (omega arith) ∙ ap (digits (acc ++ rest)) v)

-- what cannot go on a number
abbrev Stops : List ℕ → Type 0
Stops [] = Unit {0}
Stops (b ∷ bs) = b < 48

stops : (n : ℕ) (rest : List ℕ) → Stops rest → digits rest n ≡ (n, rest)
stops n [] h = refl
stops n (b ∷ bs) h = digit-stop b n bs h

pub decimal-back : (n : ℕ) (rest : List ℕ) → Stops rest → digits (decimal n ++ rest) 0 ≡ (n, rest)
decimal-back n rest h = decimal-digits n n [] rest (omega arith) ∙ stops n rest h

-- its bytes are digits, and there is one
abbrev Digit : ℕ → Type 0
Digit b = (48 ≤ b) × (b ≤ 57)

decimal-all : (f n : ℕ) (acc : List ℕ) → n ≤ f → Every Digit acc → Every Digit (digits_of f n acc)
decimal-all zero n acc h k = ((omega arith, omega arith), k)
decimal-all (suc f) n acc h k = go (ltb n 10) refl (λ g x. decimal-all f (n / 10) ((48 + n % 10) ∷ acc) g x)
  where
    go : (o : Bool) → ltb n 10 ≡ o → (n / 10 ≤ f → Every Digit ((48 + n % 10) ∷ acc) → Every Digit (digits_of f (n / 10) ((48 + n % 10) ∷ acc))) → Every Digit (digits_of (suc f) n acc)
    go true e ih = let a : n < 10 = ltb-true n 10 e in rw (e, digits_of) ((omega arith, omega arith), k)
    go false e ih = let a : 10 ≤ n = ltb-false n 10 e in rw (e, digits_of) (ih (omega arith) ((omega arith, omega arith), k))

abbrev First : List ℕ → Type 0
First [] = ⊥
First (b ∷ bs) = 48 ≤ b

first_of : (bs : List ℕ) → Every Digit bs → 1 ≤ length bs → First bs
first_of [] h k = omega arith
first_of (b ∷ bs) (h, hs) k = h.0

decimal-long : (f n : ℕ) (acc : List ℕ) → 1 ≤ length (digits_of f n acc)
decimal-long f n acc = go f n acc
  where
    go : (f n : ℕ) (acc : List ℕ) → 1 ≤ length (digits_of f n acc)
    go zero n acc = omega arith
    go (suc f) n acc = step (ltb n 10) refl (go f (n / 10) ((48 + n % 10) ∷ acc))
      where
        step : (o : Bool) → ltb n 10 ≡ o → 1 ≤ length (digits_of f (n / 10) ((48 + n % 10) ∷ acc)) → 1 ≤ length (digits_of (suc f) n acc)
        step true e ih = rw (e, digits_of) (omega arith)
        step false e ih = rw (e, digits_of) ih

number-pos : (bs rest : List ℕ) → First bs → number (bs ++ rest) ≡ (pos (digits (bs ++ rest) 0).0, (digits (bs ++ rest) 0).1)
number-pos [] rest h = absurd h
number-pos (b ∷ bs) rest h = rw (ne_eqb b 45 (λ e. not45 e), number) refl
  where
    not45 : b ≡ 45 → ⊥
    not45 e = omega arith

pub signed_back : (x : ℤ) (rest : List ℕ) → Stops rest → number (signed x ++ rest) ≡ (x, rest)
signed_back (pos a) rest h = number-pos (decimal a) rest (first_of (decimal a) (decimal-all a a [] (omega arith) tt) (decimal-long a a [])) ∙ ap {B = ℤ × List ℕ} (λ d. (pos d.0, d.1)) (decimal-back a rest h)
signed_back (negsuc a) rest h = ap {B = ℤ × List ℕ} (λ d. (minus d.0, d.1)) (decimal-back (suc a) rest h)

-- an entry
pub pairs-back : (name : ℕ) (e : Entry) → numbers (length e) (pairs name e) ≡ e
pairs-back name [] = refl
pairs-back name (x ∷ []) =
    let e : number (signed x) ≡ (x, []) = ap number (sym (append-nil (signed x))) ∙ signed_back x [] tt in
    ap (λ d. d.0 ∷ []) e
pairs-back name (x ∷ y ∷ xs) =
    let e : number (signed x ++ (32 ∷ pairs (suc name) (y ∷ xs))) ≡ (x, 32 ∷ pairs (suc name) (y ∷ xs)) = signed_back x (32 ∷ pairs (suc name) (y ∷ xs)) (omega arith) in
    ap (λ d. d.0 ∷ numbers (suc (length xs)) (drop 1 d.1)) e ∙ ap (λ z. x ∷ z) (pairs-back (suc name) (y ∷ xs))

pub same_refl : (xs : List ℕ) → same xs xs ≡ true
same_refl [] = refl
same_refl (x ∷ xs) = pair (eq-eqb x x refl) (same_refl xs)

pub same_true : (xs ys : List ℕ) → same xs ys ≡ true → xs ≡ ys
same_true [] [] h = refl
same_true [] (y ∷ ys) h = absurd (false≢true h)
same_true (x ∷ xs) [] h = absurd (false≢true h)
same_true (x ∷ xs) (y ∷ ys) h = let a = both (eqb x y) (same xs ys) h in ap₂ (λ p q. p ∷ q) (eqb-true x y a.0) (same_true xs ys a.1)

picked : {A : Type 0} (o : Bool) (a : A) → o ≡ true → ◌≡◌ {A = Option A} (elim o as (λ x. Option A) [ true ↦ some a | false ↦ none ]) (some a)
picked true a h = refl
picked false a h = absurd (false≢true h)

unpicked : {A : Type 0} (o : Bool) (a b : A) → ◌≡◌ {A = Option A} (elim o as (λ x. Option A) [ true ↦ some a | false ↦ none ]) (some b) → (o ≡ true) × (a ≡ b)
unpicked true a b h = (refl, cc)
unpicked false a b h = let z : ◌≡◌ {A = ℕ} 0 1 = cc in absurd (omega arith)

pub entry-back : (K : ℕ) (e : Entry) → length e ≡ K → ranged e ≡ true → entry_of_line K (pairs 97 e) ≡ some e
unfolding entry_of_line
entry-back K e n r =
    let f : numbers K (pairs 97 e) ≡ e = rw (← n) (pairs-back 97 e) in
    ap {B = Option Entry} (λ d. elim (same (pairs 97 d) (pairs 97 e) && ranged d) as (λ x. Option Entry) [ true ↦ some d | false ↦ none ]) f ∙ picked (same (pairs 97 e) (pairs 97 e) && ranged e) e (pair (same_refl (pairs 97 e)) r)

pub entry-line : (K : ℕ) (l : List ℕ) (e : Entry) → entry_of_line K l ≡ some e → (pairs 97 e ≡ l) × (ranged e ≡ true)
unfolding entry_of_line
entry-line K l e h =
    let u = unpicked (same (pairs 97 (numbers K l)) l && ranged (numbers K l)) (numbers K l) e h in
    let a = both (same (pairs 97 (numbers K l)) l) (ranged (numbers K l)) u.0 in
    (rw (← u.1) (same_true (pairs 97 (numbers K l)) l a.0), rw (← u.1) a.1)

abbrev pub KN : Type 0
KN = ℕ × ℕ

pub title-back : (K N : ℕ) → 1 ≤ K → K ≤ 4 → N ≤ 4096 → title_of_line (title K N) ≡ some (K, N)
unfolding title_of_line
title-back K N a b c =
    let tail : List ℕ = (32 ∷ 101 ∷ 110 ∷ 116 ∷ 114 ∷ 105 ∷ 101 ∷ 115 ∷ 61 ∷ []) ++ decimal N in
    let d : digits (decimal K ++ tail) 0 ≡ (K, tail) = decimal-back K tail (omega arith) in
    let e : digits (decimal N) 0 ≡ (N, []) = ap (λ x. digits x 0) (sym (append-nil (decimal N))) ∙ decimal-back N [] tt in
    ap {B = Option KN} (λ k. elim (same (title k.0 (digits (drop 9 k.1) 0).0) (title K N) && ((leb 1 k.0 && leb k.0 4) && leb (digits (drop 9 k.1) 0).0 4096)) as (λ x. Option KN) [ true ↦ some (k.0, (digits (drop 9 k.1) 0).0) | false ↦ none ]) d
    ∙ ap {B = Option KN} (λ n. elim (same (title K n.0) (title K N) && ((leb 1 K && leb K 4) && leb n.0 4096)) as (λ x. Option KN) [ true ↦ some (K, n.0) | false ↦ none ]) e
    ∙ picked {A = KN} (same (title K N) (title K N) && ((leb 1 K && leb K 4) && leb N 4096)) (K, N) (pair (same_refl (title K N)) (pair (pair (le-leb 1 K a) (le-leb K 4 b)) (le-leb N 4096 c)))

pub title-line : (l : List ℕ) (kn : KN) → title_of_line l ≡ some kn → (title kn.0 kn.1 ≡ l) × (1 ≤ kn.0) × (kn.0 ≤ 4) × (kn.1 ≤ 4096)
unfolding title_of_line
title-line l kn h =
    let k : ℕ × List ℕ = digits (drop 14 l) 0 in
    let n : ℕ × List ℕ = digits (drop 9 k.1) 0 in
    let u = unpicked {A = KN} (same (title k.0 n.0) l && ((leb 1 k.0 && leb k.0 4) && leb n.0 4096)) (k.0, n.0) kn h in
    let a = both (same (title k.0 n.0) l) ((leb 1 k.0 && leb k.0 4) && leb n.0 4096) u.0 in
    let b = both (leb 1 k.0 && leb k.0 4) (leb n.0 4096) a.1 in
    let c = both (leb 1 k.0) (leb k.0 4) b.0 in
    rw (← u.1) (same_true (title k.0 n.0) l a.0, leb-true 1 k.0 c.0, leb-true k.0 4 c.1, leb-true n.0 4096 b.1)

-- no LF inside a line
abbrev pub High : ℕ → Type 0
High b = 11 ≤ b

pub decimal-high : (n : ℕ) → Every High (decimal n)
decimal-high n = every_map Digit High (λ b d. omega arith) (decimal n) (decimal-all n n [] (omega arith) tt)

signed_high : (x : ℤ) → Every High (signed x)
signed_high (pos a) = decimal-high a
signed_high (negsuc a) = (omega arith, decimal-high (suc a))

pub pairs-high : (name : ℕ) (e : Entry) → 11 ≤ name → Every High (pairs name e)
pairs-high name [] h = tt
pairs-high name (x ∷ []) h = (h, (omega arith, signed_high x))
pairs-high name (x ∷ y ∷ xs) h = (h, (omega arith, every-join High (signed x) (32 ∷ pairs (suc name) (y ∷ xs)) (signed_high x) (omega arith, pairs-high (suc name) (y ∷ xs) (omega arith))))

abbrev pub Parted : Type 0
Parted = List ℕ × List ℕ

pub cut-back : (l rest : List ℕ) → Every High l → cut_line (l ++ (10 ∷ rest)) ≡ some (l, rest)
cut-back [] rest h = refl
cut-back (b ∷ l) rest (h, hs) = rw (ne_eqb b 10 (λ e. not10 e), cut_line) (ap {B = Option Parted} (λ o. elim o as (λ x. Option Parted) [ none ↦ none | some c ↦ some ((b ∷ c.0), c.1) ]) (cut-back l rest hs))
  where
    not10 : b ≡ 10 → ⊥
    not10 e = omega arith

pub cut-join : (bs : List ℕ) (c : Parted) → cut_line bs ≡ some c → bs ≡ c.0 ++ (10 ∷ c.1)
cut-join [] c h = let z : ◌≡◌ {A = ℕ} 0 1 = cc in absurd (omega arith)
cut-join (b ∷ bs) c h = go (eqb b 10) refl (cut_line bs) refl (λ d q. cut-join bs d q)
  where
    go : (o : Bool) → eqb b 10 ≡ o → (p : Option Parted) → cut_line bs ≡ p → ((d : Parted) → cut_line bs ≡ some d → bs ≡ d.0 ++ (10 ∷ d.1)) → b ∷ bs ≡ c.0 ++ (10 ∷ c.1)
    go true e p q ih =
        let w : ◌≡◌ {A = Parted} ([], bs) c = unsome (rw (e, cut_line) at h) in
        rw (← w) (ap (λ x. x ∷ bs) (eqb-true b 10 e))
      where
        unsome : {x y : Parted} → some x ≡ some y → x ≡ y
        unsome r = cc
    go false e none q ih = never (rw q at (rw (e, cut_line) at h))
      where
        never : ◌≡◌ {A = Option Parted} none (some c) → b ∷ bs ≡ c.0 ++ (10 ∷ c.1)
        never r = let z : ◌≡◌ {A = ℕ} 0 1 = cc in absurd (omega arith)
    go false e (some d) q ih =
        let w : ◌≡◌ {A = Parted} ((b ∷ d.0), d.1) c = unsome (rw q at (rw (e, cut_line) at h)) in
        rw (← w) (ap (λ x. b ∷ x) (ih d q))
      where
        unsome : {x y : Parted} → some x ≡ some y → x ≡ y
        unsome r = cc
