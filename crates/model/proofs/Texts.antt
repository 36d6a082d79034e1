-- Taking in accepts exactly the texts that saving writes, and gives back what was saved.
use mathlib.Core.Path.{◌≡◌, refl, ap, ◌∙◌}
use mathlib.Core.List.{List, [], ◌∷◌, ◌++◌}
use mathlib.Core.Option.{Option, none, some}
use mathlib.Core.Bool.{Bool, true, false, ◌&&◌}
use Prim.Native.Nat.{ℕ, zero, suc, ◌≤◌}
use native.Mathlib.Omega.{arith}
use lib.ListN.{length, drop}
use Rattle.model.specs.Entry.{Entry, cmp}
use Rattle.model.specs.Text.{Parsed, body, broken, cut_line, decimal, entry_lines, entry_of_line, following, number, numbers, pairs, parse, ranged, rises, same, saved, text_of, title, title_of_line}
use Rattle.model.proofs.Adds.{less-unlike}
use Rattle.model.proofs.Lists.{Every, OnceEach, every-join, every_map}
use Rattle.model.proofs.Orders.{cmp-trans}
use Rattle.model.proofs.Prints.{High, KN, Parted, cut-back, cut-join, decimal-high, entry-back, entry-line, pairs-high, title-back, title-line}
use Rattle.model.proofs.Trees.{Less, is_less-true}

numbers-length : (k : ℕ) (bs : List ℕ) → length (numbers k bs) ≡ k
numbers-length zero bs = refl
numbers-length (suc k) bs = ap suc (numbers-length k (drop 1 (number (drop 2 bs)).1))

pub line-length : (K : ℕ) (l : List ℕ) (e : Entry) → entry_of_line K l ≡ some e → length e ≡ K
unfolding entry_of_line
line-length K l e h = go (same (pairs 97 (numbers K l)) l && ranged (numbers K l)) h
  where
    go : (o : Bool) → ◌≡◌ {A = Option Entry} (elim o as (λ x. Option Entry) [ true ↦ some (numbers K l) | false ↦ none ]) (some e) → length e ≡ K
    go true q = let z : numbers K l ≡ e = cc in rw (← z) (numbers-length K l)
    go false q = let z : ◌≡◌ {A = ℕ} 0 1 = cc in absurd (omega arith)

-- each rises behind the one before it
abbrev pub RiseFrom : Option Entry → List Entry → Type 0
RiseFrom last [] = Unit {0}
RiseFrom last (e ∷ es) = (rises last e ≡ true) × RiseFrom (some e) es

-- rising lists have no two alike
pub rise-all : (d : Entry) (es : List Entry) → RiseFrom (some d) es → Every (Less 0 d) es
rise-all d [] h = tt
rise-all d (e ∷ es) (h, hs) =
    let c : Less 0 d e = is_less-true (cmp 0 d e) h in
    (c, every_map (Less 0 e) (Less 0 d) (λ x g. cmp-trans 0 d e x c g) es (rise-all e es hs))

pub rise-once : (last : Option Entry) (es : List Entry) → RiseFrom last es → OnceEach es
rise-once last [] h = tt
rise-once last (e ∷ es) (h, hs) = (every_map (Less 0 e) (λ x. ¬ (e ≡ x)) (λ x g. less-unlike 0 e x g) es (rise-all e es hs), rise-once (some e) es hs)

-- what saving writes is taken in as it was
pub record Writable (K : ℕ) (last : Option Entry) (es : List Entry) : Type 0 where
  pub sized : Every (λ e. length e ≡ K) es
  pub ranged : Every (λ e. ranged e ≡ true) es
  pub rising : RiseFrom last es

pub body-step : (m K line : ℕ) (last : Option Entry) (bs : List ℕ) (c : Parted) (e : Entry) → cut_line bs ≡ some c → entry_of_line K c.0 ≡ some e → rises last e ≡ true → body (suc m) K line last bs ≡ following e (body m K (suc line) (some e) c.1)
body-step m K line last bs c e x y z = rw (x, body) (rw y (rw z refl))

pub body_back : (K line : ℕ) (last : Option Entry) (es : List Entry) → Every (λ e. length e ≡ K) es → Every (λ e. ranged e ≡ true) es → RiseFrom last es → body (length es) K line last (entry_lines es) ≡ saved K es
body_back K line last [] n r h = refl
body_back K line last (e ∷ es) (n, ns) (r, rs) (h, hs) =
    body-step (length es) K line last (entry_lines (e ∷ es)) (pairs 97 e, entry_lines es) e (cut-back (pairs 97 e) (entry_lines es) (pairs-high 97 e (omega arith))) (entry-back K e n r) h
    ∙ ap (following e) (body_back K (suc line) (some e) es ns rs hs)

title-high : (K N : ℕ) → Every High (title K N)
title-high K N = every-join High (98 ∷ 111 ∷ 111 ∷ 107 ∷ 61 ∷ 49 ∷ 32 ∷ 102 ∷ 105 ∷ 101 ∷ 108 ∷ 100 ∷ 115 ∷ 61 ∷ []) (decimal K ++ ((32 ∷ 101 ∷ 110 ∷ 116 ∷ 114 ∷ 105 ∷ 101 ∷ 115 ∷ 61 ∷ []) ++ decimal N)) (omega arith) (every-join High (decimal K) ((32 ∷ 101 ∷ 110 ∷ 116 ∷ 114 ∷ 105 ∷ 101 ∷ 115 ∷ 61 ∷ []) ++ decimal N) (decimal-high K) (every-join High (32 ∷ 101 ∷ 110 ∷ 116 ∷ 114 ∷ 105 ∷ 101 ∷ 115 ∷ 61 ∷ []) (decimal N) (omega arith) (decimal-high N)))

parse-step : (text : List ℕ) (c : Parted) (kn : KN) → cut_line text ≡ some c → title_of_line c.0 ≡ some kn → parse text ≡ body kn.1 kn.0 2 none c.1
unfolding parse
parse-step text c kn x y = rw (x, parse) (rw y refl)

pub saved-back : (K : ℕ) (es : List Entry) → 1 ≤ K → K ≤ 4 → length es ≤ 4096 → Writable K none es → parse (text_of K es) ≡ saved K es
unfolding text_of
saved-back K es a b c w = parse-step (title K (length es) ++ (10 ∷ entry_lines es)) (title K (length es), entry_lines es) (K, length es) (cut-back (title K (length es)) (entry_lines es) (title-high K (length es))) (title-back K (length es) a b c) ∙ body_back K 2 none es w.sized w.ranged w.rising

-- and nothing else is taken in
pub record Saved (m K : ℕ) (last : Option Entry) (bs : List ℕ) (k : ℕ) (es : List Entry) : Type 0 where
  pub same_fields : k ≡ K
  pub written : bs ≡ entry_lines es
  pub many : length es ≡ m
  pub writable : Writable K last es

-- a body's first line: broken there, or right, with the others behind it
pub body-by : (P : Parsed → Type 0) (m K line : ℕ) (last : Option Entry) (bs : List ℕ)
    → (cut_line bs ≡ none → P (broken line))
    → ((c : Parted) → cut_line bs ≡ some c → entry_of_line K c.0 ≡ none → P (broken line))
    → ((c : Parted) (e : Entry) → cut_line bs ≡ some c → entry_of_line K c.0 ≡ some e → rises last e ≡ false → P (broken line))
    → ((c : Parted) (e : Entry) → cut_line bs ≡ some c → entry_of_line K c.0 ≡ some e → rises last e ≡ true → P (following e (body m K (suc line) (some e) c.1)))
    → P (body (suc m) K line last bs)
body-by P m K line last bs p q r s = go1 (cut_line bs) refl
  where
    go3 : (c : Parted) (e : Entry) (o : Bool) → cut_line bs ≡ some c → entry_of_line K c.0 ≡ some e → rises last e ≡ o → P (body (suc m) K line last bs)
    go3 c e true x y z = rw (x, body) (rw y (rw z (s c e x y z)))
    go3 c e false x y z = rw (x, body) (rw y (rw z (r c e x y z)))

    go2 : (c : Parted) (o : Option Entry) → cut_line bs ≡ some c → entry_of_line K c.0 ≡ o → P (body (suc m) K line last bs)
    go2 c none x y = rw (x, body) (rw y (q c x y))
    go2 c (some e) x y = go3 c e (rises last e) x y refl

    go1 : (o : Option Parted) → cut_line bs ≡ o → P (body (suc m) K line last bs)
    go1 none x = rw (x, body) (p x)
    go1 (some c) x = go2 c (entry_of_line K c.0) x refl

not_saved : {X : Type 0} (l k : ℕ) (es : List Entry) → broken l ≡ saved k es → X
not_saved l k es w = let z : ◌≡◌ {A = ℕ} 0 1 = cc in absurd (omega arith)

saved-on : (m K : ℕ) (last : Option Entry) (bs : List ℕ) (c : Parted) (e : Entry) (p : Parsed) (k : ℕ) (es : List Entry) → bs ≡ c.0 ++ (10 ∷ c.1) → entry_of_line K c.0 ≡ some e → rises last e ≡ true → ((j : ℕ) (ds : List Entry) → p ≡ saved j ds → Saved m K (some e) c.1 j ds) → following e p ≡ saved k es → Saved (suc m) K last bs k es
saved-on m K last bs c e (broken l) k es x y z f w = not_saved l k es w
saved-on m K last bs c e (saved j ds) k es x y z f w =
    let a : j ≡ k = cc in
    let b : e ∷ ds ≡ es = cc in
    let l = entry-line K c.0 e y in
    let g = f j ds refl in
    rw (← a, ← b)
    record {
      same_fields = g.same_fields;
      written = x ∙ rw (← l.0) (ap (λ t. pairs 97 e ++ (10 ∷ t)) g.written);
      many = ap suc g.many;
      writable = record { sized = (line-length K c.0 e y, g.writable.sized); ranged = (l.1, g.writable.ranged); rising = (z, g.writable.rising) };
    }

pub body-saved : (m K line : ℕ) (last : Option Entry) (bs : List ℕ) (k : ℕ) (es : List Entry) → body m K line last bs ≡ saved k es → Saved m K last bs k es
body-saved zero K line last [] k es q =
    let a : K ≡ k = cc in
    let b : ◌≡◌ {A = List Entry} [] es = cc in
    rw (← a, ← b) record { same_fields = refl; written = refl; many = refl; writable = record { sized = tt; ranged = tt; rising = tt } }
body-saved zero K line last (c ∷ bs) k es q = not_saved line k es q
body-saved (suc m) K line last bs k es q =
    body-by (λ p. p ≡ saved k es → Saved (suc m) K last bs k es) m K line last bs
    (λ x. not_saved line k es) (λ c x y. not_saved line k es) (λ c e x y z. not_saved line k es)
    (λ c e x y z. saved-on m K last bs c e (body m K (suc line) (some e) c.1) k es (cut-join bs c x) y z (λ j ds w. body-saved m K (suc line) (some e) c.1 j ds w))
    q

-- a text: no right first line, or a body behind it
pub parse-by : (P : Parsed → Type 0) (text : List ℕ)
    → (cut_line text ≡ none → P (broken 1))
    → ((c : Parted) → cut_line text ≡ some c → title_of_line c.0 ≡ none → P (broken 1))
    → ((c : Parted) (kn : KN) → cut_line text ≡ some c → title_of_line c.0 ≡ some kn → P (body kn.1 kn.0 2 none c.1))
    → P (parse text)
unfolding parse
parse-by P text p q r = go1 (cut_line text) refl
  where
    go2 : (c : Parted) (o : Option KN) → cut_line text ≡ some c → title_of_line c.0 ≡ o → P (parse text)
    go2 c none x y = rw (x, parse) (rw y (q c x y))
    go2 c (some kn) x y = rw (x, parse) (rw y (r c kn x y))

    go1 : (o : Option Parted) → cut_line text ≡ o → P (parse text)
    go1 none x = rw (x, parse) (p x)
    go1 (some c) x = go2 c (title_of_line c.0) x refl

pub record Taken (text : List ℕ) (k : ℕ) (es : List Entry) : Type 0 where
  pub printed : text ≡ text_of k es
  pub low : 1 ≤ k
  pub high : k ≤ 4
  pub few : length es ≤ 4096
  pub writable : Writable k none es

pub only-saved : (text : List ℕ) (k : ℕ) (es : List Entry) → parse text ≡ saved k es → Taken text k es
unfolding text_of
only-saved text k es = parse-by (λ p. p ≡ saved k es → Taken text k es) text (λ x. not_saved 1 k es) (λ c x y. not_saved 1 k es) on
  where
    on : (c : Parted) (kn : KN) → cut_line text ≡ some c → title_of_line c.0 ≡ some kn → body kn.1 kn.0 2 none c.1 ≡ saved k es → Taken text k es
    on c kn x y q =
        let s = body-saved kn.1 kn.0 2 none c.1 k es q in
        let t = title-line c.0 kn y in
        let e : k ≡ kn.0 = s.same_fields in
        record {
          printed = cut-join text c x ∙ rw (← t.0, s.written, s.many, e) refl;
          low = rw e t.1;
          high = rw e t.2;
          few = rw s.many t.3;
          writable = rw (← e) at s.writable;
        }

-- its entry lines stand behind its first line
pub taken-cut : (text : List ℕ) (k : ℕ) (es : List Entry) → Taken text k es → cut_line text ≡ some (title k (length es), entry_lines es)
unfolding text_of
taken-cut text k es t = ap cut_line t.printed ∙ cut-back (title k (length es)) (entry_lines es) (title-high k (length es))
