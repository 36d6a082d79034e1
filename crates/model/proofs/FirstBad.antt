-- The line of a refusal 9 is the first that is not right; in a text that is taken in every line is right.
use mathlib.Core.Path.{◌≡◌, refl, ap, ◌∙◌}
use mathlib.Core.List.{List, [], ◌∷◌}
use mathlib.Core.Option.{Option, none, some}
use mathlib.Core.Bool.{true, false}
use Prim.Native.Nat.{ℕ, zero, suc, ◌+◌, ◌≤◌, ◌<◌}
use native.Mathlib.Omega.{arith}
use native.Mathlib.Decide.{dec_le}
use borrow.Author.Tests.{lt-ltb, le-ltb}
use Rattle.model.specs.Entry.{Entry}
use Rattle.model.specs.Lines.{entry_before, entry_past, is_empty, past, right_line, rises_behind, title_in}
use Rattle.model.specs.Text.{Parsed, body, broken, cut_line, entry_of_line, following, parse, rises, saved, title_of_line}
use Rattle.model.proofs.Prints.{KN, Parted}
use Rattle.model.proofs.Texts.{body-by, parse-by}

-- one line more is passed
past-on : (i : ℕ) (text : List ℕ) (c : Parted) → cut_line (past i text) ≡ some c → past (suc i) text ≡ c.1
past-on zero text c h = rw (h, past) refl
past-on (suc i) text c h = go (cut_line text) refl (past-on i)
  where
    go : (o : Option Parted) → cut_line text ≡ o
        → ((bs : List ℕ) (d : Parted) → cut_line (past i bs) ≡ some d → past (suc i) bs ≡ d.1) → past (suc (suc i)) text ≡ c.1
    go none e ih = let z : ◌≡◌ {A = Option Parted} none (some c) = rw (e, past) at h in cc
    go (some d) e ih = rw (e, past) (ih d.1 c (rw (e, past) at h))

-- what a verdict says of the lines from line number suc d on: the first that is not right, or that all are
abbrev Judged : List ℕ → ℕ → Parsed → Type 0
Judged text d (broken l) =
    (j : ℕ) × (l ≡ suc j) × (d ≤ j) × (right_line text j ≡ false) × ((i : ℕ) → d ≤ i → i < j → right_line text i ≡ true)
Judged text d (saved k es) = (i : ℕ) → d ≤ i → right_line text i ≡ true

-- the line here is the first that is not right
bad-here : (text : List ℕ) (d : ℕ) → right_line text d ≡ false → Judged text d (broken (suc d))
bad-here text d h = (d, refl, omega arith, h, λ i a b. absurd (omega arith))

-- the line here is right, and what is said of those behind it holds from here on
good-here : (text : List ℕ) (d i : ℕ) → right_line text d ≡ true → d ≤ i → (suc d ≤ i → right_line text i ≡ true) → right_line text i ≡ true
good-here text d i h a f = go (dec_le (suc d) i)
  where
    go : Dec (suc d ≤ i) → right_line text i ≡ true
    go (yes b) = f b
    go (no b) = let e : i ≡ d = omega arith in rw e h

good-on : (text : List ℕ) (d : ℕ) (p : Parsed) → right_line text d ≡ true → Judged text (suc d) p → Judged text d p
good-on text d (broken l) h (j, e, a, b, f) = (j, e, omega arith, b, λ i x y. good-here text d i h x (λ z. f i z y))
good-on text d (saved k es) h f = λ i x. good-here text d i h x (f i)

judged-following : (text : List ℕ) (d : ℕ) (e : Entry) (p : Parsed) → Judged text d p → Judged text d (following e p)
judged-following text d e (broken l) h = h
judged-following text d e (saved k es) h = h

-- with a right title: the entry lines, and what stands behind them
module _ (text : List ℕ) (kn : KN) (titled : title_in text ≡ some kn) where
  entry-right : (d : ℕ) (last o : Option Entry) → d < kn.1
      → entry_before kn.0 (suc d) text ≡ last → entry_past kn.0 (suc d) text ≡ o → right_line text (suc d) ≡ rises_behind last o
  entry-right d last o h l e = rw (titled, right_line) (rw (lt-ltb d kn.1 h) (rw (l, e) refl))

  end-right : (i : ℕ) (bs : List ℕ) → kn.1 < i → past (suc kn.1) text ≡ bs → right_line text i ≡ is_empty bs
  end-right zero bs h e = absurd (omega arith)
  end-right (suc i) bs h e = rw (titled, right_line) (rw (le-ltb i kn.1 (omega arith)) (ap is_empty e))

  -- d entry lines are passed, m are left
  judged-body : (m d : ℕ) (last : Option Entry) (bs : List ℕ) → d + m ≡ kn.1
      → past (suc d) text ≡ bs → entry_before kn.0 (suc d) text ≡ last → Judged text (suc d) (body m kn.0 (suc (suc d)) last bs)
  judged-body zero d last [] n b l = let e : kn.1 ≡ d = omega arith in λ i h. end-right i [] (omega arith) (rw e b)
  judged-body zero d last (x ∷ bs) n b l =
      let e : kn.1 ≡ d = omega arith in
      bad-here text (suc d) (end-right (suc d) (x ∷ bs) (omega arith) (rw e b))
  judged-body (suc m) d last bs n b l =
      body-by (Judged text (suc d)) m kn.0 (suc (suc d)) last bs
      (λ x. bad-here text (suc d) (entry-right d last none (omega arith) l (rw (b, x, entry_past) refl)))
      (λ c x y. bad-here text (suc d) (entry-right d last none (omega arith) l (read c x ∙ y)))
      (λ c e x y z. bad-here text (suc d) (entry-right d last (some e) (omega arith) l (read c x ∙ y) ∙ z))
      (λ c e x y z. on c e x y z (judged-body m (suc d) (some e) c.1 (omega arith) (past-on (suc d) text c (rw b x)) (read c x ∙ y)))
    where
      read : (c : Parted) → cut_line bs ≡ some c → entry_past kn.0 (suc d) text ≡ entry_of_line kn.0 c.0
      read c x = rw (b, x, entry_past) refl

      on : (c : Parted) (e : Entry) → cut_line bs ≡ some c → entry_of_line kn.0 c.0 ≡ some e → rises last e ≡ true
          → Judged text (suc (suc d)) (body m kn.0 (suc (suc (suc d))) (some e) c.1)
          → Judged text (suc d) (following e (body m kn.0 (suc (suc (suc d))) (some e) c.1))
      on c e x y z q =
          let p : Parsed = body m kn.0 (suc (suc (suc d))) (some e) c.1 in
          let h : right_line text (suc d) ≡ true = entry-right d last (some e) (omega arith) l (read c x ∙ y) ∙ z in
          good-on text (suc d) (following e p) h (judged-following text (suc (suc d)) e p q)

title-read : (text : List ℕ) (c : Parted) → cut_line text ≡ some c → title_in text ≡ title_of_line c.0
title-read text c x = rw (x, title_in) refl

judged : (text : List ℕ) → Judged text 0 (parse text)
judged text = parse-by (Judged text 0) text
    (λ x. bad-here text 0 (rw (x, title_in, right_line) refl))
    (λ c x y. bad-here text 0 (rw (title-read text c x ∙ y, right_line) refl))
    on
  where
    on : (c : Parted) (kn : KN) → cut_line text ≡ some c → title_of_line c.0 ≡ some kn → Judged text 0 (body kn.1 kn.0 2 none c.1)
    on c kn x y =
        let e : title_in text ≡ some kn = title-read text c x ∙ y in
        let p : Judged text 1 (body kn.1 kn.0 2 none c.1) = judged-body text kn e kn.1 0 none c.1 (omega arith) (past-on 0 text c x) refl in
        good-on text 0 (body kn.1 kn.0 2 none c.1) (rw (e, right_line) refl) p

pub broken-first : (text : List ℕ) (l : ℕ) → parse text ≡ broken l
    → (j : ℕ) × (l ≡ suc j) × (right_line text j ≡ false) × ((i : ℕ) → i < j → right_line text i ≡ true)
broken-first text l h =
    let g : Judged text 0 (broken l) = rw h at (judged text) in
    (g.0, g.1, g.3, λ i a. g.4 i (omega arith) a)

pub saved-right : (text : List ℕ) (k : ℕ) (es : List Entry) → parse text ≡ saved k es → (i : ℕ) → right_line text i ≡ true
saved-right text k es h i =
    let g : Judged text 0 (saved k es) = rw h at (judged text) in
    g i (omega arith)
