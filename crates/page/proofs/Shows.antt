-- The three ways of the program: too long, no saved book, a saved book.
use mathlib.Core.Path.{◌≡◌, refl, sym, ap, subst, ◌∙◌}
use mathlib.Core.List.{List, ◌∷◌}
use Prim.Native.Nat.{ℕ, zero, suc, ◌+◌, ◌*◌, ◌≤◌, ◌<◌}
use native.Mathlib.Omega.{arith}
use native.Mathlib.Nat.{zero-add}
use lib.ListN.{length, take, drop, replicate, length-append}
use lib.Seq.{length-take-le, take_at, drop_at}
use lib.IntN.{ℤ, pos}
use borrow.Author.Tests.{lt-ltb, le-ltb}
use Rattle.model.specs.Text.{Parsed, broken, saved, parse}
use Rattle.model.specs.Show.{too_long, refusal_line, shown_text, program}
use Rattle.model.specs.declared.Refusal.TheVariants.{Text}
use Rattle.print.specs.Place.{Puts}
use Rattle.text.specs.Told.{summed}
use Rattle.std.proofs.Common.{Result, Ok, Err}
use Rattle.text.specs.declared.Broken.{Broken}
use Rattle.text.specs.declared.title.Title.{Title}
use Rattle.page.specs.Texts.{SavedIn, Shown}
use Rattle.page.proofs.Takes.{few-fields}

module _ (text room o : List ℕ) (p : ℕ) where
  pub long-put : 32768 < length text → Puts room 0 too_long o p → Puts room 0 (program text) o p
  unfolding program
  long-put h = subst (λ (x : List ℕ). Puts room 0 x o p) (sym is)
    where
      is : program text ≡ too_long
      is = rw (lt-ltb 32768 (length text) h, program) refl

  pub text-put : length text ≤ 32768 → Puts room 0 (shown_text text (parse text)) o p → Puts room 0 (program text) o p
  unfolding program
  text-put h = subst (λ (x : List ℕ). Puts room 0 x o p) (sym is)
    where
      is : program text ≡ shown_text text (parse text)
      is = rw (le-ltb 32768 (length text) h, program) refl

  -- a room that has the print in front
  pub shown_by : Puts room 0 (program text) o p → Shown text room o p
  shown_by w =
      let bs : List ℕ = program text in
      let rest : List ℕ = drop (0 + length bs) room in
      let e : length bs ≡ p = sym (w.1 ∙ zero-add (length bs)) in
      let a = ap length w.0 ∙ length-append bs rest in
      record {
        printed = ap (take p) w.0 ∙ take_at bs rest p e;
        behind = ap (drop p) w.0 ∙ drop_at bs rest p e ∙ ap (λ (i : ℕ). drop i room) (sym w.1);
        within = omega arith;
      }

-- what the verdict on a text says of it
module _ (text : List ℕ) (s : Result Title Broken) (e : s ≡ summed (parse text)) where
  broken-at : (b : Broken) → s ≡ Err b → parse text ≡ broken b.line
  broken-at b f = go (parse text) (sym e ∙ f)
    where
      go : (q : Parsed) → summed q ≡ Err b → q ≡ broken b.line
      go (broken m) f = let z : record { line = m } ≡ b = cc in ap (λ (x : Broken). broken x.line) z
      go (saved K es) f = cc

  pub broken-put : (b : Broken) → s ≡ Err b → (room o : List ℕ) (p : ℕ) → Puts room 0 (refusal_line Text b.line) o p → Puts room 0 (shown_text text (parse text)) o p
  broken-put b f room o p = subst (λ (x : List ℕ). Puts room 0 x o p) (sym (ap (shown_text text) (broken-at b f)))

  module _ (t : Title) (f : s ≡ Ok t) where
    pub saved-in : SavedIn text t.fields
    saved-in = go (parse text) refl (sym e ∙ f)
      where
        go : (q : Parsed) → parse text ≡ q → summed q ≡ Ok t → SavedIn text t.fields
        go (broken m) g f = cc
        go (saved K es) g f =
            let z : record { fields = K; entries = length es } ≡ t = cc in
            record { entries = es; is = g ∙ ap (λ (x : Title). saved x.fields es) z }

    pub few-keys : t.fields * 512 ≤ 2048
    few-keys = let h = few-fields text t.fields saved-in in omega arith

-- the front of memory that is all 0
pub front-zero : (n m : ℕ) → n ≤ m → take n (replicate m (pos 0)) ≡ replicate n (pos 0)
front-zero zero m h = refl
front-zero (suc n) zero h = absurd (omega arith)
front-zero (suc n) (suc m) h = ap (λ (l : List ℤ). pos 0 ∷ l) (front-zero n m (omega arith))

pub front_long : (n : ℕ) (xs : List ℤ) → n ≤ length xs → n ≡ length (take n xs)
front_long n xs h = sym (length-take-le n xs h)
