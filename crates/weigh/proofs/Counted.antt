-- The lines of a saved book, counted where new.
use mathlib.Core.Path.{◌≡◌, refl, sym, ap, ◌∙◌}
use mathlib.Core.Bool.{Bool, true, false, not}
use mathlib.Core.List.{List, [], ◌∷◌}
use Prim.Native.Nat.{ℕ, suc, ◌+◌, ◌-◌, ◌≤◌, ◌<◌}
use native.Mathlib.Omega.{arith}
use lib.Dec.{ltb}
use lib.ListN.{length, get_or, drop}
use borrow.Author.Tests.{le-ltb, lt-ltb, ltb-false, ltb-true}
use Rattle.model.specs.Answer.{inward}
use Rattle.model.specs.Ask.{has, new_of}
use Rattle.model.specs.Calls.{entries_in}
use Rattle.model.specs.Entry.{Entry}
use Rattle.model.specs.Text.{parse}
use Rattle.model.proofs.Linewise.{new-not, new-there}
use Rattle.text.specs.Told.{ReadBack, Stands}
use denote.Bor.{Bor}
use Rattle.model.specs.declared.Entry.{Entry as Four}
use Rattle.weigh.specs.Saved.{Saves}
use Rattle.std.specs.Int.{from_bool}
use Rattle.weigh.proofs.Saved.{Reading, few-lines, lines-on, read-in, reads_on}

-- 1 for an entry that is not there, else 0
pub one-new : (held : List Entry) (e : Entry) (z : Bool) → z ≡ has e held → from_bool (not z) ≡ length (new_of held (e ∷ []))
one-new held e true t = sym (ap length (new-there held e [] (sym t)))
one-new held e false t = sym (ap length (new-not held e [] (sym t)))

new-cons : (held : List Entry) (e : Entry) (es : List Entry) → length (new_of held (e ∷ es)) ≡ length (new_of held (e ∷ [])) + length (new_of held es)
new-cons held e es = go (has e held) refl
  where
    go : (o : Bool) → has e held ≡ o → length (new_of held (e ∷ es)) ≡ length (new_of held (e ∷ [])) + length (new_of held es)
    go true q = rw (new-there held e es q, new-there held e [] q) (omega arith)
    go false q = rw (new-not held e es q, new-not held e [] q) (omega arith)

new-few : (held es : List Entry) → length (new_of held es) ≤ length es
new-few held [] = omega arith
new-few held (e ∷ es) = go (has e held) refl (new-few held es)
  where
    go : (o : Bool) → has e held ≡ o → length (new_of held es) ≤ length es → length (new_of held (e ∷ es)) ≤ suc (length es)
    go true q h = rw (new-there held e es q) (omega arith)
    go false q h = rw (new-not held e es q) (omega arith)

abbrev pub Counting : List Entry → List ℕ → ℕ → List ℕ → ℕ → ℕ → Type 0
Counting held text n left new i = Reading text n left i × (new + length (new_of held (drop i (entries_in (parse text)))) ≡ length (new_of held (entries_in (parse text))))

module _ (held : List Entry) (text : List ℕ) (K n : ℕ) (s : Saves text K n) where
  pub counts-first : (left : List ℕ) → Reading text n left 0 → Counting held text n left 0 0
  counts-first left v = (v, omega arith)

  module _ (left : List ℕ) (new i : ℕ) (v : Counting held text n left new i) where
    module _ (l : i < n) (r : Four × Bor (List ℕ)) (f : (e : Entry) (rest : List ℕ) → Stands left K e rest → ReadBack r e rest) (m : ℕ) (e : m ≡ length (new_of held (inward K r.0 ∷ []))) where
      adds-up : new + m + length (new_of held (drop (i + 1) (entries_in (parse text)))) ≡ length (new_of held (entries_in (parse text)))
      adds-up =
          let a : m ≡ length (new_of held (get_or (entries_in (parse text)) i [] ∷ [])) = e ∙ ap (λ x. length (new_of held (x ∷ []))) (read-in text K n s left i v.0 l r f) in
          let b = ap (λ (x : List Entry). length (new_of held x)) (lines-on text K n s left i v.0 l) ∙ new-cons held (get_or (entries_in (parse text)) i []) (drop (i + 1) (entries_in (parse text))) in
          let c = v.1 in
          omega arith

      pub counts-on : Counting held text n r.1.now (new + m) (i + 1)
      counts-on = (reads_on text K n s left i v.0 l r f, adds-up)

      pub counts-low : new + m ≤ 4096
      counts-low = let a = adds-up in let b = new-few held (entries_in (parse text)) in let c = s.many in let d = few-lines text K n s in omega arith

-- what is new beside N entries in a pool of C
module _ (held : List Entry) (text : List ℕ) (K n C N : ℕ) (s : Saves text K n) (few : N ≤ C) where
  abbrev new : ℕ
  new = length (new_of held (entries_in (parse text)))

  pub lines_fit : n ≤ C - N → ltb (C - N) n ≡ ltb C (N + length (new_of held (entries_in (parse text))))
  lines_fit l = le-ltb (C - N) n l ∙ sym (le-ltb C (N + new) (let a = new-few held (entries_in (parse text)) in let b = s.many in omega arith))

  pub new-over : (m : ℕ) → m ≡ length (new_of held (entries_in (parse text))) → ltb (C - N) m ≡ ltb C (N + length (new_of held (entries_in (parse text))))
  new-over m e = go (ltb (C - N) m) refl
    where
      go : (o : Bool) → ltb (C - N) m ≡ o → o ≡ ltb C (N + new)
      go true l = let a = ltb-true (C - N) m l in sym (lt-ltb C (N + new) (omega arith))
      go false l = let a = ltb-false (C - N) m l in sym (le-ltb C (N + new) (omega arith))
