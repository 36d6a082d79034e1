-- The lines of a saved book, read one after the other.
use mathlib.Core.Path.{◌≡◌, sym, ap, subst, ◌∙◌}
use mathlib.Core.Bool.{true}
use mathlib.Core.List.{List, [], ◌∷◌}
use mathlib.Core.Option.{none, some}
use Prim.Native.Nat.{ℕ, zero, suc, ◌+◌, ◌≤◌, ◌<◌}
use native.Mathlib.Omega.{arith}
use native.Mathlib.Numerals.{add-one}
use lib.ListN.{length, get_or, drop, drop_of_length-le}
use lib.Seq.{drop-cons}
use Rattle.model.specs.Answer.{inward}
use Rattle.model.specs.Calls.{entries_in}
use Rattle.model.specs.Entry.{Entry}
use Rattle.model.specs.Text.{cut_line, entry_lines, parse, ranged, title}
use Rattle.model.proofs.Lists.{Every, OnceEach, every-at}
use Rattle.model.proofs.Texts.{Taken, only-saved, rise-once, taken-cut}
use Rattle.text.specs.Told.{ReadBack, Standing, Stands}
use denote.Bor.{Bor}
use Rattle.model.specs.declared.Entry.{Entry as Four}
use Rattle.weigh.specs.Saved.{Saves}
use Rattle.weigh.proofs.Inward.{back_in}

once-from : (es : List Entry) → OnceEach es → (i : ℕ) → i < length es → Every (λ y. ¬ (get_or es i [] ≡ y)) (drop (suc i) es)
once-from [] o i l = absurd (omega arith)
once-from (e ∷ es) (o, os) zero l = o
once-from (e ∷ es) (o, os) (suc i) l = once-from es os i (omega arith)

-- before line i: what is left of the text
abbrev pub Reading : List ℕ → ℕ → List ℕ → ℕ → Type 0
Reading text n left i = (i ≤ n) × (left ≡ entry_lines (drop i (entries_in (parse text))))

module _ (text : List ℕ) (K n : ℕ) (s : Saves text K n) where
  abbrev es : List Entry
  es = entries_in (parse text)

  pub taken : Taken text K es
  taken = only-saved text K es s.says

  pub text-cut : (c : List ℕ × List ℕ) × (cut_line text ≡ some c)
  text-cut = ((title K (length es), entry_lines es), taken-cut text K es taken)

  pub few-lines : n ≤ 4096
  few-lines = let a = taken.few in let m = s.many in omega arith

  pub text-fields : (1 ≤ K) × (K ≤ 4)
  text-fields = (taken.low, taken.high)

  pub reads_first : (left : List ℕ) → ((c : List ℕ × List ℕ) → cut_line text ≡ some c → left ≡ c.1) → Reading text n left 0
  reads_first left f = (omega arith, f (title K (length es), entry_lines es) (taken-cut text K es taken))

  pub lines-gone : (i : ℕ) → n ≤ i → drop i es ≡ []
  lines-gone i l = drop_of_length-le es (let m = s.many in let r : length es ≤ i = omega arith in r)

  module _ (left : List ℕ) (i : ℕ) (v : Reading text n left i) (l : i < n) where
    within : i < length es
    within = let m = s.many in omega arith

    pub lines-on : drop i es ≡ get_or es i [] ∷ drop (i + 1) es
    lines-on = drop-cons es i [] within ∙ ap (λ j. get_or es i [] ∷ drop j es) (sym (add-one i))

    pub sized-at : length (get_or es i []) ≡ K
    sized-at = every-at (λ e. length e ≡ K) [] es taken.writable.sized i within

    pub once-at : Every (λ y. ¬ (get_or es i [] ≡ y)) (drop (i + 1) es)
    once-at = subst (λ j. Every (λ y. ¬ (get_or es i [] ≡ y)) (drop j es)) (sym (add-one i)) (once-from es (rise-once none es taken.writable.rising) i within)

    line-here : Stands left K (get_or es i []) (entry_lines (drop (i + 1) es))
    line-here = record { printed = v.1 ∙ ap entry_lines lines-on; sized = sized-at; in_range = every-at (λ e. ranged e ≡ true) [] es taken.writable.ranged i within }

    pub line-ready : ((1 ≤ K) × (K ≤ 4)) × Standing left K
    line-ready = (text-fields, record { entry = get_or es i []; rest = entry_lines (drop (i + 1) es); stands = line-here })

    module _ (r : Four × Bor (List ℕ)) (f : (e : Entry) (rest : List ℕ) → Stands left K e rest → ReadBack r e rest) where
      pub read-in : inward K r.0 ≡ get_or es i []
      read-in = back_in K (get_or es i []) r.0 sized-at (f (get_or es i []) (entry_lines (drop (i + 1) es)) line-here).entry

      pub reads_on : Reading text n r.1.now (i + 1)
      reads_on = (omega arith, (f (get_or es i []) (entry_lines (drop (i + 1) es)) line-here).left)
