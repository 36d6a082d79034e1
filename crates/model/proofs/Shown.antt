-- The program prints the tree of the text's entries; the paper's example.
use mathlib.Core.Path.{◌≡◌, refl, ap, ap₂, ◌∙◌}
use mathlib.Core.List.{List, [], ◌∷◌, append-nil}
use mathlib.Core.Option.{none}
use mathlib.Core.Bool.{not}
use Prim.Native.Nat.{ℕ, ◌+◌, ◌*◌, ◌≤◌}
use native.Mathlib.Omega.{arith}
use lib.Dec.{ltb, eqb}
use lib.ListN.{length, replicate, length-replicate}
use lib.IntN.{ℤ, pos}
use borrow.Author.Tests.{eq-eqb, le-ltb}
use Rattle.model.specs.Answer.{Row, plain, refused}
use Rattle.model.specs.Ask.{new_of}
use Rattle.model.specs.Book.{fresh, head_of, keys, links}
use Rattle.model.specs.Calls.{added_all, broken_at, entries_in, fields_of_parsed, is_broken, no_head, start, take_in}
use Rattle.model.specs.Entry.{Entry}
use Rattle.model.specs.Gate.{After, leaving, reading, rows3, sized, writing}
use Rattle.model.specs.Laws.{Shows}
use Rattle.model.specs.Plain.{within_all}
use Rattle.model.specs.Rebuild.{listing}
use Rattle.model.specs.Runs.{perform}
use Rattle.model.specs.Show.{book_lines, fresh_taken, program, shown_text, taken_lines}
use Rattle.model.specs.Text.{parse, saved}
use Rattle.model.specs.Tree.{size}
use Rattle.model.proofs.Backs.{image-book}
use Rattle.model.proofs.Books.{Valid, fresh-valid}
use Rattle.model.proofs.Gates.{checked-open, gate-off}
use Rattle.model.proofs.Goods.{all_more}
use Rattle.model.proofs.Lists.{every-all}
use Rattle.model.proofs.Opened.{opened}
use Rattle.model.proofs.Passes.{Fit, pass3}
use Rattle.model.proofs.Returning.{new-of-none}
use Rattle.model.proofs.Takes.{new_in, perform-take, rows_take}
use Rattle.model.proofs.Texts.{Taken, only-saved, rise-once}
use Rattle.model.proofs.Trees.{pair}
use Rattle.model.specs.declared.Outcome.TheVariants.{Done}
use Rattle.model.specs.Example.{Example, text_in}
use Rattle.model.specs.declared.Refusal.TheVariants.{Full, Lengths, Mismatch, Text}

module _ (K : ℕ) (text : List ℕ) (es : List Entry) (p : parse text ≡ saved K es) (few : length es ≤ 512) where
  says_so : Taken text K es
  says_so = only-saved text K es p

  fit : Fit K 512
  fit = record { k_low = says_so.low; k_high = says_so.high; c_low = omega arith; c_high = omega arith }

  none-held : listing (fresh 512).tree ≡ []
  unfolding listing fresh
  none-held = refl

  -- the fresh pool
  started : start K 512 (replicate (K * 512) (pos 0)) (replicate 1536 0) ≡ reading (plain Done (head_of K 512 (fresh 512))) (keys K 512 (fresh 512)) (links K 512 (fresh 512))
  unfolding start
  started =
      let ks : List ℤ = replicate (K * 512) (pos 0) in
      let ls : List ℕ = replicate 1536 0 in
      checked-open (rows3 K 512 (sized K 512 ks ls)) (λ r. reading (refused no_head 0 r) ks ls) (reading (plain Done (head_of K 512 (fresh 512))) (keys K 512 (fresh 512)) (links K 512 (fresh 512)))
      (rw append-nil at (pass3 K 512 fit (sized K 512 ks ls) [])
      ∙ gate-off (not (sized K 512 ks ls)) Lengths [] (ap not (pair (eq-eqb (length ks) (K * 512) (length-replicate (K * 512) (pos 0))) (eq-eqb (length ls) (3 * 512) (length-replicate {A = ℕ} 1536 0)))))

  new-all : new_of (listing (fresh 512).tree) (entries_in (parse text)) ≡ es
  new-all = ap₂ (λ a x. new_of a (entries_in x)) none-held p ∙ new-of-none es

  grown : Valid K 512 (added_all es (fresh 512)) × (listing (added_all es (fresh 512)).tree ≡ within_all es (listing (fresh 512).tree))
  grown =
      let w = says_so.writable in
      all_more K 512 es (fresh 512) (fresh-valid K 512) w.sized (rise-once none es w.rising) (rw none-held (every-all (λ e. Unit {0}) (λ e. tt) es)) (empty-size few)
    where
      empty-size : length es ≤ 512 → size (fresh 512).tree + length es ≤ 512
      empty-size h = unfold fresh in (omega arith)

  taken_in : fresh_taken K text ≡ writing (head_of K 512 (fresh 512)) (added_all es (fresh 512))
  unfolding rows_take new_in perform head_of
  taken_in =
      let n : length (listing (fresh 512).tree) ≡ 0 = ap length none-held in
      let m : length (new_in K 512 (fresh 512) fit (fresh-valid K 512) text) ≡ length es = ap length new-all in
      let sc : List ℕ = replicate 512 0 in
      let r4 : List Row = (ltb 512 (length (listing (fresh 512).tree) + length (new_in K 512 (fresh 512) fit (fresh-valid K 512) text)), Full) ∷ [] in
      let r3 : List Row = (not (eqb (fields_of_parsed (parse text)) K), Mismatch) ∷ r4 in
      let r2 : List Row = (is_broken (parse text), Text) ∷ r3 in
      ap (λ (a : After). take_in a.answer.head a.keys a.links sc text) started
      ∙ perform-take K 512 (fresh 512) fit (fresh-valid K 512) sc text
      ∙ checked-open (rows_take K 512 (fresh 512) fit (fresh-valid K 512) sc text) (λ r. leaving (refused (head_of K 512 (fresh 512)) (broken_at (parse text)) r) (keys K 512 (fresh 512)) (links K 512 (fresh 512)) sc) (writing (head_of K 512 (fresh 512)) (added_all (new_in K 512 (fresh 512) fit (fresh-valid K 512) text) (fresh 512)))
      (gate-off (not (eqb (length sc) 512)) Lengths r2 (ap not (eq-eqb (length sc) 512 (length-replicate {A = ℕ} 512 0)))
      ∙ gate-off (is_broken (parse text)) Text r3 (ap is_broken p)
      ∙ gate-off (not (eqb (fields_of_parsed (parse text)) K)) Mismatch r4 (ap (λ x. not (eqb (fields_of_parsed x) K)) p ∙ ap not (eq-eqb K K refl))
      ∙ gate-off (ltb 512 (length (listing (fresh 512).tree) + length (new_in K 512 (fresh 512) fit (fresh-valid K 512) text))) Full [] (le-ltb 512 (length (listing (fresh 512).tree) + length (new_in K 512 (fresh 512) fit (fresh-valid K 512) text)) (omega arith)))
      ∙ ap (λ x. writing (head_of K 512 (fresh 512)) (added_all x (fresh 512))) new-all

  shown : shown_text text (saved K es) ≡ book_lines K (added_all es (fresh 512))
  unfolding head_of
  shown = ap (λ (a : After). taken_lines K a a.answer.outcome) taken_in ∙ ap (book_lines K) (image-book K 512 (added_all es (fresh 512)) grown.0)

pub shows : (text : List ℕ) → Shows text
unfolding program
shows text = record { tree = λ K es p h n. rw (le-ltb 32768 (length text) h, program) (ap (shown_text text) p ∙ shown K text es p n) }

pub example : Example
unfolding opened
example = record { prints = (shows text_in).tree 2 ((pos 1 ∷ pos 9 ∷ []) ∷ (pos 2 ∷ pos 4 ∷ []) ∷ (pos 3 ∷ pos 7 ∷ []) ∷ []) refl (omega arith) (omega arith) ∙ refl }
