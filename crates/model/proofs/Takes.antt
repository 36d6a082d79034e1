-- Taking in on a state that a run can reach.
use mathlib.Core.Path.{◌≡◌, refl, sym, ap, ◌∙◌}
use mathlib.Core.List.{List, [], ◌∷◌, ◌++◌}
use mathlib.Core.Option.{none}
use mathlib.Core.Bool.{false, not, true≢false}
use Prim.Native.Nat.{ℕ, ◌+◌, ◌≤◌}
use native.Mathlib.Omega.{arith}
use lib.Dec.{ltb, eqb}
use lib.ListN.{length}
use borrow.Author.Tests.{eqb-true, ltb-false, not-false}
use Rattle.model.specs.Answer.{Row, checked, outward, refused}
use Rattle.model.specs.Ask.{new_of}
use Rattle.model.specs.Book.{Book, head_of, keys, links}
use Rattle.model.specs.Calls.{added_all, broken_at, entries_in, fields_of_parsed, is_broken, take_in}
use Rattle.model.specs.Entry.{Entry}
use Rattle.model.specs.Gate.{After, leaving, rows4s, writing}
use Rattle.model.specs.Plain.{plainly, refusing, saying, says, within_all}
use Rattle.model.specs.Rebuild.{listing}
use Rattle.model.specs.Runs.{Call, Given, perform}
use Rattle.model.specs.Text.{Parsed, broken, parse, saved}
use Rattle.model.specs.Tree.{size}
use Rattle.model.proofs.Asks.{step_count, step-list, step-nearest, step-save}
use Rattle.model.proofs.Backs.{image-book}
use Rattle.model.proofs.Books.{Valid}
use Rattle.model.proofs.Gates.{checked-same, gate-none}
use Rattle.model.proofs.Goods.{all_more, image, new-every, new-once, new-unlike}
use Rattle.model.proofs.Listings.{listing-length}
use Rattle.model.proofs.Passes.{Fit, pass4s}
use Rattle.model.proofs.Steps.{Stepped, by_rows, step-add, step-look, step-strike}
use Rattle.model.proofs.Trays.{step-tray}
use Rattle.model.proofs.Texts.{Writable, only-saved, rise-once}
use Rattle.model.specs.declared.Head.{Head}
use Rattle.model.specs.declared.Outcome.TheVariants.{Done}
use Rattle.model.specs.declared.Refusal.{Refusal}
use Rattle.model.specs.declared.Refusal.TheVariants.{Full, Lengths, Mismatch, Text}

module _ (K C : ℕ) (b : Book) (fit : Fit K C) (v : Valid K C b) where
  unfoldable pub new_in : List ℕ → List Entry
  new_in text = new_of (listing b.tree) (entries_in (parse text))

  unfoldable pub rows_take : List ℕ → List ℕ → List Row
  rows_take sc text = (not (eqb (length sc) C), Lengths) ∷ (is_broken (parse text), Text) ∷ (not (eqb (fields_of_parsed (parse text)) K), Mismatch) ∷ (ltb C (length (listing b.tree) + length (new_in text)), Full) ∷ []

  pub perform-take : (sc text : List ℕ) → perform (Call.take_in sc text) (image K C b) ≡ checked (rows_take sc text) (λ r. leaving (refused (head_of K C b) (broken_at (parse text)) r) (keys K C b) (links K C b) sc) (writing (head_of K C b) (added_all (new_in text) b))
  unfolding perform take_in head_of rows_take new_in
  perform-take sc text =
      let h : Head = head_of K C b in
      let p : Parsed = parse text in
      let refuse : Refusal → After = λ r. leaving (refused h (broken_at p) r) (keys K C b) (links K C b) sc in
      let accept : Book → After = λ x. writing h (added_all (new_of (listing x.tree) (entries_in p)) x) in
      let tail : ℕ → Book → List Row = λ n x. (is_broken p, Text) ∷ (not (eqb (fields_of_parsed p) K), Mismatch) ∷ (ltb C (n + length (new_of (listing x.tree) (entries_in p))), Full) ∷ [] in
      ap (λ x. checked (rows4s h (keys K C b) (links K C b) sc ++ tail (size b.tree) x) refuse (accept x)) (image-book K C b v)
      ∙ checked-same (rows4s h (keys K C b) (links K C b) sc ++ tail (size b.tree) b) ((not (eqb (length sc) C), Lengths) ∷ tail (size b.tree) b) refuse (accept b) (pass4s K C b fit v sc (tail (size b.tree) b))
      ∙ ap (λ n. checked ((not (eqb (length sc) C), Lengths) ∷ tail n b) refuse (accept b)) (sym (listing-length b.tree))

  -- what an open gate says of the text
  taken : (text : List ℕ) (p : Parsed) → parse text ≡ p → is_broken p ≡ false → not (eqb (fields_of_parsed p) K) ≡ false → Writable K none (entries_in p)
  taken text (broken l) e x y = absurd (true≢false x)
  taken text (saved k es) e x y = rw (eqb-true k K (not-false (eqb k K) y)) at (only-saved text k es e).writable

  pub step-take : (sc text : List ℕ) → Stepped K C (Call.take_in sc text) (image K C b) (listing b.tree)
  unfolding plainly head_of rows_take new_in
  step-take sc text =
      by_rows K C b fit v (Call.take_in sc text) (rows_take sc text) (λ r. leaving (refused (head_of K C b) (broken_at (parse text)) r) (keys K C b) (links K C b) sc) (writing (head_of K C b) (added_all (new_in text) b))
      (refusing (listing b.tree) [] [] (broken_at (parse text))) (saying (within_all (new_in text) (listing b.tree)) (says Done (outward []) 0 0 0))
      (perform-take sc text) refl (λ r. refl) (λ g. refl) (λ r. refl) (λ r. refl)
      (λ g.
      let f = gate-none (rows_take sc text) g in
      let w = taken text (parse text) refl f.1.0 f.1.1.0 in
      let es : List Entry = listing b.tree in
      let n : length es ≡ size b.tree = listing-length b.tree in
      let m : length es + length (new_in text) ≤ C = ltb-false C (length es + length (new_in text)) f.1.1.1.0 in
      let x = all_more K C (new_in text) b v (new-every (λ d. length d ≡ K) es (entries_in (parse text)) w.sized) (new-once es (entries_in (parse text)) (rise-once none (entries_in (parse text)) w.rising)) (new-unlike es (entries_in (parse text))) (omega arith) in
      record { book = added_all (new_in text) b; valid = x.0; same = refl; holds = x.1 })

-- any call
pub step-image : (K C : ℕ) (b : Book) → Fit K C → Valid K C b → (c : Call) → Given c → Stepped K C c (image K C b) (listing b.tree)
step-image K C b fit v (Call.add sc e) g = step-add K C b fit v sc e g
step-image K C b fit v (Call.strike sc e) g = step-strike K C b fit v sc e
step-image K C b fit v (Call.look_up e) g = step-look K C b fit v e
step-image K C b fit v (Call.count bs) g = step_count K C b fit v bs
step-image K C b fit v (Call.list bs room) g = step-list K C b fit v bs room
step-image K C b fit v (Call.nearest q ss) g = step-nearest K C b fit v q ss
step-image K C b fit v (Call.save page) g = step-save K C b fit v page
step-image K C b fit v (Call.take_in sc text) g = step-take K C b fit v sc text
step-image K C b fit v (Call.tray sc xs) g = step-tray K C b fit v sc xs
