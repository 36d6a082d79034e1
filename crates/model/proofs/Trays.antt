-- A tray on the memory of a book in order, as a run can reach it, and on any sound pool in terms of its book.
use mathlib.Core.Path.{◌≡◌, refl, sym, ap, ◌∙◌}
use mathlib.Core.List.{List, [], ◌∷◌}
use mathlib.Core.Option.{Option, none, some}
use mathlib.Core.Bool.{Bool, not, ◌&&◌}
use Prim.Native.Nat.{ℕ}
use lib.Dec.{eqb, leb}
use lib.ListN.{length, replicate}
use lib.IntN.{ℤ}
use borrow.Author.Tests.{leb-true, not-false}
use Rattle.model.specs.Answer.{Row, checked, gate, plain, refused}
use Rattle.model.specs.Book.{Book, head_of, keys, links}
use Rattle.model.specs.Demands.{Image, InOrder}
use Rattle.model.specs.Gate.{After, leaving, sized, writing}
use Rattle.model.specs.Laws.{Trays, first_wrong_item, worked_all}
use Rattle.model.specs.Plain.{plain_items, plainly, refusing, said_in}
use Rattle.model.specs.Pool.{book_of, sound}
use Rattle.model.specs.Rebuild.{listing}
use Rattle.model.specs.Runs.{Call, perform, state_of}
use Rattle.model.specs.Tray.{Work, tray, tray_end, tray_from, tray_rows, trayed, works}
use Rattle.model.proofs.Backs.{image-sound}
use Rattle.model.proofs.Books.{Valid}
use Rattle.model.proofs.Exactly.{exact, in_order-valid}
use Rattle.model.proofs.Gates.{checked-open, checked-same, checked-shut, gate-none, gate-off, gate-under}
use Rattle.model.proofs.Goods.{Good, image}
use Rattle.model.proofs.Items.{InTurn, in-turn, ran_as, tray-wide, turn_as, written}
use Rattle.model.proofs.Passes.{Fit, image-sized, pass3}
use Rattle.model.proofs.Steps.{Stepped, by_rows}
use Rattle.model.proofs.Trees.{both}
use Rattle.model.specs.declared.Head.{Head}
use Rattle.model.specs.declared.Outcome.TheVariants.{Done}
use Rattle.model.specs.declared.Refusal.{Refusal}
use Rattle.model.specs.declared.Refusal.TheVariants.{Lengths, Tray, Unsound}

module _ (K C : ℕ) (b : Book) (fit : Fit K C) (v : Valid K C b) where
  -- what the tray comes to behind its rows
  abbrev ends : List ℕ → List Work → After
  ends sc ws = tray_end (head_of K C b) (keys K C b) (links K C b) sc (tray_from 1 (written K C fit b) ws)

  rows_tray : List ℕ → List ℤ → List Row
  rows_tray sc xs = (not (eqb (length sc) C), Lengths) ∷ (not (trayed K xs), Tray) ∷ []

  perform-tray : (sc : List ℕ) (xs : List ℤ) → perform (Call.tray sc xs) (image K C b) ≡ checked (rows_tray sc xs) (λ r. leaving (refused (head_of K C b) 0 r) (keys K C b) (links K C b) sc) (ends sc (works K xs))
  unfolding perform tray head_of rows_tray
  perform-tray sc xs =
      let h : Head = head_of K C b in
      let s : Bool = not (sound h (keys K C b) (links K C b)) in
      let t : Bool = sized K C (keys K C b) (links K C b) && eqb (length sc) C in
      let last : List Row = (not (trayed K xs), Tray) ∷ [] in
      checked-same (tray_rows h (keys K C b) (links K C b) sc xs) (rows_tray sc xs) (λ r. leaving (refused h 0 r) (keys K C b) (links K C b) sc) (ends sc (works K xs))
      (pass3 K C fit t ((not (trayed K xs), Tray) ∷ (s, Unsound) ∷ [])
      ∙ gate-under (not t) Lengths ((not (trayed K xs), Tray) ∷ (s, Unsound) ∷ []) last (gate-under (not (trayed K xs)) Tray ((s, Unsound) ∷ []) [] (gate-off s Unsound [] (ap not (image-sound K C b v))))
      ∙ ap (λ x. gate ((not (x && eqb (length sc) C), Lengths) ∷ last)) (image-sized K C b fit v))

  -- the calls and the plain book come to the same, whole or stopped
  ends-said : (sc : List ℕ) (ws : List Work) → InTurn K C fit 1 ws b → said_in (ends sc ws) ≡ (plain_items K C (listing b.tree) 1 ws (listing b.tree)).said
  ends-said sc ws t = ap (λ x. said_in (tray_end (head_of K C b) (keys K C b) (links K C b) sc x)) t.calls ∙ go (first_wrong_item C 1 ws b) ∙ sym (ap (λ x. x.said) (t.plainly (listing b.tree)))
    where
      go : (o : Option (ℕ × Refusal)) → said_in (tray_end (head_of K C b) (keys K C b) (links K C b) sc (ran_as o (written K C fit (worked_all ws b)))) ≡ (turn_as (listing b.tree) o (listing (worked_all ws b).tree)).said
      go none = refl
      go (some w) = refl

  ends-good : (sc : List ℕ) (ws : List Work) → InTurn K C fit 1 ws b → Good K C (state_of (ends sc ws)) (plain_items K C (listing b.tree) 1 ws (listing b.tree)).held
  ends-good sc ws t = rw (t.calls, t.plainly (listing b.tree)) (go (first_wrong_item C 1 ws b) t.valid)
    where
      go : (o : Option (ℕ × Refusal)) → (o ≡ none → Valid K C (worked_all ws b)) → Good K C (state_of (tray_end (head_of K C b) (keys K C b) (links K C b) sc (ran_as o (written K C fit (worked_all ws b))))) (turn_as (listing b.tree) o (listing (worked_all ws b).tree)).held
      go none f = record { book = worked_all ws b; valid = f refl; same = refl; holds = refl }
      go (some w) f = record { book = b; valid = v; same = refl; holds = refl }

  pub step-tray : (sc : List ℕ) (xs : List ℤ) → Stepped K C (Call.tray sc xs) (image K C b) (listing b.tree)
  unfolding plainly rows_tray
  step-tray sc xs =
      by_rows K C b fit v (Call.tray sc xs) (rows_tray sc xs) (λ r. leaving (refused (head_of K C b) 0 r) (keys K C b) (links K C b) sc) (ends sc (works K xs))
      (refusing (listing b.tree) [] [] 0) (plain_items K C (listing b.tree) 1 (works K xs) (listing b.tree))
      (perform-tray sc xs) refl (λ r. refl) (λ g. ends-said sc (works K xs) (turns g)) (λ r. refl) (λ r. refl) (λ g. ends-good sc (works K xs) (turns g))
    where
      turns : gate (rows_tray sc xs) ≡ none → InTurn K C fit 1 (works K xs) b
      turns g = in-turn K C fit (works K xs) 1 b v (tray-wide K xs (not-false (trayed K xs) (gate-none (rows_tray sc xs) g).1.0))

-- any pool at all: behind the rows of a tray its book is in order
module _ (h : Head) (ks : List ℤ) (ls sc : List ℕ) (xs : List ℤ) where
  past-rows : gate (tray_rows h ks ls sc xs) ≡ none → tray h ks ls sc xs ≡ tray_end h ks ls sc (ran_as (first_wrong_item h.c 1 (works h.k xs) (book_of h ks ls)) (writing h (worked_all (works h.k xs) (book_of h ks ls))))
  unfolding tray
  past-rows g =
      let C : ℕ = h.c in
      let K : ℕ = h.k in
      let b : Book = book_of h ks ls in
      let f = gate-none (tray_rows h ks ls sc xs) g in
      let k = both (leb 1 K) (leb K 4) (not-false (leb 1 K && leb K 4) f.0) in
      let c = both (leb 1 C) (leb C 4096) (not-false (leb 1 C && leb C 4096) f.1.0) in
      let fit : Fit K C = record { k_low = leb-true 1 K k.0; k_high = leb-true K 4 k.1; c_low = leb-true 1 C c.0; c_high = leb-true C 4096 c.1 } in
      let z = both (sized K C ks ls) (eqb (length sc) C) (not-false (sized K C ks ls && eqb (length sc) C) f.1.1.0) in
      let i : InOrder K C b × Image h ks ls b = (exact h ks ls).only z.0 (not-false (sound h ks ls) f.1.1.1.1.0) in
      let m : leaving (plain Done h) ks ls (replicate C 0) ≡ written K C fit b = λ j. leaving (plain Done (i.1.head j)) (i.1.key_table j) (i.1.link_table j) (replicate C 0) in
      checked-open (tray_rows h ks ls sc xs) (λ r. leaving (refused h 0 r) ks ls sc) (tray_end h ks ls sc (tray_from 1 (leaving (plain Done h) ks ls (replicate C 0)) (works K xs))) g
      ∙ ap (λ a. tray_end h ks ls sc (tray_from 1 a (works K xs))) m
      ∙ ap (tray_end h ks ls sc) (in-turn K C fit (works K xs) 1 b (in_order-valid K C b i.0) (tray-wide K xs (not-false (trayed K xs) f.1.1.1.0))).calls

  -- what the code of a tray is proved against
  pub tray-books : Trays h ks ls sc xs
  unfolding tray
  tray-books =
      let after : Option (ℕ × Refusal) → After = λ o. tray_end h ks ls sc (ran_as o (writing h (worked_all (works h.k xs) (book_of h ks ls)))) in
      record {
        shut = λ r g. checked-shut (tray_rows h ks ls sc xs) (λ r. leaving (refused h 0 r) ks ls sc) (tray_end h ks ls sc (tray_from 1 (leaving (plain Done h) ks ls (replicate h.c 0)) (works h.k xs))) r g;
        wrong = λ p r g e. past-rows g ∙ ap after e;
        right = λ g e. past-rows g ∙ ap after e;
      }
