-- The items of a tray on a book in order: each is worked by its single call or refused by it, and so are all of them in turn.
use mathlib.Core.Path.{◌≡◌, refl, sym, ap, ap₂, ◌∙◌}
use mathlib.Core.List.{List, [], ◌∷◌}
use mathlib.Core.Option.{Option, none, some}
use mathlib.Core.Bool.{Bool, true, false, not, ◌&&◌}
use Prim.Native.Nat.{ℕ, zero, suc, ◌+◌, ◌-◌, ◌*◌, ◌/◌, ◌%◌, ◌≤◌}
use native.Mathlib.Omega.{arith, div_fact}
use native.Mathlib.Nat.{mul-suc}
use lib.Dec.{eqb, leb}
use lib.ListN.{length, take, drop, replicate, length-drop, length-replicate}
use lib.Seq.{length-take-le, take_at}
use lib.IntN.{ℤ, pos}
use borrow.Author.Tests.{eq-eqb, eqb-true, eqb-false, not-false}
use Rattle.model.specs.Answer.{checked, gate, inward, outward, plain, refusal_of, refused}
use Rattle.model.specs.Ask.{has}
use Rattle.model.specs.Book.{Book, added, head_of, keys, links, struck}
use Rattle.model.specs.Entry.{Entry}
use Rattle.model.specs.Gate.{After, leaving, writing}
use Rattle.model.specs.Laws.{first_wrong_item, worked, worked_all, wrong_rows, wrong_with}
use Rattle.model.specs.Plain.{Turn, plain_item, plain_items, refusing, refusing_at, saying, says, within, without}
use Rattle.model.specs.Rebuild.{listing}
use Rattle.model.specs.Runs.{perform}
use Rattle.model.specs.Tray.{Ran, Work, adding, begins, begun, one, stopped, striking, tray_from, trayed, whole, work_at, works, works_from}
use Rattle.model.specs.Tree.{size}
use Rattle.model.proofs.Backs.{valid-size}
use Rattle.model.proofs.Books.{Valid}
use Rattle.model.proofs.Gates.{checked-open, checked-same, checked-shut, gate-none, gate-off}
use Rattle.model.proofs.Goods.{fewer, more}
use Rattle.model.proofs.Listings.{has-false, has-true, listing-all, listing-length}
use Rattle.model.proofs.Lists.{Every}
use Rattle.model.proofs.Passes.{Fit}
use Rattle.model.proofs.Ranks.{Unlike}
use Rattle.model.proofs.Steps.{perform-add, perform-strike, rows_add, rows_strike}
use Rattle.model.proofs.Trees.{both}
use Rattle.model.specs.declared.Outcome.TheVariants.{Done}
use Rattle.model.specs.declared.Refusal.{Refusal}
use Rattle.model.specs.declared.Refusal.TheVariants.{Full, Lengths, Missing, Present}

abbrev pub entry_of_work : Work → Entry
entry_of_work (adding e) = e
entry_of_work (striking e) = e

-- an item of K fields; all items of a tray are
abbrev pub Wide : ℕ → Work → Type 0
Wide K w = length (entry_of_work w) ≡ K

work-wide : (K : ℕ) (xs : List ℤ) → suc K ≤ length xs → Wide K (work_at K xs)
work-wide K xs h =
    let d : length (drop 1 xs) ≡ length xs - 1 = length-drop 1 xs in
    go (begins 1 xs) refl (length-take-le K (drop 1 xs) (omega arith))
  where
    go : (o : Bool) → begins 1 xs ≡ o → length (take K (drop 1 xs)) ≡ K → Wide K (work_at K xs)
    go true q n = rw (q, work_at) n
    go false q n = rw (q, work_at) n

works-wide : (K m : ℕ) (xs : List ℤ) → length xs ≡ suc K * m → Every (Wide K) (works_from K m xs)
works-wide K zero xs h = tt
works-wide K (suc m) xs h =
    let e : suc K * suc m ≡ suc K * m + suc K = mul-suc (suc K) m in
    let d : length (drop (suc K) xs) ≡ length xs - suc K = length-drop (suc K) xs in
    (work-wide K xs (omega arith), works-wide K m (drop (suc K) xs) (omega arith))

pub tray-wide : (K : ℕ) (xs : List ℤ) → trayed K xs ≡ true → Every (Wide K) (works K xs)
unfolding trayed works
tray-wide K xs t =
    let m : ℕ = length xs / suc K in
    let a = both (leb m 256) (eqb (length xs % suc K) 0 && begun K m xs) t in
    let z : length xs % suc K ≡ 0 = eqb-true (length xs % suc K) 0 (both (eqb (length xs % suc K) 0) (begun K m xs) a.1).0 in
    let f : suc K * m + length xs % suc K ≡ length xs = div_fact (length xs) K in
    works-wide K m xs (omega arith)

-- an entry that goes out and in again
inward-outward : (K : ℕ) (e : Entry) → length e ≡ K → inward K (outward e) ≡ e
inward-outward K e n = take_at e (replicate (4 - length e) (pos 0)) K n

-- the set after an item
abbrev pub held_with : Work → List Entry → List Entry
held_with (adding e) es = within e es
held_with (striking e) es = without e es

-- what the single calls in turn come to, and the plain book's turns
abbrev pub ran_as : Option (ℕ × Refusal) → After → Ran
ran_as none a = whole a
ran_as (some w) a = stopped w.0 w.1

abbrev pub turn_as : List Entry → Option (ℕ × Refusal) → List Entry → Turn
turn_as before none es = saying es (says Done (outward []) 0 0 0)
turn_as before (some w) es = refusing_at before w.0 w.1

module _ (K C : ℕ) (fit : Fit K C) where
  abbrev clear : List ℕ
  clear = replicate C 0

  -- the memory of a book as an accepted call leaves it
  abbrev pub written : Book → After
  written b = leaving (plain Done (head_of K C b)) (keys K C b) (links K C b) clear

  module _ (b : Book) (v : Valid K C b) where
    abbrev refuses : Refusal → After
    refuses r = leaving (refused (head_of K C b) 0 r) (keys K C b) (links K C b) clear

    clear-fits : not (eqb (length clear) C) ≡ false
    clear-fits = ap not (eq-eqb (length clear) C (length-replicate {A = ℕ} C 0))

    add-gate : (e : Entry) → length e ≡ K → gate (rows_add K C b fit v clear (outward e)) ≡ gate (wrong_rows C (adding e) b)
    unfolding rows_add
    add-gate e n =
        gate-off (not (eqb (length clear) C)) Lengths ((has (inward K (outward e)) (listing b.tree), Present) ∷ (eqb (length (listing b.tree)) C, Full) ∷ []) clear-fits
        ∙ ap₂ (λ x m. gate ((has x (listing b.tree), Present) ∷ (eqb m C, Full) ∷ [])) (inward-outward K e n) (listing-length b.tree)

    strike-gate : (e : Entry) → length e ≡ K → gate (rows_strike K C b fit v clear (outward e)) ≡ gate (wrong_rows C (striking e) b)
    unfolding rows_strike
    strike-gate e n =
        gate-off (not (eqb (length clear) C)) Lengths ((not (has (inward K (outward e)) (listing b.tree)), Missing) ∷ []) clear-fits
        ∙ ap (λ x. gate ((not (has x (listing b.tree)), Missing) ∷ [])) (inward-outward K e n)

    -- the single call of an item; the plain book's
    one-image : (w : Work) → Wide K w → one (written b) w ≡ checked (wrong_rows C w b) refuses (written (worked w b))
    unfolding perform head_of
    one-image (adding e) n =
        perform-add K C b fit v clear (outward e)
        ∙ checked-same (rows_add K C b fit v clear (outward e)) (wrong_rows C (adding e) b) refuses (writing (head_of K C b) (added (inward K (outward e)) b)) (add-gate e n)
        ∙ ap (λ x. checked (wrong_rows C (adding e) b) refuses (written (added x b))) (inward-outward K e n)
    one-image (striking e) n =
        perform-strike K C b fit v clear (outward e)
        ∙ checked-same (rows_strike K C b fit v clear (outward e)) (wrong_rows C (striking e) b) refuses (writing (head_of K C b) (struck (inward K (outward e)) b)) (strike-gate e n)
        ∙ ap (λ x. checked (wrong_rows C (striking e) b) refuses (written (struck x b))) (inward-outward K e n)

    plain-image : (w : Work) → Wide K w → plain_item K C w (listing b.tree) ≡ checked (wrong_rows C w b) (refusing (listing b.tree) [] [] 0) (saying (held_with w (listing b.tree)) (says Done (outward []) 0 0 0))
    unfolding rows_add rows_strike
    plain-image (adding e) n =
        checked-same (rows_add K C b fit v clear (outward e)) (wrong_rows C (adding e) b) (refusing (listing b.tree) [] [] 0) (saying (within (inward K (outward e)) (listing b.tree)) (says Done (outward []) 0 0 0)) (add-gate e n)
        ∙ ap (λ x. checked (wrong_rows C (adding e) b) (refusing (listing b.tree) [] [] 0) (saying (within x (listing b.tree)) (says Done (outward []) 0 0 0))) (inward-outward K e n)
    plain-image (striking e) n =
        checked-same (rows_strike K C b fit v clear (outward e)) (wrong_rows C (striking e) b) (refusing (listing b.tree) [] [] 0) (saying (without (inward K (outward e)) (listing b.tree)) (says Done (outward []) 0 0 0)) (strike-gate e n)
        ∙ ap (λ x. checked (wrong_rows C (striking e) b) (refusing (listing b.tree) [] [] 0) (saying (without x (listing b.tree)) (says Done (outward []) 0 0 0))) (inward-outward K e n)

  -- an item that is not wrong leaves a book in order, with one entry more or one less
  pub worked-good : (b : Book) → Valid K C b → (w : Work) → Wide K w → wrong_with C w b ≡ none → Valid K C (worked w b) × (listing (worked w b).tree ≡ held_with w (listing b.tree))
  worked-good b v (adding e) n g =
      let f = gate-none (wrong_rows C (adding e) b) g in
      let m : size b.tree + length b.chain ≡ C = valid-size K C b v in
      let d : ¬ (size b.tree ≡ C) = eqb-false (size b.tree) C f.1.0 in
      more K C b e v n (has-false e (listing b.tree) f.0) (omega (arith, d))
  worked-good b v (striking e) n g =
      let f = gate-none (wrong_rows C (striking e) b) g in
      let q : has e (listing b.tree) ≡ true = not-false (has e (listing b.tree)) f.0 in
      fewer K C b e v (λ a. has-true e (listing b.tree) q (listing-all (Unlike e) b.tree a))

  -- all items in turn: the calls, the plain book, and the book that is left
  pub record InTurn (p : ℕ) (ws : List Work) (b : Book) : Type 0 where
    pub calls : tray_from p (written b) ws ≡ ran_as (first_wrong_item C p ws b) (written (worked_all ws b))
    pub plainly : (before : List Entry) → plain_items K C before p ws (listing b.tree) ≡ turn_as before (first_wrong_item C p ws b) (listing (worked_all ws b).tree)
    pub valid : first_wrong_item C p ws b ≡ none → Valid K C (worked_all ws b)

  abbrev onward : ℕ → List Work → After → Ran
  onward p ws a = elim (refusal_of a.answer.outcome) [ some r ↦ stopped p r | none ↦ tray_from (suc p) a ws ]

  abbrev onwards : List Entry → ℕ → List Work → Turn → Turn
  onwards before p ws t = elim (refusal_of t.said.outcome) [ some r ↦ refusing_at before p r | none ↦ plain_items K C before (suc p) ws t.held ]

  pub in-turn : (ws : List Work) (p : ℕ) (b : Book) → Valid K C b → Every (Wide K) ws → InTurn p ws b
  in-turn [] p b v h = record { calls = refl; plainly = λ before. refl; valid = λ q. v }
  in-turn (w ∷ ws) p b v (n, ns) = go (wrong_with C w b) refl (λ u. in-turn ws (suc p) (worked w b) u ns)
    where
      go : (o : Option Refusal) → wrong_with C w b ≡ o → (Valid K C (worked w b) → InTurn (suc p) ws (worked w b)) → InTurn p (w ∷ ws) b
      go none q ih =
          let x : one (written b) w ≡ written (worked w b) = one-image b v w n ∙ checked-open (wrong_rows C w b) (refuses b v) (written (worked w b)) q in
          let y : plain_item K C w (listing b.tree) ≡ saying (held_with w (listing b.tree)) (says Done (outward []) 0 0 0) = plain-image b v w n ∙ checked-open (wrong_rows C w b) (refusing (listing b.tree) [] [] 0) (saying (held_with w (listing b.tree)) (says Done (outward []) 0 0 0)) q in
          let g = worked-good b v w n q in
          let t : InTurn (suc p) ws (worked w b) = ih g.0 in
          record {
            calls = rw (q, first_wrong_item) (ap (onward p ws) x ∙ t.calls);
            plainly = λ before. rw (q, first_wrong_item) (ap (onwards before p ws) y ∙ ap (plain_items K C before (suc p) ws) (sym g.1) ∙ t.plainly before);
            valid = rw (q, first_wrong_item) t.valid;
          }
      go (some r) q ih =
          let x : one (written b) w ≡ refuses b v r = one-image b v w n ∙ checked-shut (wrong_rows C w b) (refuses b v) (written (worked w b)) r q in
          let y : plain_item K C w (listing b.tree) ≡ refusing (listing b.tree) [] [] 0 r = plain-image b v w n ∙ checked-shut (wrong_rows C w b) (refusing (listing b.tree) [] [] 0) (saying (held_with w (listing b.tree)) (says Done (outward []) 0 0 0)) r q in
          record {
            calls = rw (q, first_wrong_item) (ap (onward p ws) x);
            plainly = λ before. rw (q, first_wrong_item) (ap (onwards before p ws) y);
            valid = rw (q, first_wrong_item) (λ z. let m : ◌≡◌ {A = ℕ} 0 1 = cc in absurd (omega arith));
          }
