-- A book saved and taken into a fresh pool is the same entries; taking in only ever adds.
use mathlib.Core.Path.{◌≡◌, refl, ap, ap₂, ◌∙◌}
use mathlib.Core.List.{List, [], ◌∷◌, ◌++◌}
use mathlib.Core.Option.{none}
use mathlib.Core.Bool.{true, not}
use Prim.Native.Nat.{ℕ, ◌+◌, ◌≤◌}
use native.Mathlib.Omega.{arith}
use lib.Dec.{ltb, eqb}
use lib.ListN.{length, take, drop}
use lib.Seq.{take_at}
use lib.IntN.{ℤ}
use borrow.Author.Tests.{eq-eqb, le-ltb}
use Rattle.model.specs.Answer.{Row, outward}
use Rattle.model.specs.Ask.{has, new_of}
use Rattle.model.specs.Calls.{broken_at, entries_in, fields_of_parsed, is_broken, start}
use Rattle.model.specs.Demands.{Reached, Returns, Runs, saved_from, taken_into, tree_in}
use Rattle.model.specs.Entry.{Entry}
use Rattle.model.specs.Plain.{Turn, held_after, plainly, refusing, said_in, saying, says, within, within_all}
use Rattle.model.specs.Rebuild.{listing}
use Rattle.model.specs.Runs.{Call, GivenAll, State, perform, run, state_of}
use Rattle.model.specs.Text.{parse, saved, text_of}
use Rattle.model.proofs.Gates.{checked-open, gate-off}
use Rattle.model.proofs.Goods.{Good, within_by}
use Rattle.model.proofs.Kept.{good-reached, run-good, start-good, step-good}
use Rattle.model.proofs.Listings.{has-true, true-has}
use Rattle.model.proofs.Lists.{Every}
use Rattle.model.proofs.Passes.{Fit}
use Rattle.model.proofs.Ranks.{Unlike}
use Rattle.model.proofs.Returning.{Ranged, fresh_set, good-rise, good-saved, held_by, new-of-none, run-ranged}
use Rattle.model.proofs.Texts.{RiseFrom}
use Rattle.model.specs.declared.Outcome.TheVariants.{Done}
use Rattle.model.specs.declared.Refusal.TheVariants.{Full, Lengths, Mismatch, Room, Text}

-- save on a state that a run can reach, with room
saved-text : (K C : ℕ) (s : State) (es : List Entry) → Reached K C s es → (page : List ℕ) → length (text_of K es) ≤ length page → saved_from s page ≡ text_of K es
unfolding plainly
saved-text K C s es g page h =
    let text : List ℕ = text_of K es in
    let done : Turn = saying es (record { outcome = Done; entry = outward []; distance = 0; count = 0; bytes = length text; line = 0; place = 0; room = []; page = text ++ drop (length text) page }) in
    let e : said_in (perform (Call.save page) s) ≡ done.said = g.answers (Call.save page) tt ∙ ap (λ t. t.said) (checked-open ((ltb (length page) (length text), Room) ∷ []) (refusing es [] page 0) done (gate-off (ltb (length page) (length text)) Room [] (le-ltb (length page) (length text) h))) in
    ap₂ take (ap (λ x. x.bytes) e) (ap (λ x. x.page) e) ∙ take_at text (drop (length text) page) (length text) refl

-- a text of a rising set on an empty plain book
plain-take : (K D : ℕ) (sc text : List ℕ) (es : List Entry) → length sc ≡ D → parse text ≡ saved K es → length es ≤ D → RiseFrom none es → plainly K D (Call.take_in sc text) [] ≡ saying es (says Done (outward []) 0 0 0)
unfolding plainly
plain-take K D sc text es n p h r =
    let new : List Entry = new_of [] (entries_in (parse text)) in
    let m : new ≡ new_of [] es = ap (λ x. new_of [] (entries_in x)) p in
    let k : length new ≤ D = rw (m, new-of-none es) h in
    let r4 : List Row = (ltb D (0 + length new), Full) ∷ [] in
    let r3 : List Row = (not (eqb (fields_of_parsed (parse text)) K), Mismatch) ∷ r4 in
    let r2 : List Row = (is_broken (parse text), Text) ∷ r3 in
    checked-open ((not (eqb (length sc) D), Lengths) ∷ r2) (refusing [] [] [] (broken_at (parse text))) (saying (within_all new []) (says Done (outward []) 0 0 0))
    (gate-off (not (eqb (length sc) D)) Lengths r2 (ap not (eq-eqb (length sc) D n))
    ∙ gate-off (is_broken (parse text)) Text r3 (ap is_broken p)
    ∙ gate-off (not (eqb (fields_of_parsed (parse text)) K)) Mismatch r4 (ap (λ x. not (eqb (fields_of_parsed x) K)) p ∙ ap not (eq-eqb K K refl))
    ∙ gate-off (ltb D (0 + length new)) Full [] (le-ltb D (0 + length new) (omega arith)))
    ∙ ap (λ x. saying x (says Done (outward []) 0 0 0)) (ap (λ x. within_all x []) m ∙ fresh_set es r)

-- nothing goes where something is put in
pub within-less : (P : Entry → Type 0) (e : Entry) (es : List Entry) → Every P (within e es) → Every P es
within-less P e [] h = tt
within-less P e (x ∷ xs) h = within_by (λ y. Every P y → Every P (x ∷ xs)) e x xs (λ q k. k.1) (λ q k. k) (λ q k. (k.0, within-less P e xs k.1)) h

within_all-less : (P : Entry → Type 0) (new es : List Entry) → Every P (within_all new es) → Every P es
within_all-less P [] es h = h
within_all-less P (e ∷ new) es h = within-less P e es (within_all-less P new (within e es) h)

pub returns : (K C : ℕ) → Fit K C → (s : State) (es : List Entry) → Good K C s es → Every Ranged es → Returns K C s es
returns K C fit s es g r = record { back = back; adds = adds }
  where
    back : (D : ℕ) (ks : List ℤ) (ls sc page : List ℕ) → (start K D ks ls).answer.outcome ≡ Done → length es ≤ D → length sc ≡ D → length (text_of K es) ≤ length page → ((taken_into K D ks ls sc (saved_from s page)).answer.outcome ≡ Done) × (listing (tree_in (state_of (taken_into K D ks ls sc (saved_from s page)))) ≡ es)
    back D ks ls sc page o h n m =
        let text : List ℕ = saved_from s page in
        let t : text ≡ text_of K es = saved-text K C s es (good-reached K C fit s es g) page m in
        let f = start-good K D ks ls o in
        let p : plainly K D (Call.take_in sc text) [] ≡ saying es (says Done (outward []) 0 0 0) = plain-take K D sc text es n (ap parse t ∙ good-saved K C s es fit g r) h (good-rise K C s es g) in
        let now : Reached K D (state_of (start K D ks ls)) [] = good-reached K D f.0 (state_of (start K D ks ls)) [] f.1 in
        let next : Good K D (state_of (taken_into K D ks ls sc text)) (plainly K D (Call.take_in sc text) []).held = step-good K D f.0 (Call.take_in sc text) tt (state_of (start K D ks ls)) [] f.1 in (
          ap (λ x. x.outcome) (now.answers (Call.take_in sc text) tt) ∙ ap (λ x. x.said.outcome) p,
          (good-reached K D f.0 (state_of (taken_into K D ks ls sc text)) (plainly K D (Call.take_in sc text) []).held next).entries ∙ ap (λ x. x.held) p,
        )

    adds : (sc text : List ℕ) (e : Entry) → has e es ≡ true → has e (plainly K C (Call.take_in sc text) es).held ≡ true
    adds sc text e h = unfold plainly in (held_by (λ x. has e x ≡ true) ((not (eqb (length sc) C), Lengths) ∷ (is_broken (parse text), Text) ∷ (not (eqb (fields_of_parsed (parse text)) K), Mismatch) ∷ (ltb C (length es + length (new_of es (entries_in (parse text)))), Full) ∷ []) (refusing es [] [] (broken_at (parse text))) (saying (within_all (new_of es (entries_in (parse text))) es) (says Done (outward []) 0 0 0)) (λ r. h) (true-has e (within_all (new_of es (entries_in (parse text))) es) (λ u. has-true e es h (within_all-less (Unlike e) (new_of es (entries_in (parse text))) es u))))

pub runs : (K C : ℕ) (ks : List ℤ) (ls : List ℕ) (cs : List Call) → Runs K C ks ls cs
runs K C ks ls cs = record { reached = λ e t. good-reached K C (fit e) after held (good e t); returns = λ e t. returns K C (fit e) after held (good e t) (run-ranged K C cs t [] tt) }
  where
    after : State
    after = run cs (state_of (start K C ks ls))

    held : List Entry
    held = held_after K C cs []

    fit : (start K C ks ls).answer.outcome ≡ Done → Fit K C
    fit e = (start-good K C ks ls e).0

    good : (start K C ks ls).answer.outcome ≡ Done → GivenAll cs → Good K C after held
    good e t = run-good K C (fit e) cs t (state_of (start K C ks ls)) [] (start-good K C ks ls e).1
