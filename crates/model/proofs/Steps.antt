-- One call on a state that a run can reach: it says what the plain book says, and leaves a state that a run can reach.
use mathlib.Core.Path.{◌≡◌, refl, sym, ap, ◌∙◌}
use mathlib.Core.List.{List, [], ◌∷◌, ◌++◌}
use mathlib.Core.Option.{Option, none, some}
use mathlib.Core.Bool.{Bool, true, false, not}
use Prim.Native.Nat.{ℕ, zero, suc, ◌+◌, ◌≤◌}
use native.Mathlib.Omega.{arith}
use lib.Dec.{eqb}
use lib.ListN.{length}
use lib.Seq.{length-take-le}
use borrow.Author.Tests.{eqb-false, not-false}
use Rattle.model.specs.Answer.{Row, checked, gate, inward, outward, refused}
use Rattle.model.specs.Ask.{has, reads, slot_of}
use Rattle.model.specs.Book.{Book, added, head_of, keys, links, struck}
use Rattle.model.specs.Calls.{add, strike_out, walked}
use Rattle.model.specs.Entry.{Entry}
use Rattle.model.specs.Gate.{After, leaving, reading, rows4s, writing}
use Rattle.model.specs.Plain.{Turn, plainly, refusing, said_in, saying, says, within, without}
use Rattle.model.specs.Pool.{Walk}
use Rattle.model.specs.Rebuild.{listing}
use Rattle.model.specs.Runs.{Call, Passable, State, perform, state_of}
use Rattle.model.specs.Tree.{size}
use Rattle.model.proofs.Adds.{slot_of-absent}
use Rattle.model.proofs.Backs.{image-book, valid-size}
use Rattle.model.proofs.Books.{Valid, valid-in_pool}
use Rattle.model.proofs.Gates.{checked-open, checked-same, checked-shut, gate-none}
use Rattle.model.proofs.Goods.{Good, fewer, image, more}
use Rattle.model.proofs.Listings.{all-listing, has-false, has-true, listing-all, listing-length}
use Rattle.model.proofs.Looks.{look-image, slot_of-none, walk_of, walked-head}
use Rattle.model.proofs.Passes.{Fit, pass4s}
use Rattle.model.proofs.Ranks.{Unlike}
use Rattle.model.specs.declared.Entry.{Entry as Four}
use Rattle.model.specs.declared.Head.{Head}
use Rattle.model.specs.declared.Outcome.TheVariants.{Done}
use Rattle.model.specs.declared.Refusal.{Refusal}
use Rattle.model.specs.declared.Refusal.TheVariants.{Full, Lengths, Missing, Present}

pub record Stepped (K C : ℕ) (c : Call) (s : State) (es : List Entry) : Type 0 where
  pub said : said_in (perform c s) ≡ (plainly K C c es).said
  pub good : Good K C (state_of (perform c s)) (plainly K C c es).held

pub inward-long : (K C : ℕ) (e : Four) → Fit K C → Passable e → length (inward K e) ≡ K
inward-long K C e fit p = let k : K ≤ 4 = fit.k_high in let f : length e.f ≡ 4 = p.four in length-take-le K e.f (omega arith)

module _ (K C : ℕ) (b : Book) (fit : Fit K C) (v : Valid K C b) where
  -- a call and the plain book behind the same rows
  pub by_rows : (c : Call) (rows : List Row) (refuse : Refusal → After) (accept : After) (refuseP : Refusal → Turn) (acceptP : Turn)
      → perform c (image K C b) ≡ checked rows refuse accept → plainly K C c (listing b.tree) ≡ checked rows refuseP acceptP
      → ((r : Refusal) → said_in (refuse r) ≡ (refuseP r).said) → (gate rows ≡ none → said_in accept ≡ acceptP.said)
      → ((r : Refusal) → state_of (refuse r) ≡ image K C b) → ((r : Refusal) → (refuseP r).held ≡ listing b.tree)
      → (gate rows ≡ none → Good K C (state_of accept) acceptP.held) → Stepped K C c (image K C b) (listing b.tree)
  by_rows c rows refuse accept refuseP acceptP p q sr sa tr hr g = go (gate rows) refl
    where
      go : (o : Option Refusal) → gate rows ≡ o → Stepped K C c (image K C b) (listing b.tree)
      go none e =
          let x : perform c (image K C b) ≡ accept = p ∙ checked-open rows refuse accept e in
          let y : plainly K C c (listing b.tree) ≡ acceptP = q ∙ checked-open rows refuseP acceptP e in
          record { said = ap said_in x ∙ sa e ∙ sym (ap (λ t. t.said) y); good = rw (x, y) (g e) }
      go (some r) e =
          let x : perform c (image K C b) ≡ refuse r = p ∙ checked-shut rows refuse accept r e in
          let y : plainly K C c (listing b.tree) ≡ refuseP r = q ∙ checked-shut rows refuseP acceptP r e in
          record { said = ap said_in x ∙ sr r ∙ sym (ap (λ t. t.said) y); good = rw (x, y) record { book = b; valid = v; same = tr r; holds = sym (hr r) } }

  -- an accepted reading call leaves the state as it was
  pub stays : Good K C (image K C b) (listing b.tree)
  stays = record { book = b; valid = v; same = refl; holds = refl }

  unfoldable pub rows_add : List ℕ → Four → List Row
  rows_add sc e = (not (eqb (length sc) C), Lengths) ∷ (has (inward K e) (listing b.tree), Present) ∷ (eqb (length (listing b.tree)) C, Full) ∷ []

  pub perform-add : (sc : List ℕ) (e : Four) → perform (Call.add sc e) (image K C b) ≡ checked (rows_add sc e) (λ r. leaving (refused (head_of K C b) 0 r) (keys K C b) (links K C b) sc) (writing (head_of K C b) (added (inward K e) b))
  unfolding perform add head_of rows_add
  perform-add sc e =
      let h : Head = head_of K C b in
      let no' : Refusal → After = λ r. leaving (refused h 0 r) (keys K C b) (links K C b) sc in
      let yes' : After = writing h (added (inward K e) b) in
      let tail : ℕ → List Row = λ n. (has (inward K e) (listing b.tree), Present) ∷ (eqb n C, Full) ∷ [] in
      ap (λ x. checked (rows4s h (keys K C b) (links K C b) sc ++ ((has (inward K e) (listing x.tree), Present) ∷ (eqb (size b.tree) C, Full) ∷ [])) no' (writing h (added (inward K e) x))) (image-book K C b v)
      ∙ checked-same (rows4s h (keys K C b) (links K C b) sc ++ tail (size b.tree)) ((not (eqb (length sc) C), Lengths) ∷ tail (size b.tree)) no' yes' (pass4s K C b fit v sc (tail (size b.tree)))
      ∙ ap (λ n. checked ((not (eqb (length sc) C), Lengths) ∷ tail n) no' yes') (sym (listing-length b.tree))

  pub step-add : (sc : List ℕ) (e : Four) → Passable e → Stepped K C (Call.add sc e) (image K C b) (listing b.tree)
  unfolding plainly head_of rows_add
  step-add sc e p =
      by_rows (Call.add sc e) (rows_add sc e) (λ r. leaving (refused (head_of K C b) 0 r) (keys K C b) (links K C b) sc) (writing (head_of K C b) (added (inward K e) b))
      (refusing (listing b.tree) [] [] 0) (saying (within (inward K e) (listing b.tree)) (says Done (outward []) 0 0 0))
      (perform-add sc e) refl (λ r. refl) (λ g. refl) (λ r. refl) (λ r. refl)
      (λ g.
      let f = gate-none (rows_add sc e) g in
      let n : length (listing b.tree) ≡ size b.tree = listing-length b.tree in
      let m : size b.tree + length b.chain ≡ C = valid-size K C b v in
      let w : ¬ (length (listing b.tree) ≡ C) = eqb-false (length (listing b.tree)) C f.1.1.0 in
      let x = more K C b (inward K e) v (inward-long K C e fit p) (has-false (inward K e) (listing b.tree) f.1.0) (omega (arith, w)) in
      record { book = added (inward K e) b; valid = x.0; same = refl; holds = x.1 })

  unfoldable pub rows_strike : List ℕ → Four → List Row
  rows_strike sc e = (not (eqb (length sc) C), Lengths) ∷ (not (has (inward K e) (listing b.tree)), Missing) ∷ []

  pub perform-strike : (sc : List ℕ) (e : Four) → perform (Call.strike sc e) (image K C b) ≡ checked (rows_strike sc e) (λ r. leaving (refused (head_of K C b) 0 r) (keys K C b) (links K C b) sc) (writing (head_of K C b) (struck (inward K e) b))
  unfolding perform strike_out head_of rows_strike
  perform-strike sc e =
      let h : Head = head_of K C b in
      let no' : Refusal → After = λ r. leaving (refused h 0 r) (keys K C b) (links K C b) sc in
      let tail : List Row = (not (has (inward K e) (listing b.tree)), Missing) ∷ [] in
      ap (λ x. checked (rows4s h (keys K C b) (links K C b) sc ++ ((not (has (inward K e) (listing x.tree)), Missing) ∷ [])) no' (writing h (struck (inward K e) x))) (image-book K C b v)
      ∙ checked-same (rows4s h (keys K C b) (links K C b) sc ++ tail) ((not (eqb (length sc) C), Lengths) ∷ tail) no' (writing h (struck (inward K e) b)) (pass4s K C b fit v sc tail)

  pub step-strike : (sc : List ℕ) (e : Four) → Stepped K C (Call.strike sc e) (image K C b) (listing b.tree)
  unfolding plainly head_of rows_strike
  step-strike sc e =
      by_rows (Call.strike sc e) (rows_strike sc e) (λ r. leaving (refused (head_of K C b) 0 r) (keys K C b) (links K C b) sc) (writing (head_of K C b) (struck (inward K e) b))
      (refusing (listing b.tree) [] [] 0) (saying (without (inward K e) (listing b.tree)) (says Done (outward []) 0 0 0))
      (perform-strike sc e) refl (λ r. refl) (λ g. refl) (λ r. refl) (λ r. refl)
      (λ g.
      let f = gate-none (rows_strike sc e) g in
      let q : has (inward K e) (listing b.tree) ≡ true = not-false (has (inward K e) (listing b.tree)) f.1.0 in
      let x = fewer K C b (inward K e) v (λ a. has-true (inward K e) (listing b.tree) q (listing-all (Unlike (inward K e)) b.tree a)) in
      record { book = struck (inward K e) b; valid = x.0; same = refl; holds = x.1 })

  -- look-up: no row is left, and the walk finds what is there
  look-there : (e : Entry) → has e (listing b.tree) ≡ true → (s : ℕ) × (slot_of 0 e b.tree ≡ suc s)
  look-there e q = go (slot_of 0 e b.tree) refl
    where
      go : (x : ℕ) → slot_of 0 e b.tree ≡ x → (s : ℕ) × (slot_of 0 e b.tree ≡ suc s)
      go zero z = absurd (has-true e (listing b.tree) q (listing-all (Unlike e) b.tree (slot_of-none C 0 e b.tree v.ordered (valid-in_pool K C b v) z)))
      go (suc x) z = (x, z)

  pub look-gone : (e : Entry) → has e (listing b.tree) ≡ false → slot_of 0 e b.tree ≡ 0
  look-gone e q = slot_of-absent 0 e b.tree (all-listing (Unlike e) b.tree (has-false e (listing b.tree) q))

  look-said : (e : Four) (o : Bool) → has (inward K e) (listing b.tree) ≡ o → said_in (perform (Call.look_up e) (image K C b)) ≡ (plainly K C (Call.look_up e) (listing b.tree)).said
  unfolding perform plainly
  look-said e true q =
      let h : Head = head_of K C b in
      let k : Entry = inward K e in
      let x = look-there k q in
      ap said_in (look-image K C b fit v e ∙ ap (λ s. reading (walked h k (walk_of s (reads 0 k b.tree))) (keys K C b) (links K C b)) x.1) ∙ rw q refl
  look-said e false q =
      let h : Head = head_of K C b in
      let k : Entry = inward K e in
      ap said_in (look-image K C b fit v e ∙ ap (λ s. reading (walked h k (walk_of s (reads 0 k b.tree))) (keys K C b) (links K C b)) (look-gone k q)) ∙ rw q refl

  pub step-look : (e : Four) → Stepped K C (Call.look_up e) (image K C b) (listing b.tree)
  unfolding perform plainly
  step-look e =
      let h : Head = head_of K C b in
      let k : Entry = inward K e in
      let w : Walk = walk_of (slot_of 0 k b.tree) (reads 0 k b.tree) in
      record {
        said = look-said e (has k (listing b.tree)) refl;
        good = record { book = b; valid = v; same = ap state_of (look-image K C b fit v e) ∙ ap (λ z. record { head = z; keys = keys K C b; links = links K C b }) (walked-head h k w); holds = refl };
      }
