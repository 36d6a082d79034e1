-- Every run from an accepted start keeps to states that are the memory of a book in order, with the plain book beside it.
use mathlib.Core.Path.{◌≡◌, refl}
use mathlib.Core.List.{List, [], ◌∷◌}
use mathlib.Core.Bool.{◌&&◌}
use Prim.Native.Nat.{ℕ}
use native.Mathlib.Omega.{arith}
use lib.Dec.{leb}
use lib.IntN.{ℤ}
use borrow.Author.Tests.{leb-true, not-false}
use Rattle.model.specs.Answer.{plain, refused}
use Rattle.model.specs.Book.{fresh, head_of, keys, links}
use Rattle.model.specs.Calls.{no_head, start}
use Rattle.model.specs.Demands.{Reached}
use Rattle.model.specs.Entry.{Entry}
use Rattle.model.specs.Gate.{reading, rows3, sized}
use Rattle.model.specs.Plain.{held_after, plainly}
use Rattle.model.specs.Rebuild.{listing}
use Rattle.model.specs.Runs.{Call, Given, GivenAll, State, perform, run, state_of}
use Rattle.model.proofs.Books.{fresh-valid}
use Rattle.model.proofs.Gates.{checked-by, gate-none}
use Rattle.model.proofs.Goods.{Good}
use Rattle.model.proofs.Passes.{Fit}
use Rattle.model.proofs.Reaches.{reached-image}
use Rattle.model.proofs.Takes.{step-image}
use Rattle.model.proofs.Trees.{both}
use Rattle.model.specs.declared.Outcome.TheVariants.{Done}

-- one call from a state that a run can reach, then a whole run
pub step-good : (K C : ℕ) → Fit K C → (c : Call) → Given c → (s : State) (es : List Entry) → Good K C s es → Good K C (state_of (perform c s)) (plainly K C c es).held
step-good K C fit c t s es g = rw (g.same, ← g.holds) (step-image K C g.book fit g.valid c t).good

pub run-good : (K C : ℕ) → Fit K C → (cs : List Call) → GivenAll cs → (s : State) (es : List Entry) → Good K C s es → Good K C (run cs s) (held_after K C cs es)
run-good K C fit [] t s es g = g
run-good K C fit (c ∷ cs) (t, ts) s es g = run-good K C fit cs ts (state_of (perform c s)) (plainly K C c es).held (step-good K C fit c t s es g)

pub good-reached : (K C : ℕ) → Fit K C → (s : State) (es : List Entry) → Good K C s es → Reached K C s es
good-reached K C fit s es g = rw (g.same, ← g.holds) (reached-image K C g.book fit g.valid)

-- an accepted start
pub start-good : (K C : ℕ) (ks : List ℤ) (ls : List ℕ) → (start K C ks ls).answer.outcome ≡ Done → Fit K C × Good K C (state_of (start K C ks ls)) []
unfolding start
start-good K C ks ls = checked-by (λ a. a.answer.outcome ≡ Done → Fit K C × Good K C (state_of a) []) (rows3 K C (sized K C ks ls)) (λ r. reading (refused no_head 0 r) ks ls) (reading (plain Done (head_of K C (fresh C))) (keys K C (fresh C)) (links K C (fresh C)))
    (λ r g o. let z : ◌≡◌ {A = ℕ} 0 1 = cc in absurd (omega arith))
    (λ g o.
    let f = gate-none (rows3 K C (sized K C ks ls)) g in
    let a = both (leb 1 K) (leb K 4) (not-false (leb 1 K && leb K 4) f.0) in
    let c = both (leb 1 C) (leb C 4096) (not-false (leb 1 C && leb C 4096) f.1.0) in (
      record { k_low = leb-true 1 K a.0; k_high = leb-true K 4 a.1; c_low = leb-true 1 C c.0; c_high = leb-true C 4096 c.1 },
      record { book = fresh C; valid = fresh-valid K C; same = refl; holds = unfold listing fresh in refl },
    ))
