-- What an open gate tells of refusals 1 to 3.
use mathlib.Core.Path.{◌≡◌, refl, sym, ap, ◌∙◌}
use mathlib.Core.Option.{Option, none, some}
use Rattle.std.specs.Prelude.{Ok, Err}
use mathlib.Core.Bool.{Bool, true, false, ◌&&◌}
use mathlib.Core.List.{List}
use Prim.Native.Nat.{ℕ, zero, suc, ◌*◌, ◌≤◌}
use native.Mathlib.Omega.{arith}
use lib.Dec.{leb, eqb}
use lib.ListN.{length}
use lib.IntN.{ℤ}
use borrow.Author.Tests.{leb-true, eq-eqb, eqb-true, not-false}
use Rattle.model.specs.Answer.{gate}
use Rattle.model.specs.Book.{up_from, fresh, head_of}
use Rattle.model.specs.declared.Head.{Head}
use Rattle.model.specs.Gate.{rows3, sized}
use Rattle.model.specs.declared.Refusal.{Refusal}
use Rattle.model.proofs.Trees.{both}
use Rattle.model.proofs.Gates.{gate-none}
use Rattle.cells.specs.Slots.{Room}
use Rattle.reply.specs.Gates.{Gate, told, fitting}

pub told-open : (o : Option Refusal) → told o ≡ Ok tt → o ≡ none
told-open none e = refl
told-open (some r) e = let z : ◌≡◌ {A = ℕ} 0 1 = cc in absurd (omega arith)

pub told-shut : (o : Option Refusal) (r : Refusal) → told o ≡ Err r → o ≡ some r
told-shut none r e = let z : ◌≡◌ {A = ℕ} 0 1 = cc in absurd (omega arith)
told-shut (some q) r e = let z : q ≡ r = cc in ap some z

-- an open gate tells the sizes
module _ (K C nk nl ns : ℕ) (g : Gate) (e : g ≡ told (gate (rows3 K C (fitting K C nk nl ns)))) where
  pub open-gate : g ≡ Ok tt → gate (rows3 K C (fitting K C nk nl ns)) ≡ none
  open-gate q = told-open (gate (rows3 K C (fitting K C nk nl ns))) (sym e ∙ q)

  pub shut-gate : (r : Refusal) → g ≡ Err r → gate (rows3 K C (fitting K C nk nl ns)) ≡ some r
  shut-gate r q = told-shut (gate (rows3 K C (fitting K C nk nl ns))) r (sym e ∙ q)

  pub room : g ≡ Ok tt → Room (record { k = K; c = C }) nk nl
  room q =
      let f = gate-none (rows3 K C (fitting K C nk nl ns)) (open-gate q) in
      let a = both (leb 1 K) (leb K 4) (not-false (leb 1 K && leb K 4) f.0) in
      let b = both (leb 1 C) (leb C 4096) (not-false (leb 1 C && leb C 4096) f.1.0) in
      let c = both (eqb nk (K * C) && eqb nl (3 * C)) (eqb ns C) (not-false (fitting K C nk nl ns) f.1.1.0) in
      let d = both (eqb nk (K * C)) (eqb nl (3 * C)) c.0 in
      record { k_low = leb-true 1 K a.0; k_high = leb-true K 4 a.1; c_low = leb-true 1 C b.0; c_high = leb-true C 4096 b.1; wide = eqb-true nk (K * C) d.0; long = eqb-true nl (3 * C) d.1 }

-- and that the scratch is as long as there are slots
pub scratch-fits : (K C nk nl ns : ℕ) → gate (rows3 K C (fitting K C nk nl ns)) ≡ none → ns ≡ C
scratch-fits K C nk nl ns e =
    let f = gate-none (rows3 K C (fitting K C nk nl ns)) e in
    eqb-true ns C (both (eqb nk (K * C) && eqb nl (3 * C)) (eqb ns C) (not-false (fitting K C nk nl ns) f.1.1.0)).1

-- a call that is lent no scratch
pub no-scratch : (K C : ℕ) (ks : List ℤ) (ls : List ℕ) → fitting K C (length ks) (length ls) C ≡ sized K C ks ls
no-scratch K C ks ls = rw (eq-eqb C C refl) (right-true (sized K C ks ls))
  where
    right-true : (a : Bool) → (a && true) ≡ a
    right-true true = refl
    right-true false = refl

pub fresh-head : (K C : ℕ) → 1 ≤ C → ◌≡◌ {A = Head} (record { k = K; c = C; root = 0; free = 1; n = 0 }) (head_of K C (fresh C))
unfolding fresh head_of up_from
fresh-head K zero h = absurd (omega arith)
fresh-head K (suc C) h = refl
