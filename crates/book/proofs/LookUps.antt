-- Look-up as it is called: its refusals, and what each end of the walk answers.
use mathlib.Core.Path.{◌≡◌, refl, sym, ap, ◌∙◌}
use mathlib.Core.Option.{none, some}
use mathlib.Core.List.{List}
use Prim.Native.Nat.{ℕ}
use native.Mathlib.Omega.{arith}
use lib.ListN.{length}
use lib.IntN.{ℤ}
use Rattle.model.specs.Answer.{gate, inward, refused, met, unmet}
use Rattle.model.specs.Gate.{rows3, sized, reading}
use Rattle.model.specs.Calls.{look_up, walked}
use Rattle.model.specs.Pool.{Walk, found, gone, astray, walk, read_limit, cell_of}
use Rattle.model.specs.declared.Head.{Head}
use Rattle.model.specs.declared.Entry.{Entry as Four}
use Rattle.model.specs.declared.Refusal.{Refusal}
use Rattle.model.specs.declared.Refusal.TheVariants.{Unsound}
use Rattle.model.proofs.Gates.{checked-shut, checked-open}
use Rattle.ask.specs.Walks.{named}
use Rattle.ask.specs.declared.walk.Walk.{Walk as End}
use Rattle.ask.specs.declared.walk.Walk.TheVariants.{Found, Gone, Astray}
use Rattle.reply.specs.Gates.{fitting}
use Rattle.reply.proofs.Gates.{no-scratch}

module _ (h : Head) (ks : List ℤ) (ls : List ℕ) (e : Four) where
  abbrev end : Walk
  end = walk read_limit (cell_of h.k ks ls) h.c 0 (inward h.k e) 0 h.root

  pub look-shut : (r : Refusal) → gate (rows3 h.k h.c (fitting h.k h.c (length ks) (length ls) h.c)) ≡ some r → (look_up h ks ls e).answer ≡ refused h 0 r
  unfolding look_up
  look-shut r g = ap (λ a. a.answer) (checked-shut (rows3 h.k h.c (sized h.k h.c ks ls)) (λ q. reading (refused h 0 q) ks ls) (reading (walked h (inward h.k e) end) ks ls) r (ap (λ b. gate (rows3 h.k h.c b)) (sym (no-scratch h.k h.c ks ls)) ∙ g))

  look-open : gate (rows3 h.k h.c (fitting h.k h.c (length ks) (length ls) h.c)) ≡ none → (look_up h ks ls e).answer ≡ walked h (inward h.k e) end
  unfolding look_up
  look-open g = ap (λ a. a.answer) (checked-open (rows3 h.k h.c (sized h.k h.c ks ls)) (λ q. reading (refused h 0 q) ks ls) (reading (walked h (inward h.k e) end) ks ls) (ap (λ b. gate (rows3 h.k h.c b)) (sym (no-scratch h.k h.c ks ls)) ∙ g))

  ends : (w : Walk) → ((s r : ℕ) → named w ≡ Found s r → walked h (inward h.k e) w ≡ met h (inward h.k e) s r) × (((r : ℕ) → named w ≡ Gone r → walked h (inward h.k e) w ≡ unmet h r) × (named w ≡ Astray → walked h (inward h.k e) w ≡ refused h 0 Unsound))
  ends (found s r) = ((λ a b q. (let z : s ≡ a = cc in let y : r ≡ b = cc in λ i. met h (inward h.k e) (z i) (y i))), ((λ b q. (let z : ◌≡◌ {A = ℕ} 0 1 = cc in absurd (omega arith))), λ q. (let z : ◌≡◌ {A = ℕ} 0 1 = cc in absurd (omega arith))))
  ends (gone r) = ((λ a b q. (let z : ◌≡◌ {A = ℕ} 0 1 = cc in absurd (omega arith))), ((λ b q. (let y : r ≡ b = cc in ap (unmet h) y)), λ q. (let z : ◌≡◌ {A = ℕ} 0 1 = cc in absurd (omega arith))))
  ends astray = ((λ a b q. (let z : ◌≡◌ {A = ℕ} 0 1 = cc in absurd (omega arith))), ((λ b q. (let z : ◌≡◌ {A = ℕ} 0 1 = cc in absurd (omega arith))), λ q. refl))

  -- an open gate and the end of the walk
  module _ (g : gate (rows3 h.k h.c (fitting h.k h.c (length ks) (length ls) h.c)) ≡ none) (w : End) (is : w ≡ named end) where
    pub look-met : (s r : ℕ) → w ≡ Found s r → (look_up h ks ls e).answer ≡ met h (inward h.k e) s r
    look-met s r q = look-open g ∙ (ends end).0 s r (sym is ∙ q)

    pub look-unmet : (r : ℕ) → w ≡ Gone r → (look_up h ks ls e).answer ≡ unmet h r
    look-unmet r q = look-open g ∙ (ends end).1.0 r (sym is ∙ q)

    pub look-astray : w ≡ Astray → (look_up h ks ls e).answer ≡ refused h 0 Unsound
    look-astray q = look-open g ∙ (ends end).1.1 (sym is ∙ q)
