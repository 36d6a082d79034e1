-- Start as it is called: refused, and past the gate a fresh pool.
use mathlib.Core.Path.{◌≡◌, sym, ap, ◌∙◌}
use mathlib.Core.List.{List}
use Prim.Native.Nat.{ℕ, ◌*◌}
use lib.ListN.{length, replicate}
use lib.IntN.{ℤ, pos}
use mathlib.Core.Option.{none, some}
use Rattle.model.specs.Book.{fresh, links, keys, head_of}
use Rattle.model.specs.Answer.{gate, plain, refused}
use Rattle.model.specs.Gate.{After, reading, rows3, sized}
use Rattle.model.specs.Calls.{start, no_head}
use Rattle.model.specs.declared.Head.{Head}
use Rattle.model.specs.declared.Refusal.{Refusal}
use Rattle.model.specs.declared.Outcome.TheVariants.{Done}
use Rattle.model.specs.declared.Answer.{Answer}
use Rattle.model.proofs.Gates.{checked-shut, checked-open}
use Rattle.reply.specs.Gates.{fitting}
use Rattle.reply.proofs.Gates.{no-scratch}
use Rattle.cells.specs.Slots.{Room}
use Rattle.desk.specs.Fresh.{Chained}
use Rattle.desk.proofs.Chains.{fresh-image}

-- a head that is all 0
pub head-of_zeros : (h : Head) → (h.k ≡ 0) × ((h.c ≡ 0) × ((h.root ≡ 0) × ((h.free ≡ 0) × (h.n ≡ 0)))) → h ≡ no_head
head-of_zeros h e = λ i. record { k = e.0 i; c = e.1.0 i; root = e.1.1.0 i; free = e.1.1.1.0 i; n = e.1.1.1.1 i }

-- start as it is called: refused, and past the gate
module _ (K C : ℕ) (ks : List ℤ) (ls : List ℕ) where
  abbrev pub start_left : After → Answer → List ℤ → List ℕ → Type 0
  start_left a r k l = (r ≡ a.answer) × ((k ≡ a.keys) × (l ≡ a.links))

  pub start-shut : (a : Answer) (r : Refusal) → a ≡ refused no_head 0 r → gate (rows3 K C (fitting K C (length ks) (length ls) C)) ≡ some r → start_left (start K C ks ls) a ks ls
  unfolding start
  start-shut a r ea g =
      let e = checked-shut (rows3 K C (sized K C ks ls)) (λ q. reading (refused no_head 0 q) ks ls) (reading (plain Done (head_of K C (fresh C))) (keys K C (fresh C)) (links K C (fresh C))) r (ap (λ b. gate (rows3 K C b)) (sym (no-scratch K C ks ls)) ∙ g) in
      (ea ∙ sym (ap (λ x. x.answer) e), (sym (ap (λ x. x.keys) e), sym (ap (λ x. x.links) e)))

  pub start-open : (a : Answer) (ks' : List ℤ) (ls' : List ℕ) → gate (rows3 K C (fitting K C (length ks) (length ls) C)) ≡ none → Room (record { k = K; c = C }) (length ks) (length ls) → a ≡ plain Done (head_of K C (fresh C)) → ks' ≡ replicate (length ks) (pos 0) → (length ls' ≡ 3 * C) × Chained ls' C C → start_left (start K C ks ls) a ks' ls'
  unfolding start
  start-open a ks' ls' g m ea ek h =
      let e = checked-open (rows3 K C (sized K C ks ls)) (λ q. reading (refused no_head 0 q) ks ls) (reading (plain Done (head_of K C (fresh C))) (keys K C (fresh C)) (links K C (fresh C))) (ap (λ b. gate (rows3 K C b)) (sym (no-scratch K C ks ls)) ∙ g) in
      let f = fresh-image K C ks' ls' m.c_low (ek ∙ ap (λ n. replicate n (pos 0)) m.wide) h.0 h.1 in
      (ea ∙ sym (ap (λ x. x.answer) e), (sym f.0 ∙ sym (ap (λ x. x.keys) e), sym f.1 ∙ sym (ap (λ x. x.links) e)))
