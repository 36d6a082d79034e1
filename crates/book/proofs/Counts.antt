-- Count as it is called: the gate, and what the walk of the box comes to.
use mathlib.Core.Path.{◌≡◌, sym, ap, ◌∙◌}
use mathlib.Core.Option.{none, some}
use mathlib.Core.List.{List}
use Prim.Native.Nat.{ℕ}
use lib.ListN.{length}
use lib.IntN.{ℤ}
use Rattle.model.specs.Answer.{gate, refused, counted}
use Rattle.model.specs.Ask.{keep}
use Rattle.model.specs.Rebuild.{listing}
use Rattle.model.specs.Tree.{Tree}
use Rattle.model.specs.Gate.{rows4, reading}
use Rattle.model.specs.Calls.{count}
use Rattle.model.specs.Pool.{book_of}
use Rattle.model.specs.declared.Head.{Head}
use Rattle.model.specs.declared.Bound.{Bound}
use Rattle.model.specs.declared.Refusal.{Refusal}
use Rattle.model.specs.declared.Answer.{Answer}
use Rattle.model.proofs.Gates.{checked-shut, checked-open}
use Rattle.ask.specs.Standing.{Stands}
use Rattle.ask.specs.Boxes.{slots_in}
use Rattle.ask.proofs.Listed.{box-count}
use Rattle.std.specs.Prelude.{Ok, Err}
use Rattle.reply.specs.Gates.{Gate, told, pooled}
use Rattle.reply.proofs.Pools.{no-scratch-rows, pool-refuses, all-open, pool-stands, pool-distinct}

module _ (h : Head) (ks : List ℤ) (ls : List ℕ) (g : Gate) (is : g ≡ told (gate (pooled h ks ls h.c))) where
  -- rows 1 to 4 of a call that is lent no scratch
  pub reads-shut : (r : Refusal) → g ≡ Err r → gate (rows4 h ks ls) ≡ some r
  reads-shut r e = ap gate (sym (no-scratch-rows h ks ls)) ∙ pool-refuses h ks ls h.c g is r e

  pub reads-open : g ≡ Ok tt → gate (rows4 h ks ls) ≡ none
  reads-open o = ap gate (sym (no-scratch-rows h ks ls)) ∙ all-open h ks ls h.c g is o

  module _ (bs : List Bound) where
    pub count-shut : (r : Refusal) → g ≡ Err r → (count h ks ls bs).answer ≡ refused h 0 r
    unfolding count
    count-shut r e = ap (λ a. a.answer) (checked-shut (rows4 h ks ls) (λ q. reading (refused h 0 q) ks ls) (reading (counted h (length (keep bs (listing (book_of h ks ls).tree)))) ks ls) r (reads-shut r e))

    pub count-open : g ≡ Ok tt → (n : ℕ) (a : Answer) → ((u : Tree) → Stands h.k ks ls h.root 0 u → n ≡ length (slots_in bs u)) → a ≡ counted h n → a ≡ (count h ks ls bs).answer
    unfolding count
    count-open o n a w e =
        let u = (book_of h ks ls).tree in
        let f : n ≡ length (keep bs (listing u)) = w u (pool-stands h ks ls h.c g is o) ∙ sym (box-count bs u (pool-distinct h ks ls h.c g is o)) in
        e ∙ ap (counted h) f ∙ sym (ap (λ x. x.answer) (checked-open (rows4 h ks ls) (λ q. reading (refused h 0 q) ks ls) (reading (counted h (length (keep bs (listing u)))) ks ls) (reads-open o)))
