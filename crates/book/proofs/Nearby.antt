-- Nearest as it is called: its refusals, and what the search comes to.
use mathlib.Core.Path.{◌≡◌, sym, ap, ◌∙◌}
use mathlib.Core.Bool.{Bool, true, false}
use mathlib.Core.Option.{some}
use mathlib.Core.List.{List, [], ◌∷◌, ◌++◌}
use Prim.Native.Nat.{ℕ}
use lib.ListN.{take}
use lib.IntN.{ℤ}
use Rattle.model.specs.Answer.{Row, gate, inward, plain, refused, close}
use Rattle.model.specs.Entry.{Entry}
use Rattle.model.specs.Tree.{Tree, items}
use Rattle.model.specs.Ask.{nearest, slot_of}
use Rattle.model.specs.Rebuild.{listing}
use Rattle.model.specs.Gate.{rows4, reading}
use Rattle.model.specs.Calls.{near, near_answer, any_zero}
use Rattle.model.specs.Pool.{book_of}
use Rattle.model.specs.declared.Head.{Head}
use Rattle.model.specs.declared.Entry.{Entry as Four}
use Rattle.model.specs.declared.Refusal.{Refusal}
use Rattle.model.specs.declared.Refusal.TheVariants.{Step}
use Rattle.model.specs.declared.Outcome.TheVariants.{Absent}
use Rattle.model.proofs.Gates.{gate-on, gate-off, checked-shut, checked-open}
use Rattle.cells.specs.Slots.{numbers_of}
use Rattle.std.proofs.Common.{Option, None, Some}
use Rattle.ask.specs.Nearest.{Searched, BestOf, Chosen}
use Rattle.ask.specs.declared.near.Best.{Best}
use Rattle.ask.proofs.Nears.{searched-whole, nearest-none, nearest-some, nearest-slot}
use Rattle.sound.specs.Parts.{shape_of}
use Rattle.std.specs.Prelude.{Ok, Err}
use Rattle.reply.specs.Gates.{Gate, told, pooled}
use Rattle.book.proofs.Counts.{reads-shut, reads-open}
use Rattle.reply.proofs.Pools.{behind-shut, behind-open, pool-ordered, pool-stands}

module _ (h : Head) (ks : List ℤ) (ls : List ℕ) (g : Gate) (is : g ≡ told (gate (pooled h ks ls h.c))) (q : Four) (steps : List ℕ) where
  abbrev u : Tree
  u = (book_of h ks ls).tree

  abbrev step : List Row
  step = (any_zero (take h.k steps), Step) ∷ []

  refuses : (r : Refusal) → gate (rows4 h ks ls ++ step) ≡ some r → (near h ks ls q steps).answer ≡ refused h 0 r
  unfolding near
  refuses r e = ap (λ a. a.answer) (checked-shut (rows4 h ks ls ++ step) (λ r. reading (refused h 0 r) ks ls) (reading (near_answer h steps (inward h.k q) u (nearest steps (inward h.k q) (listing u))) ks ls) r e)

  pub near-shut : (r : Refusal) → g ≡ Err r → (near h ks ls q steps).answer ≡ refused h 0 r
  near-shut r e = refuses r (behind-shut (rows4 h ks ls) step r (reads-shut h ks ls g is r e))

  module _ (o : g ≡ Ok tt) (z : Bool) (zs : z ≡ any_zero (take h.k steps)) where
    pub near_step : z ≡ true → (near h ks ls q steps).answer ≡ refused h 0 Step
    near_step e = refuses Step (behind-open (rows4 h ks ls) step (reads-open h ks ls g is o) ∙ gate-on (any_zero (take h.k steps)) Step [] (sym zs ∙ e))

    near-open : z ≡ false → (near h ks ls q steps).answer ≡ near_answer h steps (inward h.k q) u (nearest steps (inward h.k q) (listing u))
    unfolding near
    near-open e = ap (λ a. a.answer) (checked-open (rows4 h ks ls ++ step) (λ r. reading (refused h 0 r) ks ls) (reading (near_answer h steps (inward h.k q) u (nearest steps (inward h.k q) (listing u))) ks ls) (behind-open (rows4 h ks ls) step (reads-open h ks ls g is o) ∙ gate-off (any_zero (take h.k steps)) Step [] (sym zs ∙ e)))

    module _ (e : z ≡ false) (r : Option Best) (w : Searched (shape_of h) ks ls steps (inward h.k q) h.root 0 None r) where
      best : BestOf h.k ks steps (inward h.k q) (items u) r
      best = searched-whole (shape_of h) ks ls steps (inward h.k q) h.root 0 r w u (pool-stands h ks ls h.c g is o)

      pub near_none : r ≡ None → (near h ks ls q steps).answer ≡ plain Absent h
      near_none n = near-open e ∙ ap (near_answer h steps (inward h.k q) u) (nearest-none h.k ks steps (inward h.k q) u (rw n at best))

      module _ (b : Best) (is-some : r ≡ Some b) where
        chosen : Chosen h.k ks steps (inward h.k q) (items u) b
        chosen = rw is-some at best

        pub near-some : (near h ks ls q steps).answer ≡ close h (numbers_of h.k ks b.slot) b.slot b.distance
        near-some =
            let x : Entry = numbers_of h.k ks b.slot in
            let s : slot_of 0 x u ≡ b.slot = nearest-slot h.k ks steps (inward h.k q) u b chosen (pool-ordered h ks ls h.c g is o) in
            near-open e ∙ ap (near_answer h steps (inward h.k q) u) (nearest-some h.k ks steps (inward h.k q) u b chosen) ∙ (λ i. close h x (s i) (sym chosen.away i))
