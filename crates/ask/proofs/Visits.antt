-- One entry of the search: whether it is better, how far it is, and which of its sides is the near one.
use mathlib.Core.Path.{◌≡◌, refl, sym, ap, ◌∙◌}
use mathlib.Core.Logic.{◌⊎◌, inl, inr, ⊎_elim}
use mathlib.Core.List.{List}
use Prim.Native.Nat.{ℕ, ◌≤◌}
use native.Mathlib.Omega.{arith}
use native.Mathlib.Nat.{zero-mod}
use lib.IntN.{ℤ}
use Rattle.model.specs.Entry.{cut_field, cmp}
use Rattle.model.proofs.Orders.{flip, cmp-flip}
use Rattle.model.specs.declared.Shape.{Shape}
use Rattle.cells.specs.Orders as orders
use Rattle.cells.specs.Slots.{numbers_of, Room, SlotsCompared}
use Rattle.std.specs.declared.cmp.Ordering.{Ordering as Order}
use Rattle.std.specs.declared.cmp.Ordering.TheVariants as told
use Rattle.std.proofs.Common.{Option, Some, None}
use Rattle.ask.specs.Nearest.{Bettered, Pooled, Tabled}
use Rattle.ask.proofs.Walks.{keyed-in}
use Rattle.ask.specs.declared.near.Best.{Best}

pub less_other : (o : Order) → o ≡ told.Less → ¬ (o ≡ told.Greater)
less_other o e g = let y : ◌≡◌ {A = ℕ} 0 1 = cc in omega arith

pub same-other : (o : Order) → o ≡ told.Equal → ¬ (o ≡ told.Greater)
same-other o e g = let y : ◌≡◌ {A = ℕ} 0 1 = cc in omega arith

-- at a tie the comparison at depth 0 decides
module _ (K : ℕ) (ks : List ℤ) (b : Best) (s d : ℕ) (o : Order) (low : 1 ≤ K) (w : SlotsCompared K ks b.slot s 0 o) where
  listed : o ≡ orders.named (cmp 0 (numbers_of K ks b.slot) (numbers_of K ks s))
  unfolding cut_field
  listed = w.at 0 (zero-mod K)

  pub tie-stays : ¬ (o ≡ told.Greater) → b.distance ≤ d → Bettered K ks (Some b) s d b
  tie-stays n h = inl (record { is = refl; near = h; tie = λ e l. n (listed ∙ ap orders.named (cmp-flip 0 (numbers_of K ks s) (numbers_of K ks b.slot) ∙ ap flip l)) })

  pub tie-yields : o ≡ told.Greater → d ≤ b.distance → Bettered K ks (Some b) s d (record { slot = s; distance = d })
  tie-yields g h = inr (record { is = refl; near = h; tie = λ e l. (let x : told.Greater ≡ told.Less = sym g ∙ listed ∙ ap orders.named l in let y : ◌≡◌ {A = ℕ} 0 1 = cc in omega arith) })

-- what is seen next is one of the pool again
pub pool-kept : (C : ℕ) (b : Option Best) (r : Best) (s : ℕ) → Pooled C b → 1 ≤ s → s ≤ C → (b ≡ Some r) ⊎ (r.slot ≡ s) → Pooled C (Some r)
pool-kept C b r s h low g w = ⊎_elim (λ e. rw e at h) (λ e. (omega arith, omega arith)) w

-- what lies in the pool lies in its key table
pub pool-tabled : (S : Shape) (nk nl : ℕ) → Room S nk nl → (b : Option Best) → Pooled S.c b → Tabled S.k nk b
pool-tabled S nk nl m None h = tt
pool-tabled S nk nl m (Some b) h = let c = m.c_high in (omega arith, keyed-in S nk nl b.slot m (λ z. omega arith) h.1)
