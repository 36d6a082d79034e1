-- The declared order of two entries, and what the one comparison tells.
use Rattle.std.specs.Prelude.{◌≡◌, length}
use Prim.Native.Nat.{ℕ, suc, ◌<◌, Ordering}
use Rattle.model.specs.Entry.{Entry, cut_field, cmp}
use Rattle.std.specs.declared.cmp.Ordering.{Ordering as Order}
use Rattle.std.specs.declared.cmp.Ordering.TheVariants.{Less, Equal, Greater}

-- an order of the model, as std names it
abbrev pub named : Ordering → Order
named Ordering.lt = Less
named Ordering.eq = Equal
named Ordering.gt = Greater

-- how a stands to b at every depth that is cut at field c
pub record Compared (a b : Entry) (c : ℕ) (o : Order) : Type 0 where
  pub at : (t : ℕ) → cut_field (length a) t ≡ c → o ≡ named (cmp t a b)

-- the cut one level deeper than a depth that is cut at field c
pub record Deeper (K c d : ℕ) : Type 0 where
  pub low : d < K
  pub at : (t : ℕ) → cut_field K t ≡ c → cut_field K (suc t) ≡ d
