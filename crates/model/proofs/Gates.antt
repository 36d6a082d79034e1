-- The gate, a row at a time; what a checked call does, from its two ways.
use mathlib.Core.Path.{◌≡◌, refl}
use mathlib.Core.List.{List, [], ◌∷◌}
use mathlib.Core.Option.{Option, none, some}
use mathlib.Core.Bool.{Bool, true, false, true≢false, false≢true}
use Prim.Native.Nat.{ℕ}
use native.Mathlib.Omega.{arith}
use Rattle.model.specs.Answer.{Row, checked, gate}
use Rattle.model.proofs.Lists.{Every}
use Rattle.model.specs.declared.Refusal.{Refusal}

pub gate-on : (x : Bool) (r : Refusal) (cs : List Row) → x ≡ true → gate ((x, r) ∷ cs) ≡ some r
gate-on true r cs e = refl
gate-on false r cs e = absurd (false≢true e)

pub gate-off : (x : Bool) (r : Refusal) (cs : List Row) → x ≡ false → gate ((x, r) ∷ cs) ≡ gate cs
gate-off true r cs e = absurd (true≢false e)
gate-off false r cs e = refl

pub gate-under : (x : Bool) (r : Refusal) (cs ds : List Row) → gate cs ≡ gate ds → gate ((x, r) ∷ cs) ≡ gate ((x, r) ∷ ds)
gate-under true r cs ds e = refl
gate-under false r cs ds e = e

-- an open gate: no row holds
pub gate-none : (cs : List Row) → gate cs ≡ none → Every (λ c. c.0 ≡ false) cs
gate-none [] e = tt
gate-none ((x, r) ∷ cs) e = go x e (gate-none cs)
  where
    go : (o : Bool) → gate ((o, r) ∷ cs) ≡ none → (gate cs ≡ none → Every (λ c. c.0 ≡ false) cs) → (o ≡ false) × Every (λ c. c.0 ≡ false) cs
    go true q f = let z : ◌≡◌ {A = ℕ} 0 1 = cc in absurd (omega arith)
    go false q f = (refl, f q)

module _ {A : Type 0} where
  pub checked-by : (P : A → Type 0) (rows : List Row) (refuse : Refusal → A) (accept : A) → ((r : Refusal) → gate rows ≡ some r → P (refuse r)) → (gate rows ≡ none → P accept) → P (checked rows refuse accept)
  unfolding checked
  checked-by P rows refuse accept x y = go (gate rows) refl
    where
      go : (o : Option Refusal) → gate rows ≡ o → P (elim o as (λ z. A) [ some r ↦ refuse r | none ↦ accept ])
      go none e = y e
      go (some r) e = x r e

  pub checked-open : (rows : List Row) (refuse : Refusal → A) (accept : A) → gate rows ≡ none → checked rows refuse accept ≡ accept
  unfolding checked
  checked-open rows refuse accept e = rw (e, checked) refl

  pub checked-shut : (rows : List Row) (refuse : Refusal → A) (accept : A) (r : Refusal) → gate rows ≡ some r → checked rows refuse accept ≡ refuse r
  unfolding checked
  checked-shut rows refuse accept r e = rw (e, checked) refl

  pub checked-same : (rows ds : List Row) (refuse : Refusal → A) (accept : A) → gate rows ≡ gate ds → checked rows refuse accept ≡ checked ds refuse accept
  unfolding checked
  checked-same rows ds refuse accept e = rw (e, checked) refl

pub checked-map : {A B : Type 0} (f : A → B) (rows : List Row) (refuse : Refusal → A) (accept : A) → f (checked rows refuse accept) ≡ checked rows (λ r. f (refuse r)) (f accept)
unfolding checked
checked-map {A} {B} f rows refuse accept = go (gate rows)
  where
    go : (o : Option Refusal) → f (elim o as (λ z. A) [ some r ↦ refuse r | none ↦ accept ]) ≡ elim o as (λ z. B) [ some r ↦ f (refuse r) | none ↦ f accept ]
    go none = refl
    go (some r) = refl
