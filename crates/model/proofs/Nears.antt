-- The nearest by a reading of every entry: it is one of them, and none is better.
use mathlib.Core.Path.{◌≡◌, refl, sym}
use mathlib.Core.List.{List, [], ◌∷◌}
use mathlib.Core.Option.{Option, none, some}
use Prim.Native.Nat.{ℕ, ◌≤◌, ◌<◌, compare, Ordering}
use native.Mathlib.Omega.{arith}
use Rattle.model.specs.Ask.{closer, nearest}
use Rattle.model.specs.Entry.{Entry, cmp, distance}
use Rattle.model.specs.Strike.{left}
use Rattle.model.proofs.Adds.{less-unlike, lt-gt}
use Rattle.model.proofs.Lists.{Every, every_map}
use Rattle.model.proofs.Numbers.{compare→gt}
use Rattle.model.proofs.Orders.{cmp-eq, cmp-trans, compare-eq, compare→lt}
use Rattle.model.proofs.Ranks.{Unlike, gt→lt}
use Rattle.model.proofs.Sides.{toward-by}
use Rattle.model.proofs.Trees.{Less}

-- a is at least as good as b: nearer, or as near and not behind it in listing order
pub record AsGood (steps : List ℕ) (q a b : Entry) : Type 0 where
  pub near : distance steps q a ≤ distance steps q b
  pub tie : distance steps q a ≡ distance steps q b → ¬ (Less 0 b a)

good-self : (steps : List ℕ) (q a : Entry) → AsGood steps q a a
good-self steps q a = record { near = omega arith; tie = λ e h. less-unlike 0 a a h refl }

pub good-trans : (steps : List ℕ) (q a b c : Entry) → AsGood steps q a b → AsGood steps q b c → AsGood steps q a c
good-trans steps q a b c x y = record { near = (let m = x.near in let n = y.near in omega arith); tie = tied }
  where
    tied : distance steps q a ≡ distance steps q c → ¬ (Less 0 c a)
    tied e h =
        let m : distance steps q a ≤ distance steps q b = x.near in
        let n : distance steps q b ≤ distance steps q c = y.near in
        let ab : distance steps q a ≡ distance steps q b = omega arith in
        let bc : distance steps q b ≡ distance steps q c = omega arith in
        toward-by left 0 a b (λ l. y.tie bc (cmp-trans 0 c a b h l)) (λ l. y.tie bc (rw l at h)) (λ l. x.tie ab l)

-- the better of two
closer-by : (P : Entry → Type 0) (steps : List ℕ) (q a b : Entry) → (AsGood steps q a b → P a) → (AsGood steps q b a → P b) → P (closer steps q a b)
unfolding closer
closer-by P steps q a b x y = go (compare (distance steps q a) (distance steps q b)) refl
  where
    da : ℕ
    da = distance steps q a

    db : ℕ
    db = distance steps q b

    tied : (o : Ordering) → cmp 0 a b ≡ o → da ≡ db → P (elim o as (λ z. Entry) [ Ordering.lt ↦ a | Ordering.eq ↦ a | Ordering.gt ↦ b ])
    tied Ordering.lt c e = x (record { near = omega arith; tie = λ z h. lt-gt 0 a b c h })
    tied Ordering.eq c e = x (record { near = omega arith; tie = λ z h. less-unlike 0 b a h (sym (cmp-eq 0 a b c)) })
    tied Ordering.gt c e = y (record { near = omega arith; tie = λ z h. lt-gt 0 a b h (gt→lt 0 a b c) })

    go : (o : Ordering) → compare da db ≡ o → P (elim o as (λ z. Entry) [ Ordering.lt ↦ a | Ordering.gt ↦ b | Ordering.eq ↦ elim (cmp 0 a b) as (λ z. Entry) [ Ordering.lt ↦ a | Ordering.eq ↦ a | Ordering.gt ↦ b ] ])
    go Ordering.lt c = let l : da < db = compare→lt da db c in x (record { near = omega arith; tie = λ z h. absurd (omega arith) })
    go Ordering.gt c = let l : db < da = compare→gt da db c in y (record { near = omega arith; tie = λ z h. absurd (omega arith) })
    go Ordering.eq c = tied (cmp 0 a b) refl (compare-eq da db c)

-- what is shown of the nearest of a list: of an empty one none, else one of them that is as good as each
abbrev pub Best : List ℕ → Entry → List Entry → Entry → Type 0
Best steps q es e = (¬ (Every (Unlike e) es)) × Every (AsGood steps q e) es

pub nearest-by : (P : Option Entry → Type 0) (steps : List ℕ) (q : Entry) (es : List Entry) → (es ≡ [] → P none) → ((e : Entry) → Best steps q es e → P (some e)) → P (nearest steps q es)
unfolding nearest
nearest-by P steps q [] x y = x refl
nearest-by P steps q (e ∷ es) x y =
    nearest-by (λ o. P (elim o as (λ z. Option Entry) [ none ↦ some e | some b ↦ some (closer steps q e b) ])) steps q es
    (λ z. y e ((λ u. u.0 refl), (good-self steps q e, rw z tt)))
    (λ b g. closer-by (λ z. P (some z)) steps q e b
    (λ c. y e ((λ u. u.0 refl), (good-self steps q e, every_map (AsGood steps q b) (AsGood steps q e) (λ w h. good-trans steps q e b w c h) es g.1)))
    (λ c. y b ((λ u. g.0 u.1), (c, g.1))))
