-- What the code is free to choose: the order in which it gathers the entries of a rebuild.
use mathlib.Core.Path.{◌≡◌, refl, sym, ap, ap₂, ◌∙◌}
use mathlib.Core.List.Permᴰ
use mathlib.Core.List.{List, [], ◌∷◌}
use Prim.Native.Nat.{ℕ, zero, suc, ◌/◌, Ordering}
use lib.ListN.{length, take, drop}
use Rattle.model.specs.Entry.{cmp}
use Rattle.model.specs.Rebuild.{build, put, rank, rebuild}
use Rattle.model.specs.Tree.{Item, Tree, nil, node}
use Rattle.model.proofs.Adds.{less-unlike, lt-gt}
use Rattle.model.proofs.Heights.{put-by, rank-length}
use Rattle.model.proofs.Orders.{cmp-eq, cmp-trans}
use Rattle.model.proofs.Ranks.{Distinct, Perm, Sorted, Unlike, gt→lt, perm-all, perm-distinct, rank-perm}
use Rattle.model.proofs.Trees.{AllL, Less}

-- `put` in front of a greater, and behind a less
put_front : (t : ℕ) (i j : Item) (js : List Item) → Less t i.entry j.entry → put t i (j ∷ js) ≡ i ∷ j ∷ js
put_front t i j js e = rw (e, put) refl

put-behind : (t : ℕ) (i j : Item) (js : List Item) → Less t j.entry i.entry → put t i (j ∷ js) ≡ j ∷ put t i js
put-behind t i j js e = put-by (λ s. s ≡ j ∷ put t i js) t i j js (λ c. lt-gt t i.entry j.entry c e) (λ c. absurd (less-unlike t j.entry i.entry e (sym (cmp-eq t i.entry j.entry c)))) (λ c. refl)

put-swap : (t : ℕ) (x y : Item) (s : List Item) → AllL (Unlike x.entry) s → AllL (Unlike y.entry) s → Less t x.entry y.entry → put t x (put t y s) ≡ put t y (put t x s)
put-swap t x y [] u w h = put_front t x y [] h ∙ sym (put-behind t y x [] h)
put-swap t x y (z ∷ s) (u, us) (w, ws) h = go (cmp t x.entry z.entry) (cmp t y.entry z.entry) refl refl (put-swap t x y s us ws h)
  where
    go : (o o' : Ordering) → cmp t x.entry z.entry ≡ o → cmp t y.entry z.entry ≡ o' → put t x (put t y s) ≡ put t y (put t x s) → put t x (put t y (z ∷ s)) ≡ put t y (put t x (z ∷ s))
    go Ordering.eq o' e f ih = absurd (u (cmp-eq t x.entry z.entry e))
    go Ordering.lt Ordering.lt e f ih = ap (put t x) (put_front t y z s f) ∙ put_front t x y (z ∷ s) h ∙ ap (λ k. x ∷ k) (sym (put_front t y z s f)) ∙ sym (put-behind t y x (z ∷ s) h) ∙ ap (put t y) (sym (put_front t x z s e))
    go Ordering.lt Ordering.eq e f ih = absurd (w (cmp-eq t y.entry z.entry f))
    go Ordering.lt Ordering.gt e f ih = ap (put t x) (put-behind t y z s (gt→lt t y.entry z.entry f)) ∙ put_front t x z (put t y s) e ∙ ap (λ k. x ∷ k) (sym (put-behind t y z s (gt→lt t y.entry z.entry f))) ∙ sym (put-behind t y x (z ∷ s) h) ∙ ap (put t y) (sym (put_front t x z s e))
    go Ordering.gt Ordering.lt e f ih = lt-gt t x.entry z.entry (cmp-trans t x.entry y.entry z.entry h f) (gt→lt t x.entry z.entry e)
    go Ordering.gt Ordering.eq e f ih = absurd (w (cmp-eq t y.entry z.entry f))
    go Ordering.gt Ordering.gt e f ih = ap (put t x) (put-behind t y z s (gt→lt t y.entry z.entry f)) ∙ put-behind t x z (put t y s) (gt→lt t x.entry z.entry e) ∙ ap (λ k. z ∷ k) ih ∙ sym (put-behind t y z (put t x s) (gt→lt t y.entry z.entry f)) ∙ ap (put t y) (sym (put-behind t x z s (gt→lt t x.entry z.entry e)))

put-comm : (t : ℕ) (x y : Item) (s : List Item) → Unlike x.entry y.entry → AllL (Unlike x.entry) s → AllL (Unlike y.entry) s → put t x (put t y s) ≡ put t y (put t x s)
put-comm t x y s n u w = go (cmp t x.entry y.entry) refl
  where
    go : (o : Ordering) → cmp t x.entry y.entry ≡ o → put t x (put t y s) ≡ put t y (put t x s)
    go Ordering.lt e = put-swap t x y s u w e
    go Ordering.eq e = absurd (n (cmp-eq t x.entry y.entry e))
    go Ordering.gt e = sym (put-swap t y x s w u (gt→lt t x.entry y.entry e))

-- the ranking does not depend on the order of the list
pub rank-any : (t : ℕ) {a b : List Item} → Perm a b → Distinct a → rank t a ≡ rank t b
rank-any t Permᴰ.nil d = refl
rank-any t (Permᴰ.cons {b = y} e p) (d, ds) = rw e (ap (put t y) (rank-any t p ds))
rank-any t (Permᴰ.swap {a = x} {b = y} {l = l} e f) ((n, u), (w, ds)) = rw (← e, ← f) (put-comm t x y (rank t l) n (perm-all (Unlike x.entry) (Permᴰ.symm (rank-perm t l)) u) (perm-all (Unlike y.entry) (Permᴰ.symm (rank-perm t l)) w))
rank-any t (Permᴰ.trans p q) d = rank-any t p d ∙ rank-any t q (perm-distinct p d)

pub rank-sorted-id : (t : ℕ) (a : List Item) → Sorted t a → rank t a ≡ a
rank-sorted-id t [] h = refl
rank-sorted-id t (i ∷ is) (h, hs) = ap (put t i) (rank-sorted-id t is hs) ∙ first is h
  where
    first : (js : List Item) → AllL (Less t i.entry) js → put t i js ≡ i ∷ js
    first [] g = refl
    first (j ∷ js) (g, gs) = put_front t i j js g

-- two rising lists of the same items are one
pub sorted-one : (t : ℕ) (a b : List Item) → Perm a b → Distinct a → Sorted t a → Sorted t b → a ≡ b
sorted-one t a b p d g h = sym (rank-sorted-id t a g) ∙ rank-any t p d ∙ rank-sorted-id t b h

-- a rebuild does not depend on the order in which the entries are gathered
pub rebuild-any : (t : ℕ) (a b : List Item) → Perm a b → Distinct a → rebuild t a ≡ rebuild t b
unfolding rebuild
rebuild-any t a b p d = rw (← long) (go (length a))
  where
    same : rank t a ≡ rank t b
    same = rank-any t p d

    long : length a ≡ length b
    long = sym (rank-length t a) ∙ ap length same ∙ rank-length t b

    step : ℕ → ℕ → List Item → Tree
    step f n s = elim (drop (n / 2) s) [ [] ↦ nil | i ∷ r ↦ node i (build f (suc t) (take (n / 2) s)) (build f (suc t) r) ]

    go : (m : ℕ) → build m t a ≡ build m t b
    go zero = refl
    go (suc m) = ap₂ (step m) long same
