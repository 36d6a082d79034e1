-- What `rebuild` needs: the parts of the ranked slots, and the root joined over the two trees made of them.
use mathlib.Core.Path.{◌≡◌, refl, sym, ap, subst, ◌∙◌}
use mathlib.Core.Logic.{◌⊎◌, inl, inr, ⊎_elim}
use mathlib.Core.List.{List, [], ◌∷◌, ◌++◌}
use Prim.Native.Nat.{ℕ, suc, ◌+◌, ◌-◌, ◌*◌, ◌/◌, ◌≤◌, ◌<◌, max}
use native.Mathlib.Omega.{arith}
use lib.ListN.{length, get_or, take, drop, length-drop}
use lib.Seq.{length-take-le}
use lib.IntN.{ℤ}
use Rattle.model.specs.Entry.{cut_field}
use Rattle.model.specs.Tree.{Tree}
use Rattle.model.specs.Rebuild.{rebuild}
use Rattle.model.specs.declared.Shape.{Shape}
use Rattle.cells.specs.Orders.{Deeper}
use Rattle.cells.specs.Slots.{tall, Slot, Room}
use Rattle.cells.specs.Memory.{Rep, In, Frame, Put}
use Rattle.cells.proofs.Reps.{tall-rep, rep-bound, rep-frame, frame_self, frame-trans, joined, in_left, in_right}
use Rattle.rank.specs.Ranking.{item_at, items_at, Ranked}
use Rattle.build.specs.Rebuilding.{Chosen, Rebuilt}
use Rattle.rank.proofs.Merging.{cut-here, ranked-perm}
use Rattle.build.proofs.Shapes.{halves, rebuild-low, slots-node, in-perm, rebuild-in, chosen-ranked, Parts, parts, pool-slot}

pub rebuilt-nil : (K : ℕ) (ks : List ℤ) (c : ℕ) (ls ss : List ℕ) → length ss ≡ 0 → Rebuilt K ks c ls ls ss 0
unfolding rebuild
rebuilt-nil K ks c ls [] e = record { rep = λ t h. refl; frame = frame_self K ks ls [] }
rebuilt-nil K ks c ls (s ∷ ss) e = absurd (omega arith)

-- the slots ss₀ were ranked as ss
module _ (S : Shape) (ks : List ℤ) (ls : List ℕ) (c : ℕ) (ss₀ ss : List ℕ) (room : Room S (length ks) (length ls)) (low : c < S.k) (chosen : Chosen S.c ss₀) (ne : length ss₀ ≡ 0 → ⊥) (rk : Ranked S.k ks c ss₀ ss) (n : length ss ≡ length ss₀) where
  abbrev mid : ℕ
  mid = length ss₀ / 2

  abbrev lower : List ℕ
  lower = take (length ss₀ / 2) ss

  abbrev upper : List ℕ
  upper = drop (length ss₀ / 2 + 1) ss

  abbrev root : ℕ
  root = get_or ss (length ss₀ / 2) 0

  whole : ss ≡ lower ++ (root ∷ upper)
  whole = halves ss mid (omega arith)

  pub ranked-parts : Parts S.c (take (length ss₀ / 2) ss) (get_or ss (length ss₀ / 2) 0) (drop (length ss₀ / 2 + 1) ss)
  ranked-parts = parts S.c lower root upper (subst (Chosen S.c) whole (chosen-ranked S.k ks c S.c ss₀ ss low rk chosen))

  inside : (j : ℕ) → In j lower ⊎ ((j ≡ root) ⊎ In j upper) → In j ss₀
  inside j h = in-perm ss ss₀ (ranked-perm S.k ks c ss₀ ss low rk) j (subst (In j) (sym whole) (⊎_elim (in_left j lower (root ∷ upper)) (in_right j lower (root ∷ upper)) h))

  lower_long : length lower ≡ mid
  lower_long = length-take-le mid ss (omega arith)

  upper_long : length upper ≡ length ss₀ - (mid + 1)
  upper_long = length-drop (mid + 1) ss ∙ ap (λ (x : ℕ). x - (mid + 1)) n

  pub lower-falls : length (take (length ss₀ / 2) ss) < length ss₀
  lower-falls = let a = lower_long in omega arith

  pub upper-falls : length (drop (length ss₀ / 2 + 1) ss) < length ss₀
  upper-falls = let a = upper_long in omega arith

  pub root-slot : Slot (length ls) (get_or ss (length ss₀ / 2) 0)
  root-slot = pool-slot S (length ks) (length ls) root room ranked-parts.root

  -- both parts were rebuilt, the lower at l and then the upper at r
  module _ (c' : ℕ) (deep : Deeper S.k c c') (ls₁ ls₂ : List ℕ) (l r : ℕ) (e₁ : length ls₁ ≡ length ls) (e₂ : length ls₂ ≡ length ls₁)
      (bl : Rebuilt S.k ks c' ls ls₁ (take (length ss₀ / 2) ss) l) (br : Rebuilt S.k ks c' ls₁ ls₂ (drop (length ss₀ / 2 + 1) ss) r) where
    abbrev left-tree : ℕ → Tree
    left-tree t = rebuild (suc t) (items_at S.k ks lower)

    abbrev right-tree : ℕ → Tree
    right-tree t = rebuild (suc t) (items_at S.k ks upper)

    left_there : (t : ℕ) → cut_field S.k t ≡ c → Rep S.k ks ls₂ l (left-tree t)
    left_there t h = rep-frame S.k ks ks ls₁ ls₂ upper e₂ br.frame l (left-tree t) (λ j i. ranked-parts.apart j (rebuild-in S.k ks (suc t) lower j i)) (bl.rep (suc t) (deep.at t h))

    right_there : (t : ℕ) → cut_field S.k t ≡ c → Rep S.k ks ls₂ r (right-tree t)
    right_there t h = br.rep (suc t) (deep.at t h)

    pub fits : (3 * l ≤ length ls₂) × (3 * r ≤ length ls₂)
    fits =
        let h : cut_field S.k c ≡ c = cut-here S.k c low in
        (rep-bound S.k ks ls₂ l (left-tree c) (left_there c h), rep-bound S.k ks ls₂ r (right-tree c) (right_there c h))

    pub not-tall : max (tall ls₂ l) (tall ls₂ r) ≤ length ss₀ / 2
    not-tall =
        let h : cut_field S.k c ≡ c = cut-here S.k c low in
        let a = tall-rep S.k ks ls₂ l (left-tree c) (left_there c h) in
        let b = tall-rep S.k ks ls₂ r (right-tree c) (right_there c h) in
        let x = rebuild-low S.k ks (suc c) lower in
        let y = rebuild-low S.k ks (suc c) upper in
        let u = lower_long in
        let v = upper_long in
        omega arith

    pub rebuilt-node : (ls₃ : List ℕ) → length ls₃ ≡ length ls₂ → Put ls₂ ls₃ (get_or ss (length ss₀ / 2) 0) l r (suc (max (tall ls₂ l) (tall ls₂ r))) → Rebuilt S.k ks c ls ls₃ ss₀ (get_or ss (length ss₀ / 2) 0)
    rebuilt-node ls₃ e₃ p = record { rep = here; frame = left }
      where
        here : (t : ℕ) → cut_field S.k t ≡ c → Rep S.k ks ls₃ root (rebuild t (items_at S.k ks ss₀))
        here t h = rw (slots-node S.k ks c t ss₀ ss mid rk h n refl (omega arith))
            (joined S.k ks ls₂ ls₃ (item_at S.k ks root) l r (left-tree t) (right-tree t) e₃ (rw (e₂ ∙ e₁) root-slot) refl p (left_there t h) (right_there t h)
            (λ i. ranked-parts.not_left (rebuild-in S.k ks (suc t) lower root i))
            (λ i. ranked-parts.not_right (rebuild-in S.k ks (suc t) upper root i)))

        left : Frame S.k ks ks ls ls₃ ss₀
        left = frame-trans S.k ks ks ks ls ls₂ ls₃ ss₀ (root ∷ []) (frame-trans S.k ks ks ks ls ls₁ ls₂ lower upper bl.frame br.frame ss₀ (λ j i. inside j (inl i)) (λ j i. inside j (inr (inr i)))) (p.others S.k ks) ss₀ (λ j i. i) (λ j. ⊎_elim (λ e. inside j (inr (inl e))) absurd)
