-- A fresh pool: numbers cleared and slots chained are the image of a fresh book.
use mathlib.Core.Path.{◌≡◌, refl, sym, ap, ◌∙◌}
use mathlib.Core.Logic.{◌⊎◌, inl, inr}
use mathlib.Core.List.{List, [], ◌∷◌}
use Prim.Native.Nat.{ℕ, zero, suc, ◌+◌, ◌*◌, ◌≤◌, ◌<◌}
use native.Mathlib.Decide.{dec_le}
use native.Mathlib.Nat.{mul-le-mul_left}
use native.Mathlib.Omega.{arith}
use lib.ListN.{length, take, drop, replicate, length-replicate}
use lib.IntN.{ℤ, pos}
use borrow.Author.Tests.{eq-eqb, ne_eqb}
use Rattle.model.specs.Book.{Cell, up_from, first, behind, fresh, cell_in, cell, links, keys}
use Rattle.model.specs.Pool.{cell_of}
use Rattle.model.proofs.Crowd.{InPool}
use Rattle.model.proofs.Sounds.{image-of}
use Rattle.cells.specs.Slots.{left_at, address_of, numbers_of}
use Rattle.cells.specs.Memory.{Put}
use Rattle.cells.proofs.Slots.{slot-end}
use Rattle.cells.proofs.Reps.{link-cells}
use Rattle.desk.specs.Fresh.{Chained}

-- chaining, a slot at a time
pub chain_more : (ls ls' : List ℕ) (C m n : ℕ) → m < C → Chained ls C m → Put ls ls' (m + 1) n 0 0 → (m + 1 ≡ C → n ≡ 0) → (¬ (m + 1 ≡ C) → n ≡ m + 1 + 1) → Chained ls' C (m + 1)
chain_more ls ls' C m n h c p e f =
    record {
      next = λ s a b l. go s a b (dec_le s m) (λ z. (kept s a z).left ∙ c.next s a z l) (λ z. rw z (p.left ∙ f (λ q. omega arith) ∙ omega arith));
      last = λ a. (let z : m + 1 ≡ C = omega arith in rw (← z) (p.left ∙ e z));
      right = λ s a b. go s a b (dec_le s m) (λ z. (kept s a z).right ∙ c.right s a z) (λ z. rw z p.right);
      high = λ s a b. go s a b (dec_le s m) (λ z. (kept s a z).high ∙ c.high s a z) (λ z. rw z p.high);
    }
  where
    go : {X : Type 0} (s : ℕ) → 1 ≤ s → s ≤ m + 1 → Dec (s ≤ m) → (s ≤ m → X) → (s ≡ m + 1 → X) → X
    go s a b (yes z) x y = x z
    go s a b (no z) x y = y (omega arith)

    kept : (s : ℕ) → 1 ≤ s → s ≤ m → Rattle.cells.specs.Memory.Same 0 [] [] ls ls' s
    kept s a z = p.others 0 [] s a (λ i. away s z i)
      where
        away : (s : ℕ) → s ≤ m → Rattle.cells.specs.Memory.In s ((m + 1) ∷ []) → ⊥
        away s z (inr h) = elim h [ ]
        away s z (inl q) = omega arith

pub chained-next : (C s n : ℕ) → ((s + 1 ≡ C) × (n ≡ 0)) ⊎ ((¬ (s + 1 ≡ C)) × (n ≡ s + 1 + 1)) → (s + 1 ≡ C → n ≡ 0) × (¬ (s + 1 ≡ C) → n ≡ s + 1 + 1)
chained-next C s n (inl w) = ((λ e. w.1), λ o. absurd (o w.0))
chained-next C s n (inr w) = ((λ e. absurd (w.0 e)), λ o. w.1)

-- the chain of a fresh book
behind-up : (n a s : ℕ) → a ≤ s → s < a + n → (s + 1 < a + n → behind s (up_from n a) ≡ suc s) × (a + n ≤ s + 1 → behind s (up_from n a) ≡ 0)
unfolding up_from behind
behind-up zero a s h k = absurd (omega arith)
behind-up (suc n) a s h k = go (dec_le s a) (λ x y. behind-up n (suc a) s x y)
  where
    top : (m b : ℕ) → first (up_from (suc m) b) ≡ b
    top m b = refl

    front : (m : ℕ) → (suc a < a + suc m → first (up_from m (suc a)) ≡ suc a) × (a + suc m ≤ suc a → first (up_from m (suc a)) ≡ 0)
    front zero = ((λ z. absurd (omega arith)), λ z. refl)
    front (suc m) = ((λ z. refl), λ z. absurd (omega arith))

    go : Dec (s ≤ a) → (suc a ≤ s → s < suc a + n → (s + 1 < suc a + n → behind s (up_from n (suc a)) ≡ suc s) × (suc a + n ≤ s + 1 → behind s (up_from n (suc a)) ≡ 0)) → (s + 1 < a + suc n → behind s (up_from (suc n) a) ≡ suc s) × (a + suc n ≤ s + 1 → behind s (up_from (suc n) a) ≡ 0)
    go (yes z) ih =
        let e : s ≡ a = omega arith in
        let f = front n in
        ((λ w. rw (eq-eqb s a e, behind) (f.0 (omega arith) ∙ ap suc (sym e))), λ w. rw (eq-eqb s a e, behind) (f.1 (omega arith)))
    go (no z) ih =
        let r = ih (omega arith) (omega arith) in
        ((λ w. rw (ne_eqb s a (λ q. omega arith), behind) (r.0 (omega arith))), λ w. rw (ne_eqb s a (λ q. omega arith), behind) (r.1 (omega arith)))

zeros-part : (K n m : ℕ) → m + K ≤ n → take K (drop m (replicate n (pos 0))) ≡ replicate K (pos 0)
zeros-part zero n m h = refl
zeros-part (suc K) zero m h = absurd (omega arith)
zeros-part (suc K) (suc n) zero h = ap (λ x. pos 0 ∷ x) (zeros-part K n 0 (omega arith))
zeros-part (suc K) (suc n) (suc m) h = zeros-part (suc K) n m (omega arith)

pub fresh-image : (K C : ℕ) (ks : List ℤ) (ls : List ℕ) → 1 ≤ C → ks ≡ replicate (K * C) (pos 0) → length ls ≡ 3 * C → Chained ls C C → (keys K C (fresh C) ≡ ks) × (links K C (fresh C) ≡ ls)
unfolding fresh cell cell_in
fresh-image K C ks ls c ek el h = image-of K C (fresh C) ks ls (ap length ek ∙ length-replicate (K * C) (pos 0)) el same
  where
    left_is : (s : ℕ) → 1 ≤ s → s ≤ C → behind s (up_from C 1) ≡ left_at ls s
    left_is s a b = go (dec_le C s)
      where
        go : Dec (C ≤ s) → behind s (up_from C 1) ≡ left_at ls s
        go (yes z) = let e : s ≡ C = omega arith in (behind-up C 1 s a (omega arith)).1 (omega arith) ∙ sym (rw e (h.last (omega arith)))
        go (no z) = (behind-up C 1 s a (omega arith)).0 (omega arith) ∙ sym (h.next s a b (omega arith))

    numbers-are : (s : ℕ) → 1 ≤ s → s ≤ C → replicate K (pos 0) ≡ numbers_of K ks s
    numbers-are s a b = sym (rw ek (unfold numbers_of in (zeros-part K (K * C) (address_of K s) (let e = slot-end K s a in let f = mul-le-mul_left K b in omega arith))))

    same : (s : ℕ) → InPool C s → ◌≡◌ {A = Cell} (record { left = behind s (up_from C 1); right = 0; high = 0; key = replicate K (pos 0) }) (cell_of K ks ls s)
    same s p = (λ i. record { left = left_is s p.0 p.1 i; right = sym (h.right s p.0 p.1) i; high = sym (h.high s p.0 p.1) i; key = numbers-are s p.0 p.1 i }) ∙ sym (link-cells K ks ls s p.0)
