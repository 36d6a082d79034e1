-- Writing the numbers of a slot: what is there then, and that no other slot's numbers changed.
use mathlib.Core.Path.{◌≡◌, refl, sym, ap, ◌∙◌}
use mathlib.Core.Logic.{◌⊎◌, inl, inr}
use mathlib.Core.List.{List, [], ◌∷◌, ◌++◌, append_assoc}
use Prim.Native.Nat.{ℕ, zero, suc, ◌+◌, ◌-◌, ◌*◌, ◌≤◌, ◌<◌}
use native.Mathlib.Decide.{dec_le}
use native.Mathlib.Nat.{mul-le-mul_left, add-suc, suc-add, add-zero}
use native.Mathlib.Omega.{arith}
use lib.ListN.{length, get_or, set, take, drop, replicate, length-take, length-drop}
use borrow.Rule.Slice.PartMut.{put_mid}
use lib.Seq.{sets, sets-eq, length-sets, drop-drop, take_at, drop_at, get_or-take, get_or-drop, get_or-set_other, ext_get_or, length-take-le}
use lib.IntN.{ℤ, pos}
use Rattle.model.specs.Entry.{Entry}
use Rattle.cells.specs.Slots.{Slot, left_at, address_of, numbers_of, Keyed}
use Rattle.cells.specs.Memory.{Frame, Put, Wrote, Released, Claimed}
use Rattle.cells.proofs.Slots.{slot-end}

pub sets-append : {A : Type 0} (l : List A) (i : ℕ) (a b : List A) → sets l i (a ++ b) ≡ sets (sets l i a) (i + length a) b
sets-append l i [] b = rw add-zero
sets-append l i (x ∷ a) b = sets-append (set l i x) (suc i) a b ∙ rw (suc-add, add-suc)

-- a number in front of what was written, or behind it
sets-other : (vs l : List ℤ) (i x : ℕ) → (x < i) ⊎ (i + length vs ≤ x) → get_or (sets l i vs) x (pos 0) ≡ get_or l x (pos 0)
sets-other [] l i x h = refl
sets-other (v ∷ vs) l i x (inl h) = sets-other vs (set l i v) (suc i) x (inl (omega arith)) ∙ get_or-set_other l i x v (pos 0) (omega arith)
sets-other (v ∷ vs) l i x (inr h) = sets-other vs (set l i v) (suc i) x (inr (omega arith)) ∙ get_or-set_other l i x v (pos 0) (omega arith)

-- two slots' numbers are apart
apart : (K s j : ℕ) → 1 ≤ s → 1 ≤ j → ¬ (j ≡ s) → (address_of K j + K ≤ address_of K s) ⊎ (address_of K s + K ≤ address_of K j)
unfolding address_of
apart K s j hs hj ne = go (dec_le j s)
  where
    ends : (a b : ℕ) → 1 ≤ a → a ≤ b - 1 → K * (a - 1) + K ≤ K * (b - 1)
    ends a b p q = let e : K * (a - 1) + K ≡ K * a = unfold address_of in (slot-end K a p) in let h : K * a ≤ K * (b - 1) = mul-le-mul_left K q in omega arith

    go : Dec (j ≤ s) → (K * (j - 1) + K ≤ K * (s - 1)) ⊎ (K * (s - 1) + K ≤ K * (j - 1))
    go (yes h) = inl (ends j s hj (omega arith))
    go (no h) = inr (ends s j hs (omega arith))

place : (K a b n i : ℕ) → (b + K ≤ a) ⊎ (a + K ≤ b) → n ≡ K → i < K → (b + i < a) ⊎ (a + n ≤ b + i)
place K a b n i (inl h) e l = inl (omega arith)
place K a b n i (inr h) e l = inr (omega arith)

pub wrote : (K : ℕ) (ks : List ℤ) (s : ℕ) (vs : Entry) → Keyed K (length ks) s → length vs ≡ K → Wrote K ks (sets ks (address_of K s) vs) s vs
unfolding numbers_of
wrote K ks s vs h n = record { exactly = refl; numbers = here; others = λ ls j p out. record { left = refl; right = refl; high = refl; numbers = elsewhere j p (λ e. out (inl e)) } }
  where
    a : ℕ
    a = address_of K s

    fits : a + length vs ≤ length ks
    fits = let e : a + K ≡ K * s = slot-end K s h.some in let g = h.fits in omega arith

    here : numbers_of K (sets ks a vs) s ≡ vs
    here =
        let g : a + length vs ≤ length ks = fits in
        let d : drop a (sets ks a vs) ≡ vs ++ drop (a + length vs) ks = ap (drop a) (sets-eq vs ks a fits ∙ append_assoc (take a ks) vs (drop (a + length vs) ks)) ∙ drop_at (take a ks) (vs ++ drop (a + length vs) ks) a (length-take-le a ks (omega arith)) in
        rw d (take_at vs (drop (a + length vs) ks) K n)

    elsewhere : (j : ℕ) → 1 ≤ j → ¬ (j ≡ s) → numbers_of K (sets ks a vs) j ≡ numbers_of K ks j
    elsewhere j p ne =
        let b : ℕ = address_of K j in
        let m : length (sets ks a vs) ≡ length ks = length-sets ks a vs in
        ext_get_or (pos 0) (take K (drop b (sets ks a vs))) (take K (drop b ks)) (rw (length-take, length-drop, m) (sym (rw (length-take, length-drop) refl)))
        (λ i l.
        let k : i < K = let q = length-take K (drop b (sets ks a vs)) in omega arith in
        get_or-take K (drop b (sets ks a vs)) i (pos 0) k ∙ get_or-drop b (sets ks a vs) i (pos 0)
        ∙ sets-other vs ks a (b + i) (place K a b (length vs) i (apart K s j h.some p ne) n k)
        ∙ sym (get_or-take K (drop b ks) i (pos 0) k ∙ get_or-drop b ks i (pos 0)))

-- what `put_entry` leaves, where a copy of so many numbers is a part of the table
pub wrote_part : (K : ℕ) (ks xs vs : List ℤ) (s at k : ℕ) → at ≡ address_of K s → Keyed K (length ks) s → k ≡ K → length vs ≡ K → xs ≡ vs → Wrote K ks (put_mid at k ks xs) s vs
wrote_part K ks xs vs s at k e h j n q =
    let f : address_of K s + length vs ≤ length ks = let d = slot-end K s h.some in let g = h.fits in omega arith in
    let p : sets ks (address_of K s) vs ≡ put_mid (address_of K s) K ks vs = sets-eq vs ks (address_of K s) f ∙ rw (n, drop-drop) (append_assoc (take (address_of K s) ks) vs (drop (address_of K s + K) ks)) in
    rw (q, e, j, ← p) (wrote K ks s vs h n)

-- numbers and then links of one slot: every other slot
both_others : (K : ℕ) (ks ks' : List ℤ) (ls ls' : List ℕ) (s l r h : ℕ) (e : Entry) → Wrote K ks ks' s e → Put ls ls' s l r h → Frame K ks ks' ls ls' (s ∷ [])
both_others K ks ks' ls ls' s l r h e w p j q out =
    let a = w.others ls j q out in
    let b = p.others K ks' j q out in
    record { left = b.left ∙ a.left; right = b.right ∙ a.right; high = b.high ∙ a.high; numbers = b.numbers ∙ a.numbers }

-- a slot taken for an entry
pub claimed : (K : ℕ) (ks ks' : List ℤ) (ls ls' : List ℕ) (s f : ℕ) (e : Entry) → Slot (length ls) s → length ls' ≡ length ls → f ≡ left_at ls s → Wrote K ks ks' s e → Put ls ls' s 0 0 1 → Claimed K ks ks' ls ls' s e f
claimed K ks ks' ls ls' s f e o n b w p =
    record {
      behind = b;
      leaf = (refl, record { some = o.some; fits = rw n o.fits }, w.numbers, p.high, p.left, p.right);
      others = both_others K ks ks' ls ls' s 0 0 1 e w p;
    }

-- a slot cleared and then chained
pub released : (K : ℕ) (ks ks' : List ℤ) (ls ls' : List ℕ) (s f : ℕ) → K ≤ 4 → Wrote K ks ks' s (take K (replicate 4 (pos 0))) → Put ls ls' s f 0 0 → Released K ks ks' ls ls' s f
released K ks ks' ls ls' s f h w p =
    record {
      left = p.left;
      right = p.right;
      high = p.high;
      numbers = w.numbers ∙ zeros K h;
      others = both_others K ks ks' ls ls' s f 0 0 (take K (replicate 4 (pos 0))) w p;
    }
  where
    zeros : (n : ℕ) → n ≤ 4 → take n (replicate 4 (pos 0)) ≡ replicate n (pos 0)
    zeros zero g = refl
    zeros (suc zero) g = refl
    zeros (suc (suc zero)) g = refl
    zeros (suc (suc (suc zero))) g = refl
    zeros (suc (suc (suc (suc zero)))) g = refl
    zeros (suc (suc (suc (suc (suc n))))) g = absurd (omega arith)
