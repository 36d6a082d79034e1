-- The links and the numbers of a slot, read and written.
use mathlib.Core.Path.{◌≡◌, refl, sym, ◌∙◌}
use mathlib.Core.Logic.{◌⊎◌, inl, inr}
use mathlib.Core.List.{List}
use Prim.Native.Nat.{ℕ, zero, suc, ◌+◌, ◌-◌, ◌*◌, ◌≤◌, ◌<◌}
use native.Mathlib.Decide.{dec_le}
use native.Mathlib.Nat.{mul-suc, mul-le-mul_left, mul-le-mul_right}
use native.Mathlib.Numerals.{sub-one}
use native.Mathlib.Omega.{arith}
use lib.ListN.{length, get_or, set, take, drop, length-set, length-drop}
use lib.Seq.{get_or-set_same, get_or-set_other, length-take-le}
use lib.IntN.{ℤ}
use Rattle.cells.specs.Slots.{left_at, right_at, height_at, tall, address_of, numbers_of, Slot, Keyed}
use Rattle.cells.specs.Memory.{Put}

-- the memory with three cells stored from index i on
abbrev pub stored : List ℕ → ℕ → ℕ → ℕ → ℕ → List ℕ
stored m i l r h = set (set (set m i l) (i + 1) r) (i + 2) h

module _ (m : List ℕ) (i l r h : ℕ) (fits : i + 3 ≤ length m) where
  stored-0 : get_or (stored m i l r h) i 0 ≡ l
  stored-0 = get_or-set_other (set (set m i l) (i + 1) r) (i + 2) i h 0 (omega arith) ∙ get_or-set_other (set m i l) (i + 1) i r 0 (omega arith) ∙ get_or-set_same m i l 0 (omega arith)

  stored-1 : get_or (stored m i l r h) (i + 1) 0 ≡ r
  stored-1 = get_or-set_other (set (set m i l) (i + 1) r) (i + 2) (i + 1) h 0 (omega arith) ∙ get_or-set_same (set m i l) (i + 1) r 0 (rw length-set (omega arith))

  stored-2 : get_or (stored m i l r h) (i + 2) 0 ≡ h
  stored-2 = get_or-set_same (set (set m i l) (i + 1) r) (i + 2) h 0 (rw (length-set, length-set) (omega arith))

stored_other : (m : List ℕ) (i l r h x : ℕ) → (x < i) ⊎ (i + 3 ≤ x) → get_or (stored m i l r h) x 0 ≡ get_or m x 0
stored_other m i l r h x (inl lt) = get_or-set_other (set (set m i l) (i + 1) r) (i + 2) x h 0 (omega arith) ∙ get_or-set_other (set m i l) (i + 1) x r 0 (omega arith) ∙ get_or-set_other m i x l 0 (omega arith)
stored_other m i l r h x (inr ge) = get_or-set_other (set (set m i l) (i + 1) r) (i + 2) x h 0 (omega arith) ∙ get_or-set_other (set m i l) (i + 1) x r 0 (omega arith) ∙ get_or-set_other m i x l 0 (omega arith)

-- two slots are apart
apart : (s j : ℕ) → 1 ≤ s → 1 ≤ j → (j ≡ s → ⊥) → (3 * (j - 1) + 2 < 3 * (s - 1)) ⊎ (3 * (s - 1) + 3 ≤ 3 * (j - 1))
apart s j ps pj ne = go (dec_le j s)
  where
    go : Dec (j ≤ s) → (3 * (j - 1) + 2 < 3 * (s - 1)) ⊎ (3 * (s - 1) + 3 ≤ 3 * (j - 1))
    go (yes le) = inl (omega arith)
    go (no gt) = inr (omega arith)

-- slot j has the same links
record SameLinks (m m' : List ℕ) (j : ℕ) : Type 0 where
  left : left_at m' j ≡ left_at m j
  right : right_at m' j ≡ right_at m j
  high : height_at m' j ≡ height_at m j

same-other : (m : List ℕ) (s l r h j : ℕ) → (3 * (j - 1) + 2 < 3 * (s - 1)) ⊎ (3 * (s - 1) + 3 ≤ 3 * (j - 1)) → SameLinks m (stored m (3 * (s - 1)) l r h) j
unfolding left_at right_at height_at
same-other m s l r h j (inl lt) = record {
  left = stored_other m (3 * (s - 1)) l r h (3 * (j - 1)) (inl (omega arith));
  right = stored_other m (3 * (s - 1)) l r h (3 * (j - 1) + 1) (inl (omega arith));
  high = stored_other m (3 * (s - 1)) l r h (3 * (j - 1) + 2) (inl lt);
}
same-other m s l r h j (inr ge) = record {
  left = stored_other m (3 * (s - 1)) l r h (3 * (j - 1)) (inr ge);
  right = stored_other m (3 * (s - 1)) l r h (3 * (j - 1) + 1) (inr (omega arith));
  high = stored_other m (3 * (s - 1)) l r h (3 * (j - 1) + 2) (inr (omega arith));
}

pub put : (m : List ℕ) (s l r h : ℕ) → Slot (length m) s → Put m (stored m (3 * (s - 1)) l r h) s l r h
unfolding left_at right_at height_at
put m s l r h ok =
    record {
      left = stored-0 m (3 * (s - 1)) l r h (omega arith);
      right = stored-1 m (3 * (s - 1)) l r h (omega arith);
      high = stored-2 m (3 * (s - 1)) l r h (omega arith);
      others = λ K ks j pj ne. (let x = same-other m s l r h j (apart s j ok.some pj (λ e. ne (inl e))) in record { left = x.left; right = x.right; high = x.high; numbers = refl });
    }

pub tall-zero : (m : List ℕ) (s : ℕ) → s ≡ 0 → tall m s ≡ 0
unfolding tall
tall-zero m zero e = refl
tall-zero m (suc s) e = absurd (let z : suc s ≡ 0 = e in omega arith)

pub tall-slot : (m : List ℕ) (s : ℕ) → (s ≡ 0 → ⊥) → tall m s ≡ height_at m s
unfolding tall
tall-slot m zero ne = absurd (ne refl)
tall-slot m (suc s) ne = refl

-- the numbers of a slot: where they end, and how many they are
pub slot-end : (K s : ℕ) → 1 ≤ s → address_of K s + K ≡ K * s
unfolding address_of
slot-end K zero h = absurd (omega arith)
slot-end K (suc s) h = rw sub-one (sym (mul-suc K s))

pub numbers-long : (K : ℕ) (ks : List ℤ) (s : ℕ) → Keyed K (length ks) s → length (numbers_of K ks s) ≡ K
unfolding numbers_of
numbers-long K ks s h =
    let e : address_of K s + K ≡ K * s = slot-end K s h.some in
    let f : length (drop (address_of K s) ks) ≡ length ks - address_of K s = length-drop (address_of K s) ks in
    length-take-le K (drop (address_of K s) ks) (let g = h.fits in omega arith)

-- a part of K numbers from a slot's address on, as a loan of it is written
part-is : (K : ℕ) (ks : List ℤ) (s : ℕ) → take ((address_of K s + K) - address_of K s) (drop (address_of K s) ks) ≡ numbers_of K ks s
unfolding numbers_of
part-is K ks s = let e : (address_of K s + K) - address_of K s ≡ K = omega arith in rw e refl

-- no address passes 4 times 4,096
pub address-low : (K s : ℕ) → K ≤ 4 → s ≤ 4096 → K * (s - 1) ≤ 16384
address-low K s h g =
    let a : K * (s - 1) ≤ K * 4096 = mul-le-mul_left K (omega arith) in
    let b : K * 4096 ≤ 4 * 4096 = mul-le-mul_right 4096 h in
    omega arith

pub address-is-low : (K s i : ℕ) → i ≡ address_of K s → K ≤ 4 → s ≤ 4096 → i ≤ 16384
unfolding address_of
address-is-low K s i e h g = let a = address-low K s h g in omega arith

pub address-ends : (K n s i : ℕ) → i ≡ address_of K s → Keyed K n s → i + K ≤ n
address-ends K n s i e h = let a = slot-end K s h.some in let b = h.fits in omega arith

pub part_at : (K : ℕ) (ks : List ℤ) (s i : ℕ) → i ≡ address_of K s → take ((i + K) - i) (drop i ks) ≡ numbers_of K ks s
part_at K ks s i e = rw e (part-is K ks s)
