-- The items of a tray read from its numbers: the first number and the entry of each, and refusal 12's test of all of them.
use mathlib.Core.Path.{◌≡◌, refl, sym, ap, ap₂, ◌∙◌}
use mathlib.Core.Bool.{Bool, true, false, ◌&&◌, ◌||◌}
use mathlib.Core.List.{List, [], ◌∷◌}
use Prim.Native.Nat.{ℕ, suc, ◌+◌, ◌-◌, ◌*◌, ◌/◌, ◌%◌, ◌≤◌, ◌<◌}
use native.Mathlib.Omega.{arith}
use native.Mathlib.Nat.{suc-mul, mul-le-mul_right, div-mul-le_self}
use native.Mathlib.Numerals.{add-one}
use lib.Dec.{leb, eqb}
use lib.ListN.{length, take, drop}
use lib.Seq.{take-length, drop-drop}
use lib.IntN.{ℤ}
use borrow.Author.Tests.{eq-eqb, ne_eqb, le-leb, lt-leb}
use Rattle.std.proofs.lemmas.List.{drop-take}
use Rattle.model.specs.Tray.{begins, begun, trayed, work_at}
use Rattle.model.proofs.Items.{entry_of_work}
use Rattle.model.proofs.Trees.{pair}
use Rattle.weigh.specs.Items.{entry_at, item_of, work_of}

and_no : (a b : Bool) → b ≡ false → (a && b) ≡ false
and_no true b e = e
and_no false b e = refl

-- all behind the first number
pub rest_of : (xs : List ℤ) → take (length xs - 1) (drop 1 xs) ≡ drop 1 xs
rest_of [] = refl
rest_of (x ∷ xs) = ap (λ n. take n xs) (let e : suc (length xs) - 1 ≡ length xs = omega arith in e) ∙ take-length xs

-- an item of its own, and as the front of what is left of the tray
pub begins_item : (n K i : ℕ) (xs : List ℤ) → begins n (item_of K xs i) ≡ begins n (drop (i * (K + 1)) xs)
begins_item n K i xs = ap (λ m. begins n (take m (drop (i * (K + 1)) xs))) (add-one K) ∙ front (drop (i * (K + 1)) xs)
  where
    front : (ys : List ℤ) → begins n (take (suc K) ys) ≡ begins n ys
    front [] = refl
    front (y ∷ ys) = refl

-- the entry behind an item's first number
pub entry_item : (K i : ℕ) (xs : List ℤ) → drop 1 (item_of K xs i) ≡ entry_at K xs i
entry_item K i xs = ap (λ m. drop 1 (take m (drop (i * (K + 1)) xs))) (let e : K + 1 ≡ 1 + K = omega arith in e) ∙ drop-take 1 K (drop (i * (K + 1)) xs) ∙ ap (take K) (drop-drop 1 (i * (K + 1)) xs)

pub alike_entries : (K i j : ℕ) (xs a b : List ℤ) → a ≡ item_of K xs i → b ≡ item_of K xs j → drop 1 a ≡ drop 1 b → entry_at K xs j ≡ entry_at K xs i
alike_entries K i j xs a b p q e = sym (entry_item K j xs) ∙ ap (drop 1) (sym q) ∙ sym e ∙ ap (drop 1) p ∙ entry_item K i xs

pub unlike_entries : (K i j : ℕ) (xs a b : List ℤ) → a ≡ item_of K xs i → b ≡ item_of K xs j → ¬ (drop 1 a ≡ drop 1 b) → ¬ (entry_at K xs j ≡ entry_at K xs i)
unlike_entries K i j xs a b p q n e = n (ap (drop 1) p ∙ entry_item K i xs ∙ sym e ∙ sym (entry_item K j xs) ∙ ap (drop 1) (sym q))

-- a whole item lies within the numbers; where the next begins
pub item-fits : (K n i : ℕ) → i < n / (K + 1) → i * (K + 1) + (K + 1) ≤ n
item-fits K n i l =
    let a : suc i * (K + 1) ≤ n / (K + 1) * (K + 1) = mul-le-mul_right (K + 1) l in
    let b = div-mul-le_self n (K + 1) in
    let e = suc-mul i (K + 1) in
    omega arith

pub next-item : (K : ℕ) (xs : List ℤ) (i : ℕ) → drop (suc K) (drop (i * (K + 1)) xs) ≡ drop ((i + 1) * (K + 1)) xs
next-item K xs i =
    let a : (i + 1) * (K + 1) ≡ i * (K + 1) + (K + 1) = ap (λ j. j * (K + 1)) (add-one i) ∙ suc-mul i (K + 1) in
    let b : i * (K + 1) + suc K ≡ (i + 1) * (K + 1) = ap (λ j. i * (K + 1) + j) (sym (add-one K)) ∙ sym a in
    drop-drop (suc K) (i * (K + 1)) xs ∙ ap (λ j. drop j xs) b

-- the entry of an item
pub part-long : (a K : ℕ) → (a + K) - a ≡ K
part-long a K = omega arith

pub entry-is : (K : ℕ) (xs : List ℤ) (i : ℕ) → entry_of_work (work_of K xs i) ≡ entry_at K xs i
entry-is K xs i = go (begins 1 (drop (i * (K + 1)) xs)) refl (ap (take K) (drop-drop 1 (i * (K + 1)) xs))
  where
    go : (o : Bool) → begins 1 (drop (i * (K + 1)) xs) ≡ o → take K (drop 1 (drop (i * (K + 1)) xs)) ≡ entry_at K xs i → entry_of_work (work_of K xs i) ≡ entry_at K xs i
    go true q e = rw (q, work_at) e
    go false q e = rw (q, work_at) e

-- ---- refusal 12's test

module _ (K : ℕ) (xs : List ℤ) where
  abbrev many : ℕ
  many = length xs / (K + 1)

  trayed-is : trayed K xs ≡ (leb many 256 && (eqb (length xs % (K + 1)) 0 && begun K many xs))
  unfolding trayed
  trayed-is = rw (add-one K) refl

  pub tray-long : 256 < many → false ≡ trayed K xs
  tray-long l = sym (trayed-is ∙ rw (lt-leb many 256 l) refl)

  pub tray-part : ¬ (length xs % (K + 1) ≡ 0) → false ≡ trayed K xs
  tray-part n = sym (trayed-is ∙ and_no (leb many 256) (eqb (length xs % (K + 1)) 0 && begun K many xs) (rw (ne_eqb (length xs % (K + 1)) 0 n) refl))

  tray-not : begun K many xs ≡ false → false ≡ trayed K xs
  tray-not e = sym (trayed-is ∙ and_no (leb many 256) (eqb (length xs % (K + 1)) 0 && begun K many xs) (and_no (eqb (length xs % (K + 1)) 0) (begun K many xs) e))

  -- the items before i begin right
  abbrev pub Begun : ℕ → Type 0
  Begun i = (i ≤ many) × (begun K (many - i) (drop (i * (K + 1)) xs) ≡ begun K many xs)

  module _ (i : ℕ) (v : Begun i) where
    module _ (l : i < many) (r : Bool) (e : r ≡ (begins 1 (item_of K xs i) || begins 2 (item_of K xs i))) where
      opens : begun K many xs ≡ (r && begun K (many - (i + 1)) (drop ((i + 1) * (K + 1)) xs))
      opens =
          let m : many - i ≡ suc (many - (i + 1)) = omega arith in
          sym v.1 ∙ ap (λ j. begun K j (drop (i * (K + 1)) xs)) m ∙ ap (λ (y : List ℤ). (begins 1 (drop (i * (K + 1)) xs) || begins 2 (drop (i * (K + 1)) xs)) && begun K (many - (i + 1)) y) (next-item K xs i) ∙ ap (λ y. y && begun K (many - (i + 1)) (drop ((i + 1) * (K + 1)) xs)) (sym (e ∙ ap₂ ◌||◌ (begins_item 1 K i xs) (begins_item 2 K i xs)))

      pub begun-on : r ≡ true → Begun (i + 1)
      begun-on t = (omega arith, sym (opens ∙ ap (λ y. y && begun K (many - (i + 1)) (drop ((i + 1) * (K + 1)) xs)) t))

      pub begun-not : r ≡ false → false ≡ trayed K xs
      begun-not t = tray-not (opens ∙ ap (λ y. y && begun K (many - (i + 1)) (drop ((i + 1) * (K + 1)) xs)) t)

    pub begun_all : many ≤ 256 → length xs % (K + 1) ≡ 0 → many ≤ i → true ≡ trayed K xs
    begun_all l z n =
        let m : many - i ≡ 0 = omega arith in
        let b : begun K many xs ≡ true = sym v.1 ∙ ap (λ j. begun K j (drop (i * (K + 1)) xs)) m in
        sym (trayed-is ∙ pair (le-leb many 256 l) (pair (eq-eqb (length xs % (K + 1)) 0 z) b))
