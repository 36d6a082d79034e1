-- Whether an entry is in a sound pool, by the walk.
use mathlib.Core.Path.{◌≡◌, refl, sym, ap, ◌∙◌}
use mathlib.Core.Bool.{true, false}
use mathlib.Core.List.{List}
use Prim.Native.Nat.{ℕ, zero, suc}
use native.Mathlib.Omega.{arith}
use native.Mathlib.Nat.{zero-add}
use lib.IntN.{ℤ}
use Rattle.model.specs.Entry.{Entry}
use Rattle.model.specs.Tree.{Tree}
use Rattle.model.specs.Ask.{has, slot_of, reads}
use Rattle.model.specs.Rebuild.{listing}
use Rattle.model.specs.Pool.{cell_of, book_of, walk, read_limit}
use Rattle.model.specs.declared.Head.{Head}
use Rattle.model.proofs.Adds.{has_all, slot_of-has}
use Rattle.model.proofs.Books.{valid-in_pool}
use Rattle.model.proofs.Listings.{false-has, true-has, has-true, has-false, listing-all, all-listing}
use Rattle.model.proofs.Looks.{walk_of, walk-tree, low-enough, slot_of-none}
use Rattle.model.proofs.Ranks.{Unlike}
use Rattle.model.proofs.Sides.{There}
use Rattle.model.proofs.Trees.{All}
use Rattle.cells.proofs.Reps.{rep-lies}
use Rattle.ask.specs.Walks.{named}
use Rattle.ask.specs.declared.walk.Walk.{Walk as End}
use Rattle.ask.specs.declared.walk.Walk.TheVariants.{Found, Gone}
use Rattle.weigh.specs.Sounds.{Sound}
use Rattle.weigh.proofs.Held.{few-of, its, its-rep}

pub has_there : (e : Entry) (u : Tree) → has e (listing u) ≡ true → There e u
has_there e u q a = has-true e (listing u) q (listing-all (Unlike e) u a)

pub has-unlike : (e : Entry) (u : Tree) → has e (listing u) ≡ false → All (Unlike e) u
has-unlike e u q = all-listing (Unlike e) u (has-false e (listing u) q)

module _ (h : Head) (ks : List ℤ) (ls : List ℕ) (p : Sound h ks ls) (k : Entry) where
  abbrev u : Tree
  u = (book_of h ks ls).tree

  walks : walk read_limit (cell_of h.k ks ls) h.c 0 k 0 h.root ≡ walk_of (slot_of 0 k u) (reads 0 k u)
  walks =
      let l = rep-lies h.k h.c ks ls p.room.long h.root u (its-rep h ks ls p) in
      let n = (its h ks ls p).count in
      let f = few-of h ks ls p.good in
      let c = p.room.c_high in
      let low = low-enough u (its h ks ls p).valid.balanced (omega arith) in
      ap (walk read_limit (cell_of h.k ks ls) h.c 0 k 0) (sym l.0) ∙ walk-tree 16 (cell_of h.k ks ls) h.c 0 k 0 u low l.1 l.2 ∙ ap (walk_of (slot_of 0 k u)) (zero-add (reads 0 k u))

  there : (s : ℕ) → slot_of 0 k u ≡ suc s → has k (listing u) ≡ true
  there s e = true-has k (listing u) (λ a. has_all (Unlike k) (record { slot = suc s; entry = k }) u (slot_of-has 0 k u s e) (all-listing (Unlike k) u a) refl)

  not_there : slot_of 0 k u ≡ 0 → has k (listing u) ≡ false
  not_there e = false-has k (listing u) (listing-all (Unlike k) u (slot_of-none h.c 0 k u (its h ks ls p).valid.ordered (valid-in_pool h.k h.c (book_of h ks ls) (its h ks ls p).valid) e))

  module _ (w : End) (is : w ≡ named (walk read_limit (cell_of h.k ks ls) h.c 0 k 0 h.root)) where
    by-slot : (n : ℕ) → slot_of 0 k u ≡ n → ((s r : ℕ) → w ≡ Found s r → true ≡ has k (listing u)) × (((s r : ℕ) → w ≡ Found s r → ⊥) → false ≡ has k (listing u))
    by-slot zero e = let x : w ≡ Gone (reads 0 k u) = is ∙ ap named (walks ∙ ap (λ n. walk_of n (reads 0 k u)) e) in ((λ s r q. (let z : ◌≡◌ {A = ℕ} 0 1 = cc in absurd (omega arith))), λ n. sym (not_there e))
    by-slot (suc n) e = let x : w ≡ Found (suc n) (reads 0 k u) = is ∙ ap named (walks ∙ ap (λ n. walk_of n (reads 0 k u)) e) in ((λ s r q. sym (there n e)), λ f. absurd (f (suc n) (reads 0 k u) x))

    pub is_found : (s r : ℕ) → w ≡ Found s r → true ≡ has k (listing u)
    is_found = (by-slot (slot_of 0 k u) refl).0

    pub not-found : ((s r : ℕ) → w ≡ Found s r → ⊥) → false ≡ has k (listing u)
    not-found = (by-slot (slot_of 0 k u) refl).1
