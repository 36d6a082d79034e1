-- The best of some items, the items of a tree in memory, and a tree's items as the near side, the rest and the far side.
use mathlib.Core.Path.{◌≡◌, refl, sym, ap, ◌∙◌}
use mathlib.Core.Logic.{◌⊎◌, inl, inr, ⊎_elim}
use mathlib.Core.Bool.{Bool, true, ◌&&◌}
use mathlib.Core.List.Memᴰ
use mathlib.Core.List.{List, [], ◌∷◌, ◌++◌, Memᴰ}
use Rattle.std.proofs.Common.{Option, None, Some}
use Prim.Native.Nat.{ℕ, ◌*◌, ◌≤◌}
use native.Mathlib.Omega.{arith}
use lib.ListN.{length}
use lib.IntN.{ℤ}
use Rattle.model.specs.Entry.{Entry, distance}
use Rattle.model.specs.Tree.{Item, Tree, nil, node, items, all}
use Rattle.model.specs.declared.Shape.{Shape}
use Rattle.model.proofs.Adds.{less-unlike}
use Rattle.model.proofs.Nears.{AsGood, good-trans}
use Rattle.model.proofs.Trees.{both}
use Rattle.cells.specs.Slots.{left_at, right_at, numbers_of, Slot, Room}
use Rattle.cells.specs.Memory.{Rep}
use Rattle.cells.proofs.Slots.{numbers-long}
use Rattle.ask.specs.Nearest.{item_of, Chosen, BestOf, Bettered, Visited}
use Rattle.ask.specs.declared.near.Best.{Best}
use Rattle.ask.proofs.Walks.{keyed-in}

-- ---- what is one of a tree's items

pub mem-node : (j i : Item) (l r : List Item) → Memᴰ j (l ++ (i ∷ r)) → Memᴰ j l ⊎ ((j ≡ i) ⊎ Memᴰ j r)
mem-node j i l r m = ⊎_elim (λ a. inl a) (λ b. inr (Memᴰ.cases_cons b)) (Memᴰ.append_cases l m)

pub mem-all : (p : Entry → Bool) (u : Tree) → all p u ≡ true → (j : Item) → Memᴰ j (items u) → p j.entry ≡ true
mem-all p nil h j m = absurd (Memᴰ.not-nil m)
mem-all p (node i l r) h j m =
    let a = both (p i.entry) (all p l && all p r) h in
    let b = both (all p l) (all p r) a.1 in
    ⊎_elim (mem-all p l b.0 j) (⊎_elim (λ e. rw e a.0) (mem-all p r b.1 j)) (mem-node j i (items l) (items r) m)

-- each lies in its slot, with its numbers
pub mem-rep : (K : ℕ) (ks : List ℤ) (ls : List ℕ) (s : ℕ) (u : Tree) → Rep K ks ls s u → (j : Item) → Memᴰ j (items u) → (numbers_of K ks j.slot ≡ j.entry) × Slot (length ls) j.slot
mem-rep K ks ls s nil p j m = absurd (Memᴰ.not-nil m)
mem-rep K ks ls s (node i l r) p j m =
    ⊎_elim (mem-rep K ks ls (left_at ls i.slot) l p.4 j) (⊎_elim (λ e. rw e (p.2, p.1)) (mem-rep K ks ls (right_at ls i.slot) r p.5 j)) (mem-node j i (items l) (items r) m)

pub mem_long : (S : Shape) (ks : List ℤ) (ls : List ℕ) → Room S (length ks) (length ls) → (s : ℕ) (u : Tree) → Rep S.k ks ls s u → (j : Item) → Memᴰ j (items u) → length j.entry ≡ S.k
mem_long S ks ls m s u p j h =
    let a = mem-rep S.k ks ls s u p j h in
    let b : 3 * j.slot ≤ length ls = a.1.fits in
    let d : 1 ≤ j.slot = a.1.some in
    let e = m.long in
    sym (ap length a.0) ∙ numbers-long S.k ks j.slot (keyed-in S (length ks) (length ls) j.slot m (λ z. omega arith) (omega arith))

-- ---- the best of some items

module _ (K : ℕ) (ks : List ℤ) (steps : List ℕ) (q : Entry) where
  -- more items, each of them an old one or not better
  pub chosen_more : (a z : List Item) (b : Best) → Chosen K ks steps q a b → ((j : Item) → Memᴰ j a → Memᴰ j z) → ((j : Item) → Memᴰ j z → Memᴰ j a ⊎ AsGood steps q (numbers_of K ks b.slot) j.entry) → Chosen K ks steps q z b
  chosen_more a z b h f g = record { some = h.some; one = f (item_of K ks b.slot) h.one; away = h.away; good = λ j m. ⊎_elim (h.good j) (λ x. x) (g j m) }

  -- some items, and the same again in another list
  pub best_more : (a z : List Item) (i : Item) (o : Option Best) → Memᴰ i a → BestOf K ks steps q a o → ((j : Item) → Memᴰ j a → Memᴰ j z) → ((j : Item) → Memᴰ j z → Memᴰ j a) → BestOf K ks steps q z o
  best_more a z i None m n f g = absurd (Memᴰ.not-nil (rw n at m))
  best_more a z i (Some b) m h f g = chosen_more a z b h f (λ j k. inl (g j k))

  self : (s : ℕ) → AsGood steps q (numbers_of K ks s) (numbers_of K ks s)
  self s = record { near = omega arith; tie = λ y h. less-unlike 0 (numbers_of K ks s) (numbers_of K ks s) h refl }

  -- the entry in slot s seen after the best of some items
  pub visited : (b : Option Best) (s d : ℕ) (r : Best) → ¬ (s ≡ 0) → d ≡ distance steps q (numbers_of K ks s) → Bettered K ks b s d r → Visited K ks steps q b s r
  visited None s d r ne e x = record { which = inr (ap (λ (y : Best). y.slot) x); chosen = λ held h. rw x (new held h) }
    where
      new : (held : List Item) → held ≡ [] → Chosen K ks steps q (item_of K ks s ∷ held) (record { slot = s; distance = d })
      new held n = record { some = ne; one = Memᴰ.head refl; away = e; good = λ j m. ⊎_elim (λ y. rw y (self s)) (λ y. absurd (Memᴰ.not-nil (rw n at y))) (Memᴰ.cases_cons m) }
  visited (Some b) s d r ne e (inl x) = record { which = inl (ap Some (sym x.is)); chosen = λ held h. rw x.is (old held h) }
    where
      old : (held : List Item) → Chosen K ks steps q held b → Chosen K ks steps q (item_of K ks s ∷ held) b
      old held h =
          let w : b.distance ≡ distance steps q (numbers_of K ks b.slot) = h.away in
          let n : b.distance ≤ d = x.near in
          let g : AsGood steps q (numbers_of K ks b.slot) (numbers_of K ks s) = record { near = omega arith; tie = λ y. x.tie (omega arith) } in
          chosen_more held (item_of K ks s ∷ held) b h (λ j m. Memᴰ.tail m) (λ j m. ⊎_elim (λ y. inr (rw y g)) (λ y. inl y) (Memᴰ.cases_cons m))
  visited (Some b) s d r ne e (inr x) = record { which = inr (ap (λ (y : Best). y.slot) x.is); chosen = λ held h. rw x.is (new held h) }
    where
      new : (held : List Item) → Chosen K ks steps q held b → Chosen K ks steps q (item_of K ks s ∷ held) (record { slot = s; distance = d })
      new held h =
          let w : b.distance ≡ distance steps q (numbers_of K ks b.slot) = h.away in
          let n : d ≤ b.distance = x.near in
          let g : AsGood steps q (numbers_of K ks s) (numbers_of K ks b.slot) = record { near = omega arith; tie = λ y. x.tie (omega arith) } in
          record { some = ne; one = Memᴰ.head refl; away = e; good = λ j m. ⊎_elim (λ y. rw y (self s)) (λ y. good-trans steps q (numbers_of K ks s) (numbers_of K ks b.slot) j.entry g (h.good j y)) (Memᴰ.cases_cons m) }

-- ---- a node's items as those of one side with its own, and those of the other side

-- z is a and f together
pub record Split (a f z : List Item) : Type 0 where
  pub first : (j : Item) → Memᴰ j a → Memᴰ j z
  pub second : (j : Item) → Memᴰ j f → Memᴰ j z
  pub cases : (j : Item) → Memᴰ j z → Memᴰ j a ⊎ Memᴰ j f

pub split-left : (i : Item) (l r held : List Item) → Split (l ++ (i ∷ held)) r ((l ++ (i ∷ r)) ++ held)
split-left i l r held =
    record {
      first = λ j m. ⊎_elim (λ x. Memᴰ.append_left held (Memᴰ.append_left (i ∷ r) x)) (⊎_elim (λ e. Memᴰ.append_left held (Memᴰ.append_right l (Memᴰ.head e))) (λ x. Memᴰ.append_right (l ++ (i ∷ r)) x)) (mem-node j i l held m);
      second = λ j m. Memᴰ.append_left held (Memᴰ.append_right l (Memᴰ.tail m));
      cases = λ j m. ⊎_elim (λ x. ⊎_elim (λ y. inl (Memᴰ.append_left (i ∷ held) y)) (⊎_elim (λ e. inl (Memᴰ.append_right l (Memᴰ.head e))) (λ y. inr y)) (mem-node j i l r x)) (λ x. inl (Memᴰ.append_right l (Memᴰ.tail x))) (Memᴰ.append_cases (l ++ (i ∷ r)) m);
    }

pub split-right : (i : Item) (l r held : List Item) → Split (r ++ (i ∷ held)) l ((l ++ (i ∷ r)) ++ held)
split-right i l r held =
    record {
      first = λ j m. ⊎_elim (λ x. Memᴰ.append_left held (Memᴰ.append_right l (Memᴰ.tail x))) (⊎_elim (λ e. Memᴰ.append_left held (Memᴰ.append_right l (Memᴰ.head e))) (λ x. Memᴰ.append_right (l ++ (i ∷ r)) x)) (mem-node j i r held m);
      second = λ j m. Memᴰ.append_left held (Memᴰ.append_left (i ∷ r) m);
      cases = λ j m. ⊎_elim (λ x. ⊎_elim (λ y. inr y) (⊎_elim (λ e. inl (Memᴰ.append_right r (Memᴰ.head e))) (λ y. inl (Memᴰ.append_left (i ∷ held) y))) (mem-node j i l r x)) (λ x. inl (Memᴰ.append_right r (Memᴰ.tail x))) (Memᴰ.append_cases (l ++ (i ∷ r)) m);
    }
