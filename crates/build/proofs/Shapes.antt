-- The tree that a rebuild makes, one node at a time; the cut one level deeper; parts of a list of different slots.
use mathlib.Core.Path.{◌≡◌, refl, sym, ap, ap₂, ◌∙◌}
use mathlib.Core.Logic.{inl, inr}
use mathlib.Core.List.Permᴰ
use mathlib.Core.List.{List, [], ◌∷◌, ◌++◌}
use Prim.Native.Nat.{ℕ, zero, suc, ◌+◌, ◌/◌, ◌≤◌, ◌<◌}
use native.Mathlib.Omega.{arith}
use native.Mathlib.Numerals.{add-one}
use lib.ListN.{length, get_or, take, drop, length-append}
use lib.Seq.{split_at, take_at, drop_at, length-take-le}
use lib.IntN.{ℤ}
use Rattle.model.specs.Entry.{cut_field}
use Rattle.model.specs.Tree.{Item, Tree, nil, node, height, items}
use Rattle.model.specs.Rebuild.{build, rank, rebuild}
use Rattle.model.specs.declared.Shape.{Shape}
use Rattle.model.proofs.Lists.{Every, every-perm, once-perm, every-split, once-split, every_map}
use Rattle.model.proofs.Crowd.{InPool, PermS}
use Rattle.model.proofs.Heights.{Cut, cut}
use Rattle.model.proofs.Ranks.{rebuild-perm}
use Rattle.model.proofs.Strikes.{slots, slots-append, slots-perm}
use Rattle.cells.specs.Slots.{left_at, right_at, Slot, Room}
use Rattle.cells.specs.Memory.{Rep, In}
use Rattle.rank.specs.Ranking.{item_at, items_at, Ranked}
use Rattle.build.specs.Rebuilding.{Chosen}
use Rattle.rank.proofs.Merging.{rank-items, slots_items, ranked-slots, ranked-perm}

-- ---- a node of a rebuilt tree

build-node : (f t : ℕ) (is low : List Item) (i : Item) (high : List Item) → rank t is ≡ low ++ (i ∷ high) → length low ≡ length is / 2 → build (suc f) t is ≡ node i (build f (suc t) low) (build f (suc t) high)
build-node f t is low i high e n =
    let a : take (length is / 2) (rank t is) ≡ low = ap (take (length is / 2)) e ∙ take_at low (i ∷ high) (length is / 2) n in
    let b : drop (length is / 2) (rank t is) ≡ i ∷ high = ap (drop (length is / 2)) e ∙ drop_at low (i ∷ high) (length is / 2) n in
    rw (b, build) (ap (λ (x : List Item). node i (build f (suc t) x) (build f (suc t) high)) a)

-- `most` does not matter where it is enough
fuel : (f g t : ℕ) (is : List Item) → length is ≤ f → length is ≤ g → build f t is ≡ build g t is
fuel zero zero t is a b = refl
fuel zero (suc g) t [] a b = refl
fuel zero (suc g) t (i ∷ is) a b = absurd (omega arith)
fuel (suc f) zero t [] a b = refl
fuel (suc f) zero t (i ∷ is) a b = absurd (omega arith)
fuel (suc f) (suc g) t [] a b = refl
fuel (suc f) (suc g) t (i ∷ is) a b =
    let c : Cut f t (i ∷ is) = cut f t (i ∷ is) (omega arith) in
    c.made
    ∙ ap₂ (node c.item) (fuel f g (suc t) c.low (omega arith) (omega arith)) (fuel f g (suc t) c.high (omega arith) (omega arith))
    ∙ sym (build-node g t (i ∷ is) c.low c.item c.high (sym c.joined) c.low-size)

rebuild-node : (t : ℕ) (is low : List Item) (i : Item) (high : List Item) → rank t is ≡ low ++ (i ∷ high) → length low ≡ length is / 2 → suc (length low + length high) ≡ length is → rebuild t is ≡ node i (rebuild (suc t) low) (rebuild (suc t) high)
unfolding rebuild
rebuild-node t is low i high e n m =
    ap (λ (k : ℕ). build k t is) (sym m)
    ∙ build-node (length low + length high) t is low i high e n
    ∙ ap₂ (node i) (fuel (length low + length high) (length low) (suc t) low (omega arith) (omega arith)) (fuel (length low + length high) (length high) (suc t) high (omega arith) (omega arith))

build-height : (f t : ℕ) (is : List Item) → height (build f t is) ≤ length is
build-height zero t is = omega arith
build-height (suc f) t [] = omega arith
build-height (suc f) t (i ∷ is) =
    let c : Cut f t (i ∷ is) = cut f t (i ∷ is) (omega arith) in
    rw c.made (omega (arith, build-height f (suc t) c.low, build-height f (suc t) c.high))

-- a list around its element m
pub halves : (ss : List ℕ) (m : ℕ) → m < length ss → ss ≡ take m ss ++ (get_or ss m 0 ∷ drop (m + 1) ss)
halves ss m h = rw add-one (split_at ss m 0 h)

module _ (K : ℕ) (ks : List ℤ) where
  items-length : (ss : List ℕ) → length (items_at K ks ss) ≡ length ss
  items-length [] = refl
  items-length (s ∷ ss) = ap suc (items-length ss)

  items-append : (a b : List ℕ) → items_at K ks (a ++ b) ≡ items_at K ks a ++ items_at K ks b
  items-append [] b = refl
  items-append (s ∷ a) b = ap (λ (x : List Item). item_at K ks s ∷ x) (items-append a b)

  -- the items of a tree that lies in memory are those of its slots
  pub items-held : (ls : List ℕ) (s : ℕ) (u : Tree) → Rep K ks ls s u → items_at K ks (slots u) ≡ items u
  items-held ls s nil h = refl
  items-held ls s (node i l r) h =
      let e : item_at K ks i.slot ≡ i = λ x. record { slot = i.slot; entry = h.2 x } in
      ap (items_at K ks) (slots-append (items l) (i ∷ items r))
      ∙ items-append (slots l) (i.slot ∷ slots r)
      ∙ ap₂ (λ (a b : List Item). a ++ b) (items-held ls (left_at ls i.slot) l h.4) (ap₂ ◌∷◌ e (items-held ls (right_at ls i.slot) r h.5))

  pub rebuild-low : (t : ℕ) (ss : List ℕ) → height (rebuild t (items_at K ks ss)) ≤ length ss
  unfolding rebuild
  rebuild-low t ss = rw (← items-length ss) (build-height (length (items_at K ks ss)) t (items_at K ks ss))

  -- the tree over slots that were ranked: the middle one, and both parts one level deeper
  pub slots-node : (c t : ℕ) (ss₀ ss : List ℕ) (m : ℕ) → Ranked K ks c ss₀ ss → cut_field K t ≡ c → length ss ≡ length ss₀ → m ≡ length ss₀ / 2 → m < length ss
      → rebuild t (items_at K ks ss₀) ≡ node (item_at K ks (get_or ss m 0)) (rebuild (suc t) (items_at K ks (take m ss))) (rebuild (suc t) (items_at K ks (drop (m + 1) ss)))
  slots-node c t ss₀ ss m rk e n em lt =
      let whole : ss ≡ take m ss ++ (get_or ss m 0 ∷ drop (m + 1) ss) = halves ss m lt in
      let is : rank t (items_at K ks ss₀) ≡ items_at K ks ss = rank-items K ks t ss₀ ∙ ap (items_at K ks) (sym (rk.at t e ∙ ranked-slots K ks t ss₀)) in
      let parts : items_at K ks ss ≡ items_at K ks (take m ss) ++ (item_at K ks (get_or ss m 0) ∷ items_at K ks (drop (m + 1) ss)) = ap (items_at K ks) whole ∙ items-append (take m ss) (get_or ss m 0 ∷ drop (m + 1) ss) in
      let a : length (items_at K ks (take m ss)) ≡ m = items-length (take m ss) ∙ length-take-le m ss (omega arith) in
      let b : length (items_at K ks ss₀) ≡ length ss₀ = items-length ss₀ in
      let d : length ss ≡ length (take m ss) + suc (length (drop (m + 1) ss)) = ap length whole ∙ length-append (take m ss) (get_or ss m 0 ∷ drop (m + 1) ss) in
      let h : length (items_at K ks (drop (m + 1) ss)) ≡ length (drop (m + 1) ss) = items-length (drop (m + 1) ss) in
      let g : length (items_at K ks (take m ss)) ≡ length (take m ss) = items-length (take m ss) in
      rebuild-node t (items_at K ks ss₀) (items_at K ks (take m ss)) (item_at K ks (get_or ss m 0)) (items_at K ks (drop (m + 1) ss)) (is ∙ parts) (a ∙ em ∙ ap (λ (x : ℕ). x / 2) (sym b)) (omega arith)

-- ---- lists of different slots

pub every_in : (P : ℕ → Type 0) (xs : List ℕ) → Every P xs → (j : ℕ) → In j xs → P j
every_in P [] h j i = elim i [ ]
every_in P (x ∷ xs) h j (inl e) = rw e h.0
every_in P (x ∷ xs) h j (inr i) = every_in P xs h.1 j i

all_in : (xs : List ℕ) → Every (λ x. In x xs) xs
all_in [] = tt
all_in (x ∷ xs) = (inl refl, every_map (λ y. In y xs) (λ y. In y (x ∷ xs)) (λ y h. inr h) xs (all_in xs))

pub in-perm : (a b : List ℕ) → PermS a b → (j : ℕ) → In j a → In j b
in-perm a b p j h = every_in (λ x. In x b) a (every-perm (λ x. In x b) (Permᴰ.symm p) (all_in b)) j h

pub rebuild-in : (K : ℕ) (ks : List ℤ) (t : ℕ) (ss : List ℕ) (j : ℕ) → In j (slots (rebuild t (items_at K ks ss))) → In j ss
rebuild-in K ks t ss j h = in-perm (slots (rebuild t (items_at K ks ss))) ss (rw (slots_items K ks t ss) at (slots-perm (rebuild-perm t (items_at K ks ss)))) j h

pub chosen-ranked : (K : ℕ) (ks : List ℤ) (c C : ℕ) (l a : List ℕ) → c < K → Ranked K ks c l a → Chosen C l → Chosen C a
chosen-ranked K ks c C l a low r h =
    let p = Permᴰ.symm (ranked-perm K ks c l a low r) in
    record { each = every-perm (InPool C) p h.each; once = once-perm p h.once }

pub record Parts (C : ℕ) (a : List ℕ) (k : ℕ) (b : List ℕ) : Type 0 where
  pub left : Chosen C a
  pub right : Chosen C b
  pub root : InPool C k
  pub not_left : ¬ (In k a)
  pub not_right : ¬ (In k b)
  pub apart : (j : ℕ) → In j a → ¬ (In j b)

pub parts : (C : ℕ) (a : List ℕ) (k : ℕ) (b : List ℕ) → Chosen C (a ++ (k ∷ b)) → Parts C a k b
parts C a k b h =
    let e = every-split (InPool C) a (k ∷ b) h.each in
    let o = once-split a (k ∷ b) h.once in
    record {
      left = record { each = e.0; once = o.0 };
      right = record { each = e.1.1; once = o.1.1 };
      root = e.1.0;
      not_left = λ i. (every_in (λ x. Every (λ y. ¬ (x ≡ y)) (k ∷ b)) a o.2 k i).0 refl;
      not_right = λ i. every_in (λ y. ¬ (k ≡ y)) b o.1.0 k i refl;
      apart = λ j i g. every_in (λ y. ¬ (j ≡ y)) b (every_in (λ x. Every (λ y. ¬ (x ≡ y)) (k ∷ b)) a o.2 j i).1 j g refl;
    }

pub pool-slot : (S : Shape) (nk nl s : ℕ) → Room S nk nl → InPool S.c s → Slot nl s
pool-slot S nk nl s room p = record { some = p.0; fits = let a = room.long in let b = p.1 in omega arith }
