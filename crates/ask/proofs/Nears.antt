-- The search for the nearest, a tree at a time: what may be passed over, and that the model's nearest is what it finds.
use mathlib.Core.Path.{◌≡◌, refl, ap}
use mathlib.Core.Logic.{inl, inr, ⊎_elim}
use mathlib.Core.Bool.{true, false, true≢false}
use mathlib.Core.List.Memᴰ
use mathlib.Core.List.{List, [], ◌∷◌, ◌++◌, append-nil, Memᴰ}
use mathlib.Core.Option.{none, some}
use Prim.Native.Nat.{ℕ, ◌≤◌, ◌<◌}
use native.Mathlib.Omega.{arith}
use lib.ListN.{length, get_or}
use lib.IntN.{ℤ}
use Rattle.model.specs.Entry.{Entry, cmp, distance}
use Rattle.model.specs.Tree.{Item, Tree, nil, node, items, is_less, ordered}
use Rattle.model.specs.Ask.{nearest, slot_of}
use Rattle.model.specs.Rebuild.{listing}
use Rattle.model.specs.Strike.{left}
use Rattle.model.specs.declared.Shape.{Shape}
use Rattle.model.proofs.Adds.{Has, has_all, slot_of-found}
use Rattle.model.proofs.Listings.{all-listing, every-has, listing-all, true-has}
use Rattle.model.proofs.Lists.{Every}
use Rattle.model.proofs.Nears.{AsGood, nearest-by}
use Rattle.model.proofs.Ranks.{Unlike, items-all}
use Rattle.model.proofs.Sides.{toward-by}
use Rattle.model.proofs.Trees.{AllL, ordered-true}
use Rattle.cells.specs.Orders.{Deeper}
use Rattle.cells.specs.Slots.{left_at, right_at, tall, numbers_of, Keyed, Room}
use Rattle.cells.proofs.Reps.{Node}
use Rattle.cells.proofs.Slots.{numbers-long}
use Rattle.ask.specs.Standing.{Stands, Standing}
use Rattle.std.proofs.Common.{Option, None, Some}
use Rattle.std.specs.Option.{MatchOption}
use Rattle.ask.specs.Nearest.{item_of, Chosen, BestOf, Pooled, Visited, Turned, Searched}
use Rattle.ask.specs.declared.near.Best.{Best}
use Rattle.ask.specs.declared.near.Turn.{Turn}
use Rattle.ask.proofs.Bests.{mem-node, mem-all, mem_long, best_more, chosen_more, Split, split-left, split-right}
use Rattle.ask.proofs.Edges.{far-left, far-right}
use Rattle.ask.proofs.Standing.{top, lefts, rights, stands-left, stands-right, items-top, none-stands, left-falls, right-falls, standing-left, standing-right}

-- there is a best, and it is nearer than an edge
abbrev pub Nearer : ℕ → Option Best → Type 0
Nearer e None = ⊥
Nearer e (Some x) = x.distance < e

pub nearer-by : (o : Option Best) (e : ℕ) (Q : Best → Type 0) → ((x : Best) → Q x → x.distance < e) → MatchOption o (true ≡ false) Q → Nearer e o
nearer-by None e Q f h = absurd (true≢false h)
nearer-by (Some x) e Q f h = f x h

-- a tree at slot s, taken apart as the turn t says
record Sides (K : ℕ) (ks : List ℤ) (ls : List ℕ) (steps : List ℕ) (q : Entry) (s c' : ℕ) (t : Turn) (u : Tree) (held : List Item) : Type 0 where
  near : Tree
  far : Tree
  near_stands : Stands K ks ls t.near c' near
  far_stands : Stands K ks ls t.far c' far
  split : Split (items near ++ (item_of K ks s ∷ held)) (items far) (items u ++ held)
  beyond : (j : Item) → Memᴰ j (items far) → t.edge ≤ distance steps q j.entry

pub searched-nil : (S : Shape) (ks : List ℤ) (ls : List ℕ) (steps : List ℕ) (q : Entry) (s c : ℕ) (b : Option Best) → Pooled S.c b → s ≡ 0 → Searched S ks ls steps q s c b b
searched-nil S ks ls steps q s c b h e = record { pooled = h; best = λ u st held x. rw (none-stands S.k ks ls s c e u st) x }

-- at a slot s, with the turn t and the cut one level deeper
module _ (S : Shape) (ks : List ℤ) (ls : List ℕ) (steps : List ℕ) (q : Entry) (s c c' : ℕ) (t : Turn) (m : Room S (length ks) (length ls)) (low : c < S.k) (ne : ¬ (s ≡ 0)) (w : Turned S.k ks ls steps q s c t) (d : Deeper S.k c c') where
  module _ (most : ℕ) (st : Standing S.k ks ls s c most) where
    pub near-stands : Standing S.k ks ls t.near c' most
    near-stands = ⊎_elim (λ x. rw x.1.0 (standing-left S ks ls s c most m ne st c' d)) (λ x. rw x.1.0 (standing-right S ks ls s c most m ne st c' d)) w.sides

    pub far-stands : Standing S.k ks ls t.far c' most
    far-stands = ⊎_elim (λ x. rw x.1.1 (standing-right S ks ls s c most m ne st c' d)) (λ x. rw x.1.1 (standing-left S ks ls s c most m ne st c' d)) w.sides

    pub near-falls : tall ls t.near < tall ls s
    near-falls = ⊎_elim (λ x. rw x.1.0 (left-falls S.k ks ls s c ne st.tree st.stands)) (λ x. rw x.1.0 (right-falls S.k ks ls s c ne st.tree st.stands)) w.sides

    pub far-falls : tall ls t.far < tall ls s
    far-falls = ⊎_elim (λ x. rw x.1.1 (right-falls S.k ks ls s c ne st.tree st.stands)) (λ x. rw x.1.1 (left-falls S.k ks ls s c ne st.tree st.stands)) w.sides

  module _ (four : S.k ≤ length steps) (lq : length q ≡ S.k) (step : 0 < get_or steps c 0) (keyed : Keyed S.k (length ks) s) where
    lx : length (numbers_of S.k ks s) ≡ S.k
    lx = numbers-long S.k ks s keyed

    sides : (u : Tree) → Stands S.k ks ls s c u → (held : List Item) → Sides S.k ks ls steps q s c' t u held
    sides u st held = ⊎_elim
        (λ x. record {
          near = n.l;
          far = n.r;
          near_stands = rw x.1.0 (stands-left S.k ks ls s c ne u st c' d);
          far_stands = rw x.1.1 (stands-right S.k ks ls s c ne u st c' d);
          split = rw whole (split-left (item_of S.k ks s) (items n.l) (items n.r) held);
          beyond = λ j h. rw w.edge (far-right S.k st.depth c steps q (numbers_of S.k ks s) j.entry low four lq lx (mem_long S ks ls m (right_at ls s) n.r n.right j h) st.cut step x.0 (mem-all (λ y. is_less (cmp st.depth (numbers_of S.k ks s) y)) n.r (rights S.k ks ls s c ne u st) j h));
        })
        (λ x. record {
          near = n.r;
          far = n.l;
          near_stands = rw x.1.0 (stands-right S.k ks ls s c ne u st c' d);
          far_stands = rw x.1.1 (stands-left S.k ks ls s c ne u st c' d);
          split = rw whole (split-right (item_of S.k ks s) (items n.l) (items n.r) held);
          beyond = λ j h. rw w.edge (far-left S.k st.depth c steps q (numbers_of S.k ks s) j.entry low four lq lx (mem_long S ks ls m (left_at ls s) n.l n.left j h) st.cut step x.0 (mem-all (λ y. is_less (cmp st.depth y (numbers_of S.k ks s))) n.l (lefts S.k ks ls s c ne u st) j h));
        })
        w.sides
      where
        n : Node S.k ks ls s u
        n = top S.k ks ls s c ne u st

        whole : items u ≡ items n.l ++ (item_of S.k ks s ∷ items n.r)
        whole = items-top S.k ks ls s c ne u st

    module _ (b : Option Best) (here : Best) (after : Option Best) (v : Visited S.k ks steps q b s here) (a : Searched S ks ls steps q t.near c' (Some here) after) where
      -- the best after the near side
      first : (u : Tree) (held : List Item) (z : Sides S.k ks ls steps q s c' t u held) → BestOf S.k ks steps q held b → BestOf S.k ks steps q (items z.near ++ (item_of S.k ks s ∷ held)) after
      first u held z h = a.best z.near z.near_stands (item_of S.k ks s ∷ held) (v.chosen held h)

      -- nearer than the edge: nothing beyond it is as good
      pub searched-near : Nearer t.edge after → Searched S ks ls steps q s c b after
      searched-near lt = record { pooled = a.pooled; best = λ u st held h. go after refl lt u held (sides u st held) h }
        where
          stop : (x : Best) → after ≡ Some x → x.distance < t.edge → (u : Tree) (held : List Item) → Sides S.k ks ls steps q s c' t u held → BestOf S.k ks steps q held b → Chosen S.k ks steps q (items u ++ held) x
          stop x e lt u held z h =
              let y : Chosen S.k ks steps q (items z.near ++ (item_of S.k ks s ∷ held)) x = rw e at (first u held z h) in
              let w : x.distance ≡ distance steps q (numbers_of S.k ks x.slot) = y.away in
              chosen_more S.k ks steps q (items z.near ++ (item_of S.k ks s ∷ held)) (items u ++ held) x y z.split.first
              (λ j k. ⊎_elim (λ y. inl y) (λ y. inr (let o : t.edge ≤ distance steps q j.entry = z.beyond j y in record { near = omega arith; tie = λ p. absurd (omega arith) })) (z.split.cases j k))

          go : (o : Option Best) → after ≡ o → Nearer t.edge o → (u : Tree) (held : List Item) → Sides S.k ks ls steps q s c' t u held → BestOf S.k ks steps q held b → BestOf S.k ks steps q (items u ++ held) after
          go None e l u held z h = absurd l
          go (Some x) e l u held z h = rw e (stop x e l u held z h)

      pub searched-both : (r : Option Best) → Searched S ks ls steps q t.far c' after r → Searched S ks ls steps q s c b r
      searched-both r f = record { pooled = f.pooled; best = λ u st held h. go u held (sides u st held) h }
        where
          go : (u : Tree) (held : List Item) → Sides S.k ks ls steps q s c' t u held → BestOf S.k ks steps q held b → BestOf S.k ks steps q (items u ++ held) r
          go u held z h =
              let old = items z.near ++ (item_of S.k ks s ∷ held) in
              best_more S.k ks steps q (items z.far ++ old) (items u ++ held) (item_of S.k ks s) r (Memᴰ.append_right (items z.far) (Memᴰ.append_right (items z.near) (Memᴰ.head refl))) (f.best z.far z.far_stands old (first u held z h))
              (λ j k. ⊎_elim (z.split.second j) (z.split.first j) (Memᴰ.append_cases (items z.far) k))
              (λ j k. ⊎_elim (λ o. Memᴰ.append_right (items z.far) o) (λ o. Memᴰ.append_left old o) (z.split.cases j k))

-- ---- the model's nearest

mem-every : (P : Entry → Type 0) (is : List Item) → ((j : Item) → Memᴰ j is → P j.entry) → AllL P is
mem-every P [] f = tt
mem-every P (i ∷ is) f = (f i (Memᴰ.head refl), mem-every P is (λ j m. f j (Memᴰ.tail m)))

mem-has : (j : Item) (u : Tree) → Memᴰ j (items u) → Has j u
mem-has j nil m = absurd (Memᴰ.not-nil m)
mem-has j (node i l r) m = ⊎_elim (λ x. inr (inl (mem-has j l x))) (⊎_elim (λ e. inl e) (λ x. inr (inr (mem-has j r x)))) (mem-node j i (items l) (items r) m)

-- of two that are each as good as the other: they are one
one-best : (steps : List ℕ) (q a b : Entry) → AsGood steps q a b → AsGood steps q b a → a ≡ b
one-best steps q a b x y =
    let m = x.near in
    let n = y.near in
    toward-by left 0 a b (λ l. absurd (y.tie (omega arith) l)) (λ e. e) (λ l. absurd (x.tie (omega arith) l))

pub nearest-none : (K : ℕ) (ks : List ℤ) (steps : List ℕ) (q : Entry) (u : Tree) → BestOf K ks steps q (items u) None → nearest steps q (listing u) ≡ none
unfolding nearest listing
nearest-none K ks steps q u h = rw h refl

module _ (K : ℕ) (ks : List ℤ) (steps : List ℕ) (q : Entry) (u : Tree) (b : Best) (chosen : Chosen K ks steps q (items u) b) where
  there : Has (item_of K ks b.slot) u
  there = mem-has (item_of K ks b.slot) u chosen.one

  pub nearest-slot : ordered 0 u ≡ true → slot_of 0 (numbers_of K ks b.slot) u ≡ b.slot
  nearest-slot o = slot_of-found 0 (item_of K ks b.slot) u (ordered-true 0 u o) there

  pub nearest-some : nearest steps q (listing u) ≡ some (numbers_of K ks b.slot)
  nearest-some = nearest-by (λ o. o ≡ some e) steps q (listing u)
      (λ z. absurd (has_all (Unlike e) (item_of K ks b.slot) u there (all-listing (Unlike e) u (rw z tt)) refl))
      (λ x k. ap some (one-best steps q x e (has_all (AsGood steps q x) (item_of K ks b.slot) u there (all-listing (AsGood steps q x) u k.1)) (every-has (AsGood steps q e) x (listing u) good (true-has x (listing u) k.0))))
    where
      e : Entry
      e = numbers_of K ks b.slot

      good : Every (AsGood steps q (numbers_of K ks b.slot)) (listing u)
      good = listing-all (AsGood steps q (numbers_of K ks b.slot)) u (items-all (AsGood steps q (numbers_of K ks b.slot)) u (mem-every (AsGood steps q (numbers_of K ks b.slot)) (items u) chosen.good))

-- a search that begins with none finds the best of the whole tree
pub searched-whole : (S : Shape) (ks : List ℤ) (ls : List ℕ) (steps : List ℕ) (q : Entry) (s c : ℕ) (r : Option Best) → Searched S ks ls steps q s c None r → (u : Tree) → Stands S.k ks ls s c u → BestOf S.k ks steps q (items u) r
searched-whole S ks ls steps q s c r f u st = rw append-nil at (f.best u st [] refl)
