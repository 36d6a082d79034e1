-- The search for the last of a tree in memory, a node at a time.
use mathlib.Core.Path.{◌≡◌, refl, sym, ap, ◌∙◌}
use mathlib.Core.Logic.{◌⊎◌, inl, inr, ⊎_elim}
use mathlib.Core.List.{List, ◌++◌}
use Prim.Native.Nat.{ℕ, suc, ◌+◌, ◌*◌, ◌≤◌, ◌<◌, Ordering}
use native.Mathlib.Omega.{arith}
use lib.ListN.{length}
use lib.IntN.{ℤ}
use Rattle.model.specs.Entry.{Entry, cut_field, super_key, cmp}
use Rattle.model.specs.Strike.{nearer, next, left, right, Side as Way}
use Rattle.model.specs.Tree.{Item, Tree, nil, node, items}
use Rattle.model.specs.declared.Shape.{Shape}
use Rattle.model.proofs.Crowd.{InPool}
use Rattle.model.proofs.Orders.{cmp-flip, flip}
use Rattle.model.proofs.Sides.{Before, ordered-side, other, side_of}
use Rattle.model.proofs.Trees.{Ordered, ordered-true, true-ordered}
use Rattle.cells.specs.Memory.{Rep}
use Rattle.cells.specs.Orders.{Deeper, named}
use Rattle.cells.specs.Slots.{left_at, right_at, tall, numbers_of, Slot, Keyed, Room, SlotsCompared}
use Rattle.std.specs.declared.cmp.Ordering.{Ordering as Order}
use Rattle.std.specs.declared.cmp.Ordering.TheVariants.{Less, Equal, Greater}
use Rattle.cells.proofs.Reps.{open-nil}
use Rattle.cells.proofs.Slots.{numbers-long}
use Rattle.ask.specs.Standing.{Stands, Standing}
use Rattle.ask.proofs.Standing as standing
use Rattle.ask.proofs.Walks.{keyed-in}
use Rattle.rank.proofs.Merging.{cut-here}
use Rattle.seek.specs.Sides.{item_in}
use Rattle.seek.specs.Sides.{way_of, other_of, child_at}
use Rattle.seek.specs.Seeks.{Better, Further, Sought}
use Rattle.seek.specs.declared.side.Side.{Side}
use Rattle.seek.specs.declared.side.Side.TheVariants.{Left, Right}
use Rattle.seek.proofs.Lasts.{Of, Last, LastOf, nearer-one, next_of, next-is-last, last-is-next, last-join, last-here, last-far, ordered-apart}

-- two depths with the same cut order entries of K numbers in the same way
same-cut : (K t d : ℕ) (a b : Entry) → length a ≡ K → length b ≡ K → cut_field K t ≡ cut_field K d → cmp d a b ≡ cmp t a b
unfolding cmp super_key
same-cut K t d a b la lb e = rw (la, lb, e) refl

before-cut : (s : Way) (K t d : ℕ) (a b : Entry) → length a ≡ K → length b ≡ K → cut_field K t ≡ cut_field K d → Before s d a b → Before s t a b
before-cut left K t d a b la lb e h = sym (same-cut K t d a b la lb e) ∙ h
before-cut right K t d a b la lb e h = sym (same-cut K t d b a lb la e) ∙ h

-- the further of two slots, from the comparison
module _ (K : ℕ) (ks : List ℤ) (side : Side) (h a b : ℕ) (o : Order) (e : SlotsCompared K ks a b h o) where
  abbrev back : Order → Ordering
  back Less = Ordering.lt
  back Equal = Ordering.eq
  back Greater = Ordering.gt

  named_back : (p : Ordering) → p ≡ back (named p)
  named_back Ordering.lt = refl
  named_back Ordering.eq = refl
  named_back Ordering.gt = refl

  rises : (t : ℕ) → cut_field K t ≡ h → (q : Order) → o ≡ q → cmp t (numbers_of K ks a) (numbers_of K ks b) ≡ back q
  rises t c q f = named_back (cmp t (numbers_of K ks a) (numbers_of K ks b)) ∙ ap back (sym (e.at t c) ∙ f)

  sinks : (t : ℕ) → cut_field K t ≡ h → (q : Order) → o ≡ q → cmp t (numbers_of K ks b) (numbers_of K ks a) ≡ flip (back q)
  sinks t c q f = cmp-flip t (numbers_of K ks a) (numbers_of K ks b) ∙ ap flip (rises t c q f)

  pub less-right : o ≡ Less → side ≡ Right → Further K ks side h a b a
  less-right f g = record { is = λ t c. rw (g, sinks t c Less f, nearer) refl }

  pub equal : o ≡ Equal → Further K ks side h a b a
  equal f = record { is = λ t c. go side t c }
    where
      go : (w : Side) (t : ℕ) → cut_field K t ≡ h → item_in K ks a ≡ nearer (way_of w) t (item_in K ks a) (item_in K ks b)
      go Left t c = rw (rises t c Equal f, nearer) refl
      go Right t c = rw (sinks t c Equal f, nearer) refl

  pub greater-right : o ≡ Greater → side ≡ Right → Further K ks side h a b b
  greater-right f g = record { is = λ t c. rw (g, sinks t c Greater f, nearer) refl }

-- an item of a tree in memory: its slot, and its numbers there
of-rep : (K : ℕ) (ks : List ℤ) (ls : List ℕ) (s : ℕ) (u : Tree) → Rep K ks ls s u → (y : Item) → Of y u → Slot (length ls) y.slot × (numbers_of K ks y.slot ≡ y.entry)
of-rep K ks ls s nil p y h = elim h [ ]
of-rep K ks ls s (node i l r) p y (inl e) = rw e (p.1, p.2)
of-rep K ks ls s (node i l r) p y (inr (inl h)) = of-rep K ks ls (left_at ls i.slot) l p.4 y h
of-rep K ks ls s (node i l r) p y (inr (inr h)) = of-rep K ks ls (right_at ls i.slot) r p.5 y h

here-item : (K : ℕ) (ks : List ℤ) (ls : List ℕ) (s : ℕ) (i : Item) (l r : Tree) → Rep K ks ls s (node i l r) → item_in K ks s ≡ i
here-item K ks ls s i l r p = let e : numbers_of K ks s ≡ i.entry = ap (numbers_of K ks) p.0 ∙ p.2 in λ x. record { slot = p.0 x; entry = e x }

rep-far : (K : ℕ) (ks : List ℤ) (ls : List ℕ) (s : ℕ) (side : Side) (i : Item) (l r : Tree) → Rep K ks ls s (node i l r) → Rep K ks ls (child_at ls s (other_of side)) (side_of (other (way_of side)) l r)
rep-far K ks ls s Left i l r p = rw p.0 p.5
rep-far K ks ls s Right i l r p = rw p.0 p.4

module _ (K : ℕ) (ks : List ℤ) (ls : List ℕ) (side : Side) (h : ℕ) where
  -- what was sought is the last of what stands there
  pub sought-last : (s c x : ℕ) → Sought K ks ls side h s c x → ¬ (s ≡ 0) → (t : ℕ) → cut_field K t ≡ h → (u : Tree) → Stands K ks ls s c u → LastOf (way_of side) t (item_in K ks x) u
  sought-last s c x g ne t e nil st = absurd (ne st.rep)
  sought-last s c x g ne t e (node i l r) st = rw (g.is t e i l r st) (next-is-last (way_of side) t st.depth i l r (ordered-true st.depth (node i l r) st.in_order))

  better-last : (best s c x : ℕ) → Better K ks ls side h best s c x → (t : ℕ) → cut_field K t ≡ h → (P : Item → Type 0) → Last (way_of side) t (item_in K ks best) P → (u : Tree) → Stands K ks ls s c u → ((y z : Item) → P y → Of z u → y.entry ≡ z.entry → y ≡ z)
      → Last (way_of side) t (item_in K ks x) (λ y. P y ⊎ Of y u)
  better-last best s c x g t e P p nil st apart = rw (g.none st.rep) (record { there = inl p.there; rest = λ y k. ⊎_elim (p.rest y) (λ z. absurd z) k })
  better-last best s c x g t e P p (node i l r) st apart =
      let n : Item = next (way_of side) t i (items l ++ items r) in
      rw (g.some t e i l r st) (last-join (way_of side) t (item_in K ks best) n P (λ y. Of y (node i l r)) p (next-is-last (way_of side) t st.depth i l r (ordered-true st.depth (node i l r) st.in_order)) (apart (item_in K ks best) n p.there (next_of (way_of side) t i l r)))

  -- a level of another cut: the last of the node, of its left side and of its right side
  pub sought-other : (s c c' l r best x : ℕ) → Deeper K c c' → l ≡ left_at ls s → r ≡ right_at ls s → Better K ks ls side h s l c' best → Better K ks ls side h best r c' x → Sought K ks ls side h s c x
  sought-other s c c' l r best x d el er gl gr = record { is = is }
    where
      is : (t : ℕ) → cut_field K t ≡ h → (i : Item) (u w : Tree) → Stands K ks ls s c (node i u w) → item_in K ks x ≡ next (way_of side) t i (items u ++ items w)
      is t e i u w st = last-is-next (way_of side) t (item_in K ks x) i u w (record { there = whole (item_in K ks x) z.there; rest = λ y k. z.rest y (parts y k) })
        where
          p : Rep K ks ls s (node i u w)
          p = st.rep

          o : Ordered st.depth (node i u w)
          o = ordered-true st.depth (node i u w) st.in_order

          lower : Stands K ks ls l c' u
          lower = record { depth = suc st.depth; cut = d.at st.depth st.cut; rep = rw (el, p.0) p.4; in_order = true-ordered (suc st.depth) u o.2 }

          upper : Stands K ks ls r c' w
          upper = record { depth = suc st.depth; cut = d.at st.depth st.cut; rep = rw (er, p.0) p.5; in_order = true-ordered (suc st.depth) w o.3 }

          whole : (y : Item) → ((y ≡ i) ⊎ Of y u) ⊎ Of y w → Of y (node i u w)
          whole y (inl (inl q)) = inl q
          whole y (inl (inr k)) = inr (inl k)
          whole y (inr k) = inr (inr k)

          parts : (y : Item) → Of y (node i u w) → ((y ≡ i) ⊎ Of y u) ⊎ Of y w
          parts y (inl q) = inl (inl q)
          parts y (inr (inl k)) = inl (inr k)
          parts y (inr (inr k)) = inr k

          z : Last (way_of side) t (item_in K ks x) (λ y. ((y ≡ i) ⊎ Of y u) ⊎ Of y w)
          z =
              better-last best r c' x gr t e (λ y. (y ≡ i) ⊎ Of y u)
              (better-last s l c' best gl t e (λ y. y ≡ i) (record { there = here-item K ks ls s i u w p; rest = λ y q. inl (q ∙ sym (here-item K ks ls s i u w p)) }) u lower (λ y v a b. ordered-apart st.depth (node i u w) o y v (inl a) (inr (inl b))))
              w upper
              (λ y v a b. ordered-apart st.depth (node i u w) o y v (whole y (inl a)) (inr (inr b)))

-- what comes back is a slot of the pool
module _ (S : Shape) (ks : List ℤ) (ls : List ℕ) (m : Room S (length ks) (length ls)) where
  of-pooled : (s : ℕ) (u : Tree) → Rep S.k ks ls s u → (y : Item) → Of y u → InPool S.c y.slot
  of-pooled s u p y k = let a = (of-rep S.k ks ls s u p y k).0 in let f : 3 * y.slot ≤ length ls = a.fits in let g = m.long in (a.some, omega arith)

  pub pool-keyed : (x : ℕ) → InPool S.c x → Keyed S.k (length ks) x × (x ≤ 4096)
  pool-keyed x (a, b) = let g = m.c_high in (keyed-in S (length ks) (length ls) x m (λ e. omega arith) b, omega arith)

  of-long : (s : ℕ) (u : Tree) → Rep S.k ks ls s u → (y : Item) → Of y u → length y.entry ≡ S.k
  of-long s u p y k = ap length (sym (of-rep S.k ks ls s u p y k).1) ∙ numbers-long S.k ks y.slot (pool-keyed y.slot (of-pooled s u p y k)).0

  module _ (side : Side) (h : ℕ) (low : h < S.k) where
    pub sought-pooled : (s c most x : ℕ) → ¬ (s ≡ 0) → Standing S.k ks ls s c most → Sought S.k ks ls side h s c x → InPool S.c x
    sought-pooled s c most x ne g q = of-pooled s g.tree g.stands.rep (item_in S.k ks x) (sought-last S.k ks ls side h s c x q ne h (cut-here S.k h low) g.tree g.stands).there

    pub better-pooled : (best s c most x : ℕ) → InPool S.c best → Standing S.k ks ls s c most → Better S.k ks ls side h best s c x → InPool S.c x
    better-pooled best s c most x b g q = go g.tree g.stands
      where
        go : (u : Tree) → Stands S.k ks ls s c u → InPool S.c x
        go nil st = rw (q.none st.rep) b
        go (node i l r) st = rw (ap (λ (y : Item). y.slot) (q.some h (cut-here S.k h low) i l r st)) (nearer-one (λ y. InPool S.c y.slot) (way_of side) h (item_in S.k ks best) (next (way_of side) h i (items l ++ items r)) b (of-pooled s (node i l r) st.rep (next (way_of side) h i (items l ++ items r)) (next_of (way_of side) h i l r)))

  -- a level of the same cut: the far child, or else the node itself
  module _ (side : Side) (h s c far : ℕ) (same : h ≡ c) (ef : far ≡ child_at ls s (other_of side)) where
    agree : (t : ℕ) → cut_field S.k t ≡ h → (u : Tree) (st : Stands S.k ks ls s c u) → (y z : Item) → Of y u → Of z u → Before (way_of side) st.depth y.entry z.entry → Before (way_of side) t y.entry z.entry
    agree t e u st y z a b = before-cut (way_of side) S.k t st.depth y.entry z.entry (of-long s u st.rep y a) (of-long s u st.rep z b) (e ∙ same ∙ sym st.cut)

    pub sought-here : far ≡ 0 → Sought S.k ks ls side h s c s
    sought-here z = record {
      is = λ t e i l r st.
          here-item S.k ks ls s i l r st.rep ∙ last-is-next (way_of side) t i i l r (last-here (way_of side) t st.depth i l r (ordered-true st.depth (node i l r) st.in_order) (agree t e (node i l r) st) (open-nil S.k ks ls (child_at ls s (other_of side)) (side_of (other (way_of side)) l r) (rep-far S.k ks ls s side i l r st.rep) (sym ef ∙ z)));
    }

    pub sought-far : (c' x : ℕ) → ¬ (far ≡ 0) → Deeper S.k c c' → Sought S.k ks ls side h far c' x → Sought S.k ks ls side h s c x
    sought-far c' x ne d g = record {
      is = λ t e i l r st.
          let o = ordered-true st.depth (node i l r) st.in_order in
          let w : Tree = side_of (other (way_of side)) l r in
          let below : Stands S.k ks ls far c' w = record { depth = suc st.depth; cut = d.at st.depth st.cut; rep = rw ef (rep-far S.k ks ls s side i l r st.rep); in_order = true-ordered (suc st.depth) w (ordered-side (other (way_of side)) st.depth i l r o).1 } in
          last-is-next (way_of side) t (item_in S.k ks x) i l r (last-far (way_of side) t st.depth i l r o (agree t e (node i l r) st) (item_in S.k ks x) (sought-last S.k ks ls side h far c' x g ne t e w below));
    }

    -- what the call at the far child asks
    pub standing-far : ¬ (s ≡ 0) → (most : ℕ) → Standing S.k ks ls s c most → (c' : ℕ) → Deeper S.k c c' → Standing S.k ks ls far c' most
    standing-far ne most g c' d = rw ef (go side)
      where
        go : (w : Side) → Standing S.k ks ls (child_at ls s (other_of w)) c' most
        go Left = standing.standing-right S ks ls s c most m ne g c' d
        go Right = standing.standing-left S ks ls s c most m ne g c' d

    pub far-falls : ¬ (s ≡ 0) → (most : ℕ) → Standing S.k ks ls s c most → tall ls far < tall ls s
    far-falls ne most g = rw ef (go side)
      where
        go : (w : Side) → tall ls (child_at ls s (other_of w)) < tall ls s
        go Left = standing.right-falls S.k ks ls s c ne g.tree g.stands
        go Right = standing.left-falls S.k ks ls s c ne g.tree g.stands

-- slots, and why the search ends: its measure falls from the node to the kind of level, to a side, to what stands there
pub some : (s : ℕ) → 0 < s → ¬ (s ≡ 0)
some s h e = omega arith

pub none-not : (s : ℕ) → ¬ (s ≡ 0) → 0 < s
none-not s ne = omega (arith, ne)

pub less-far : (a b : ℕ) → a < b → 3 * a + 1 < 3 * b
less-far a b h = omega arith

-- what a level asks, where a tree stands at s
module _ {S : Shape} {ks : List ℤ} {ls : List ℕ} {s c most : ℕ} (m : Room S (length ks) (length ls)) (h : 0 < s) (g : Standing S.k ks ls s c most) where
  pub here : Slot (length ls) s
  here = standing.slot-here S ks ls s c most m (some s h) g

  pub in-pool : InPool S.c s
  in-pool = (h, standing.pooled S ks ls s c most m (some s h) g)

  pub lower-call : {c' l : ℕ} → Deeper S.k c c' → l ≡ left_at ls s → (3 * tall ls l + 2 < 3 * tall ls s) × Standing S.k ks ls l c' most
  lower-call {c'} d e =
      let f = standing.left-falls S.k ks ls s c (some s h) g.tree g.stands in
      rw e (omega arith, standing.standing-left S ks ls s c most m (some s h) g c' d)

  pub upper-call : {c' r : ℕ} → Deeper S.k c c' → r ≡ right_at ls s → (3 * tall ls r + 2 < 3 * tall ls s) × Standing S.k ks ls r c' most
  upper-call {c'} d e =
      let f = standing.right-falls S.k ks ls s c (some s h) g.tree g.stands in
      rw e (omega arith, standing.standing-right S ks ls s c most m (some s h) g c' d)
