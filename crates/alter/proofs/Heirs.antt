-- What takes the place of a struck entry, and the strike at a node by how the entry compares there.
use mathlib.Core.Path.{◌≡◌, refl, sym, ap, subst, ◌∙◌}
use mathlib.Core.Logic.{◌⊎◌, inl, inr, ⊎_elim}
use mathlib.Core.Bool.{Bool, true, false, ◌&&◌}
use mathlib.Core.List.{List, [], ◌∷◌}
use Prim.Native.Nat.{ℕ, suc, ◌*◌, ◌≤◌, ◌<◌, Ordering}
use native.Mathlib.Omega.{arith}
use lib.Dec.{ltb}
use lib.ListN.{length, take}
use lib.IntN.{ℤ}
use Rattle.model.specs.Entry.{Entry, cut_field, cmp}
use Rattle.model.specs.Tree.{Item, Tree, nil, node, height, items, slots_of, all, is_less, ordered}
use Rattle.model.specs.Add.{mend}
use Rattle.model.specs.Strike.{leaf, from, heir_of, heir, moved, nearer, next, toward, strike, freed, left, right, Side as Way}
use Rattle.model.specs.declared.Shape.{Shape}
use Rattle.model.proofs.Crowd.{InPool}
use Rattle.model.proofs.Lists.{OnceEach}
use Rattle.model.proofs.Orders.{cmp-eq}
use Rattle.model.proofs.Strikes.{slots, slots-append}
use Rattle.model.proofs.Trees.{both}
use Rattle.cells.specs.Orders.{named}
use Rattle.cells.specs.Slots.{left_at, right_at, numbers_of, Slot, Keyed, Room, EntryCompared}
use Rattle.cells.specs.Memory.{Rep, In, Wrote}
use Rattle.std.specs.declared.cmp.Ordering.{Ordering as Order}
use Rattle.std.specs.declared.cmp.Ordering.TheVariants.{Less, Equal, Greater}
use Rattle.cells.proofs.Reps.{Node, open-node, unique, rep-bound, rep-frame}
use Rattle.ask.proofs.Walks.{keyed-in}
use Rattle.seek.specs.Sides.{way_of, on_side, higher_of}
use Rattle.alter.specs.Strikes.{IsFreed, Strikable, StrikableOn, StruckOut, StruckOn}
use Rattle.seek.specs.declared.side.Side.{Side}
use Rattle.seek.specs.declared.side.Side.TheVariants.{Left, Right}
use Rattle.alter.specs.declared.strike.Struck.{Struck}
use Rattle.build.proofs.Shapes.{every_in}
use Rattle.mend.proofs.Heights.{rep-pool}
use Rattle.mend.proofs.Sided.{Sided as Split, sided as split}
use Rattle.alter.proofs.Struck.{sided, lists-apart}

pub some-slot : (s : ℕ) → 0 < s → ¬ (s ≡ 0)
some-slot s h e = omega arith

pub slot-some : (s : ℕ) → ¬ (s ≡ 0) → 0 < s
slot-some s h = omega (arith, h)

-- ---- the definition at a node that is written by a side

pub on-on : (side : Side) (u w : Tree) → on_side side (on_side side u w) (on_side side w u) ≡ u
on-on Left u w = refl
on-on Right u w = refl

abbrev goes : Side → Ordering
goes Left = Ordering.lt
goes Right = Ordering.gt

strike-goes : (side : Side) (t : ℕ) (k : Entry) (i : Item) (u w : Tree) → cmp t k i.entry ≡ goes side → strike t k (node i (on_side side u w) (on_side side w u)) ≡ mend t i (on_side side (strike (suc t) k u) w) (on_side side w (strike (suc t) k u))
unfolding strike
strike-goes Left t k i u w h = rw (h, strike) refl
strike-goes Right t k i u w h = rw (h, strike) refl

freed-goes : (side : Side) (t : ℕ) (k : Entry) (i : Item) (u w : Tree) → cmp t k i.entry ≡ goes side → freed t k (node i (on_side side u w) (on_side side w u)) ≡ freed (suc t) k u
unfolding freed
freed-goes Left t k i u w h = rw (h, freed) refl
freed-goes Right t k i u w h = rw (h, freed) refl

pub strike-takes : (side : Side) (t : ℕ) (k e : Entry) (i : Item) (u w : Tree) → cmp t k i.entry ≡ Ordering.eq → heir t (on_side side u w) (on_side side w u) ≡ from (way_of side) e → strike t k (node i (on_side side u w) (on_side side w u)) ≡ mend t (moved i e) (on_side side (strike (suc t) e u) w) (on_side side w (strike (suc t) e u))
unfolding strike
strike-takes Left t k e i u w h g = rw (h, g, strike) refl
strike-takes Right t k e i u w h g = rw (h, g, strike) refl

pub freed-takes : (side : Side) (t : ℕ) (k e : Entry) (i : Item) (u w : Tree) → cmp t k i.entry ≡ Ordering.eq → heir t (on_side side u w) (on_side side w u) ≡ from (way_of side) e → freed t k (node i (on_side side u w) (on_side side w u)) ≡ freed (suc t) e u
unfolding freed
freed-takes Left t k e i u w h g = rw (h, g, freed) refl
freed-takes Right t k e i u w h g = rw (h, g, freed) refl

pub strike-ends : (t : ℕ) (k : Entry) (i : Item) (l r : Tree) → cmp t k i.entry ≡ Ordering.eq → heir t l r ≡ leaf → strike t k (node i l r) ≡ nil
unfolding strike
strike-ends t k i l r h g = rw (h, g, strike) refl

pub freed_ends : (t : ℕ) (k : Entry) (i : Item) (l r : Tree) → cmp t k i.entry ≡ Ordering.eq → heir t l r ≡ leaf → freed t k (node i l r) ≡ i.slot
unfolding freed
freed_ends t k i l r h g = rw (h, g, freed) refl

-- the heir comes from the higher side
pub heir-side : (t : ℕ) (l r : Tree) → heir t l r ≡ heir_of (way_of (higher_of (height l) (height r))) t (on_side (higher_of (height l) (height r)) l r)
unfolding heir
heir-side t l r = go (ltb (height r) (height l)) refl
  where
    go : (b : Bool) → ltb (height r) (height l) ≡ b → heir t l r ≡ heir_of (way_of (higher_of (height l) (height r))) t (on_side (higher_of (height l) (height r)) l r)
    go true e = let a : heir t l r ≡ heir_of left t l = rw (e, heir) refl in let b : higher_of (height l) (height r) ≡ Left = rw (e, higher_of) refl in a ∙ sym (ap (λ (d : Side). heir_of (way_of d) t (on_side d l r)) b)
    go false e = let a : heir t l r ≡ heir_of right t r = rw (e, heir) refl in let b : higher_of (height l) (height r) ≡ Right = rw (e, higher_of) refl in a ∙ sym (ap (λ (d : Side). heir_of (way_of d) t (on_side d l r)) b)

pub ordered-on : (side : Side) (t : ℕ) (i : Item) (u w : Tree) → ordered t (node i (on_side side u w) (on_side side w u)) ≡ true → ordered (suc t) u ≡ true
ordered-on Left t i u w o = (both (ordered (suc t) u) (ordered (suc t) w) (both (all (λ x. is_less (cmp t x i.entry)) u && all (λ x. is_less (cmp t i.entry x)) w) (ordered (suc t) u && ordered (suc t) w) o).1).0
ordered-on Right t i u w o = (both (ordered (suc t) w) (ordered (suc t) u) (both (all (λ x. is_less (cmp t x i.entry)) w && all (λ x. is_less (cmp t i.entry x)) u) (ordered (suc t) w && ordered (suc t) u) o).1).1

-- the replacement is one of the items
nearer-one : (w : Way) (t : ℕ) (a b : Item) → (nearer w t a b ≡ a) ⊎ (nearer w t a b ≡ b)
nearer-one w t a b = go (toward w t a.entry b.entry) refl
  where
    go : (o : Ordering) → toward w t a.entry b.entry ≡ o → (nearer w t a b ≡ a) ⊎ (nearer w t a b ≡ b)
    go Ordering.lt e = inr (rw (e, nearer) refl)
    go Ordering.eq e = inl (rw (e, nearer) refl)
    go Ordering.gt e = inl (rw (e, nearer) refl)

pub next-in : (w : Way) (t : ℕ) (a : Item) (is : List Item) → In (next w t a is).slot (a.slot ∷ slots_of is)
next-in w t a [] = inl refl
next-in w t a (i ∷ is) = ⊎_elim (λ e. ⊎_elim (λ q. inl (e ∙ ap (λ (x : Item). x.slot) q)) (λ q. inr (inl (e ∙ ap (λ (x : Item). x.slot) q))) (nearer-one w t a i)) (λ h. inr (inr h)) (next-in w t (nearer w t a i) is)

-- ---- a tree at a slot, as a node by a side

pub halves : (K : ℕ) (ks : List ℤ) (ls : List ℕ) (s : ℕ) (side : Side) (u : Tree) → Rep K ks ls s u → ¬ (s ≡ 0) → Split side u
halves K ks ls s side nil p ne = absurd (ne p)
halves K ks ls s side (node i l r) p ne = split side i l r

-- with other numbers at its root
pub rewritten : (K : ℕ) (ks ks₁ : List ℤ) (ls : List ℕ) (s : ℕ) (e : Entry) (i : Item) (l r : Tree) → Wrote K ks ks₁ s e → OnceEach (slots (node i l r)) → Rep K ks ls s (node i l r) → Rep K ks₁ ls s (node (moved i e) l r)
rewritten K ks ks₁ ls s e i l r w o p =
    let a = lists-apart (slots l) i.slot (slots r) (rw (slots-append (items l) (i ∷ items r)) at o) in
    (p.0, p.1, subst (λ (x : ℕ). numbers_of K ks₁ x ≡ e) p.0 w.numbers, p.3, kept (left_at ls i.slot) l a.1.1.0 p.4, kept (right_at ls i.slot) r a.1.1.1 p.5)
  where
    kept : (j : ℕ) (v : Tree) → ¬ (In i.slot (slots v)) → Rep K ks ls j v → Rep K ks₁ ls j v
    kept j v out = rep-frame K ks ks₁ ls ls (s ∷ []) refl (w.others ls) j v (λ x h. ⊎_elim (λ q. out (subst (λ (y : ℕ). In y (slots v)) (q ∙ p.0) h)) (λ z. z))

pub slots-moved : (i : Item) (e : Entry) (l r : Tree) → slots (node (moved i e) l r) ≡ slots (node i l r)
slots-moved i e l r = slots-append (items l) (moved i e ∷ items r) ∙ sym (slots-append (items l) (i ∷ items r))

-- ---- a strike at a node

module _ {S : Shape} {ks : List ℤ} {ls : List ℕ} {s c : ℕ} (m : Room S (length ks) (length ls)) (ne : ¬ (s ≡ 0)) (g : Strikable S.k ks ls s c) where
  here : Node S.k ks ls s g.tree
  here = open-node S.k ks ls s g.tree g.stands.rep ne

  pub pooled : (j : ℕ) → In j (slots g.tree) → InPool S.c j
  pooled = every_in (InPool S.c) (slots g.tree) (rep-pool S.k S.c ks ls m.long s g.tree g.stands.rep)

  pub slot-here : Slot (length ls) s
  slot-here = here.slot

  pub low-here : s ≤ S.c
  low-here = let a = slot-here.fits in let b = m.long in omega arith

  pub small-here : s ≤ 4096
  small-here = let a = low-here in let b = m.c_high in omega arith

  pub keyed-here : Keyed S.k (length ks) s
  keyed-here = keyed-in S (length ks) (length ls) s m ne low-here

  pub children-fit : (3 * left_at ls s ≤ length ls) × (3 * right_at ls s ≤ length ls)
  children-fit = (rep-bound S.k ks ls (left_at ls s) here.l here.left, rep-bound S.k ks ls (right_at ls s) here.r here.right)

  pub once-any : (u : Tree) → Rep S.k ks ls s u → OnceEach (slots u)
  once-any u p = subst (λ (v : Tree). OnceEach (slots v)) (unique S.k ks ls s g.tree u g.stands.rep p) g.once

  -- the two ways down
  module _ (side : Side) where
    parts : Split side g.tree
    parts = halves S.k ks ls s side g.tree g.stands.rep ne

    pub side-ready : StrikableOn S.k ks ls s c side
    side-ready = record {
      depth = g.stands.depth;
      cut = g.stands.cut;
      item = parts.item;
      there = parts.there;
      other = parts.other;
      rep = subst (Rep S.k ks ls s) parts.is g.stands.rep;
      in_order = ordered-on side g.stands.depth parts.item parts.there parts.other (subst (λ (v : Tree). ordered g.stands.depth v ≡ true) parts.is g.stands.in_order);
      once = subst (λ (v : Tree). OnceEach (slots v)) parts.is g.once;
    }

    struck-side : (ks' : List ℤ) (ls' : List ℕ) (e : Entry) (x : Struck) → ((t : ℕ) → cut_field S.k t ≡ c → cmp t e (numbers_of S.k ks s) ≡ goes side) → StruckOn S.k ks ks' ls ls' c s side e x → StruckOut S.k ks ks' ls ls' c s e x
    struck-side ks' ls' e x way on = record { rep = rep; gone = gone; frame = on.frame }
      where
        rep : (t : ℕ) → cut_field S.k t ≡ c → (u : Tree) → Rep S.k ks ls s u → ordered t u ≡ true → Rep S.k ks' ls' x.root (strike t e u)
        rep t ct u p o =
            let h = halves S.k ks ls s side u p ne in
            let p' = subst (Rep S.k ks ls s) h.is p in
            let o' = subst (λ (v : Tree). ordered t v ≡ true) h.is o in
            let q : cmp t e h.item.entry ≡ goes side = subst (λ (y : Entry). cmp t e y ≡ goes side) (sided S.k ks ls s side h.item h.there h.other p').entry (way t ct) in
            subst (Rep S.k ks' ls' x.root) (sym (ap (strike t e) h.is ∙ strike-goes side t e h.item h.there h.other q)) (on.rep t ct h.item h.there h.other p' (ordered-on side t h.item h.there h.other o'))

        gone : (t : ℕ) → cut_field S.k t ≡ c → (u : Tree) → Rep S.k ks ls s u → ordered t u ≡ true → IsFreed x.freed (freed t e u)
        gone t ct u p o =
            let h = halves S.k ks ls s side u p ne in
            let p' = subst (Rep S.k ks ls s) h.is p in
            let o' = subst (λ (v : Tree). ordered t v ≡ true) h.is o in
            let q : cmp t e h.item.entry ≡ goes side = subst (λ (y : Entry). cmp t e y ≡ goes side) (sided S.k ks ls s side h.item h.there h.other p').entry (way t ct) in
            subst (IsFreed x.freed) (sym (ap (freed t e) h.is ∙ freed-goes side t e h.item h.there h.other q)) (on.gone t ct h.item h.there h.other p' (ordered-on side t h.item h.there h.other o'))

  -- what the comparison told
  module _ {f : List ℤ} {o : Order} (told : EntryCompared S.k f ks s c o) {ks' : List ℤ} {ls' : List ℕ} {x : Struck} where
    pub struck-less : o ≡ Less → StruckOn S.k ks ks' ls ls' c s Left (take S.k f) x → StruckOut S.k ks ks' ls ls' c s (take S.k f) x
    struck-less e on = struck-side Left ks' ls' (take S.k f) x (λ t ct. is-less (cmp t (take S.k f) (numbers_of S.k ks s)) (sym e ∙ told.at t ct)) on
      where
        is-less : (y : Ordering) → Less ≡ named y → y ≡ Ordering.lt
        is-less Ordering.lt q = refl
        is-less Ordering.eq q = cc
        is-less Ordering.gt q = cc

    pub struck-greater : o ≡ Greater → StruckOn S.k ks ks' ls ls' c s Right (take S.k f) x → StruckOut S.k ks ks' ls ls' c s (take S.k f) x
    struck-greater e on = struck-side Right ks' ls' (take S.k f) x (λ t ct. is_greater (cmp t (take S.k f) (numbers_of S.k ks s)) (sym e ∙ told.at t ct)) on
      where
        is_greater : (y : Ordering) → Greater ≡ named y → y ≡ Ordering.gt
        is_greater Ordering.lt q = cc
        is_greater Ordering.eq q = cc
        is_greater Ordering.gt q = refl

    pub struck-equal : o ≡ Equal → StruckOut S.k ks ks' ls ls' c s (numbers_of S.k ks s) x → StruckOut S.k ks ks' ls ls' c s (take S.k f) x
    struck-equal e out = subst (λ (y : Entry). StruckOut S.k ks ks' ls ls' c s y x) (sym (cmp-eq g.stands.depth (take S.k f) (numbers_of S.k ks s) (is-equal (cmp g.stands.depth (take S.k f) (numbers_of S.k ks s)) (sym e ∙ told.at g.stands.depth g.stands.cut)))) out
      where
        is-equal : (y : Ordering) → Equal ≡ named y → y ≡ Ordering.eq
        is-equal Ordering.lt q = cc
        is-equal Ordering.eq q = refl
        is-equal Ordering.gt q = cc
