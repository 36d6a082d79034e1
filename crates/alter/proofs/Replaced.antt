-- The entry of a node itself is struck: a leaf goes, else the numbers of its replacement are copied to it and struck from their side.
use mathlib.Core.Path.{◌≡◌, refl, sym, ap, ap₂, subst, ◌∙◌}
use mathlib.Core.Logic.{inl, inr, ⊎_elim}
use mathlib.Core.Bool.{true}
use mathlib.Core.List.{List, [], ◌∷◌, ◌++◌}
use Prim.Native.Nat.{Ordering}
use Prim.Native.Nat.{ℕ, suc, ◌≤◌}
use native.Mathlib.Omega.{arith}
use lib.ListN.{length, take}
use lib.Seq.{take_at}
use lib.IntN.{ℤ}
use Rattle.std.specs.Prelude.{Some, None}
use Rattle.model.specs.Answer.{outward}
use Rattle.model.specs.Entry.{Entry, cut_field, cmp}
use Rattle.model.specs.Tree.{Item, Tree, node, height, items, slots_of, ordered}
use Rattle.model.specs.Strike.{leaf, from, heir_of, heir, moved, next, strike, freed}
use Rattle.model.specs.declared.Entry.{Entry as Four}
use Rattle.model.specs.declared.Shape.{Shape}
use Rattle.model.proofs.Crowd.{InPool}
use Rattle.model.proofs.Lists.{OnceEach}
use Rattle.model.proofs.Orders.{cmp-refl}
use Rattle.model.proofs.Strikes.{slots, slots-append}
use Rattle.cells.specs.Orders.{Deeper}
use Rattle.cells.specs.Slots.{left_at, right_at, tall, numbers_of, Keyed, Room}
use Rattle.cells.specs.Memory.{Rep, In, Frame, Wrote}
use Rattle.cells.proofs.Slots.{numbers-long}
use Rattle.cells.proofs.Reps.{Node, open-node, open-nil, unique, tall-rep, in-node, in-cases, frame_self, frame-trans}
use Rattle.ask.specs.Standing.{Standing}
use Rattle.ask.proofs.Walks.{keyed-in}
use Rattle.seek.specs.Sides.{item_in, way_of, child_at, on_side, higher_of}
use Rattle.seek.specs.Seeks.{Sought}
use Rattle.alter.specs.Strikes.{IsFreed, Strikable, StrikableOn, StruckOut, StruckOn}
use Rattle.seek.specs.declared.side.Side.{Side}
use Rattle.alter.specs.declared.strike.Struck.{Struck}
use Rattle.alter.proofs.Struck.{every_of, near-in, Sided, sided, apart}
use Rattle.ask.proofs.Listed.{slots_length}
use Rattle.mend.proofs.Heights.{few}
use Rattle.mend.proofs.Sided.{Sided as Split}
use Rattle.alter.proofs.Heirs.{on-on, strike-takes, freed-takes, strike-ends, freed_ends, heir-side, ordered-on, next-in, halves, rewritten, slots-moved, pooled, once-any, side-ready}

-- an entry as it is handed out, taken in again
back : (K : ℕ) (v : Entry) → length v ≡ K → take K (outward v).f ≡ v
back K v n = take_at v _ K n

-- nothing at no slot was struck
pub struck-none : {K : ℕ} {ks : List ℤ} {ls : List ℕ} {s c : ℕ} {e : Entry} → s ≡ 0 → StruckOut K ks ks ls ls c s e (record { root = 0; freed = None })
unfolding strike freed
struck-none {K} {ks} {ls} {s} {c} {e} z = record {
  rep = λ t ct u p o. subst (λ (v : Tree). Rep K ks ls 0 (strike t e v)) (sym (open-nil K ks ls s u p z)) refl;
  gone = λ t ct u p o. subst (λ (v : Tree). freed t e v ≡ 0) (sym (open-nil K ks ls s u p z)) refl;
  frame = λ u p. frame_self K ks ls (slots u);
}

-- side is the higher side of s, and child stands there
module _ {S : Shape} {ks : List ℤ} {ls : List ℕ} {s c : ℕ} (m : Room S (length ks) (length ls)) (ne : ¬ (s ≡ 0)) (g : Strikable S.k ks ls s c)
    {side : Side} (q : side ≡ higher_of (tall ls (left_at ls s)) (tall ls (right_at ls s))) {child : ℕ} (qc : child ≡ child_at ls s side) where
  -- a tree at s as a node by that side
  module _ (t : ℕ) (u : Tree) (p : Rep S.k ks ls s u) where
    pub cut : Split side u
    cut = halves S.k ks ls s side u p ne

    at_cut : Rep S.k ks ls s (node cut.item (on_side side cut.there cut.other) (on_side side cut.other cut.there))
    at_cut = subst (Rep S.k ks ls s) cut.is p

    known : Sided S.k ks ls s side cut.item cut.there cut.other
    known = sided S.k ks ls s side cut.item cut.there cut.other at_cut

    near-cut : Rep S.k ks ls child cut.there
    near-cut = subst (λ (j : ℕ). Rep S.k ks ls j cut.there) (sym qc) known.near

    itself : cmp t (numbers_of S.k ks s) cut.item.entry ≡ Ordering.eq
    itself = subst (λ (e : Entry). cmp t e cut.item.entry ≡ Ordering.eq) (sym known.entry) (cmp-refl t cut.item.entry)

    -- the definition's choice of the side is the one of the heights in memory
    heir-here : heir t (on_side side cut.there cut.other) (on_side side cut.other cut.there) ≡ heir_of (way_of side) t cut.there
    heir-here =
        let l : Tree = on_side side cut.there cut.other in
        let r : Tree = on_side side cut.other cut.there in
        let h = at_cut in
        let a : tall ls (left_at ls s) ≡ height l = tall-rep S.k ks ls (left_at ls s) l (subst (λ (j : ℕ). Rep S.k ks ls (left_at ls j) l) (sym known.here) h.4) in
        let b : tall ls (right_at ls s) ≡ height r = tall-rep S.k ks ls (right_at ls s) r (subst (λ (j : ℕ). Rep S.k ks ls (right_at ls j) r) (sym known.here) h.5) in
        let d : higher_of (height l) (height r) ≡ side = sym (q ∙ ap₂ higher_of a b) in
        heir-side t l r ∙ ap (λ (x : Side). heir_of (way_of x) t (on_side x l r)) d ∙ ap (heir_of (way_of side) t) (on-on side cut.there cut.other)

  -- no child on the higher side: a leaf
  pub struck-leaf : child ≡ 0 → StruckOut S.k ks ks ls ls c s (numbers_of S.k ks s) (record { root = 0; freed = Some s })
  struck-leaf z = record { rep = rep; gone = gone; frame = λ u p. frame_self S.k ks ls (slots u) }
    where
      ends : (t : ℕ) (u : Tree) (p : Rep S.k ks ls s u) → heir t (on_side side (cut t u p).there (cut t u p).other) (on_side side (cut t u p).other (cut t u p).there) ≡ leaf
      ends t u p = heir-here t u p ∙ ap (heir_of (way_of side) t) (open-nil S.k ks ls child (cut t u p).there (near-cut t u p) z)

      rep : (t : ℕ) → cut_field S.k t ≡ c → (u : Tree) → Rep S.k ks ls s u → ordered t u ≡ true → Rep S.k ks ls 0 (strike t (numbers_of S.k ks s) u)
      rep t ct u p o = subst (Rep S.k ks ls 0) (sym (ap (strike t (numbers_of S.k ks s)) (cut t u p).is ∙ strike-ends t (numbers_of S.k ks s) (cut t u p).item (on_side side (cut t u p).there (cut t u p).other) (on_side side (cut t u p).other (cut t u p).there) (itself t u p) (ends t u p))) refl

      gone : (t : ℕ) → cut_field S.k t ≡ c → (u : Tree) → Rep S.k ks ls s u → ordered t u ≡ true → s ≡ freed t (numbers_of S.k ks s) u
      gone t ct u p o = (known t u p).here ∙ sym (ap (freed t (numbers_of S.k ks s)) (cut t u p).is ∙ freed_ends t (numbers_of S.k ks s) (cut t u p).item (on_side side (cut t u p).there (cut t u p).other) (on_side side (cut t u p).other (cut t u p).there) (itself t u p) (ends t u p))

  -- a child: the replacement is sought in its tree, which is cut at c'
  module _ (nc : ¬ (child ≡ 0)) {c' : ℕ} (d : Deeper S.k c c') where
    on : StrikableOn S.k ks ls s c side
    on = side-ready m ne g side

    near_on : Rep S.k ks ls child on.there
    near_on = subst (λ (j : ℕ). Rep S.k ks ls j on.there) (sym qc) (sided S.k ks ls s side on.item on.there on.other on.rep).near

    in_tree : (j : ℕ) → In j (slots on.there) → InPool S.c j
    in_tree j h = pooled m ne g j (subst (λ (v : Tree). In j (slots v)) (unique S.k ks ls s (node on.item (on_side side on.there on.other) (on_side side on.other on.there)) g.tree on.rep g.stands.rep) (near-in side on.item on.there on.other j h))

    pub child-stands : Standing S.k ks ls child c' S.c
    child-stands = record {
      tree = on.there;
      stands = record { depth = suc on.depth; cut = d.at on.depth on.cut; rep = near_on; in_order = on.in_order };
      few = (let a = few S.c (slots on.there) (apart side on.item on.there on.other on.once).once (every_of (InPool S.c) (slots on.there) in_tree) in let b = slots_length (items on.there) in omega arith);
    }

    module _ {x : ℕ} (so : Sought S.k ks ls side c child c' x) where
      -- the replacement in any tree that stands at the child
      module _ (t : ℕ) (ct : cut_field S.k t ≡ c) (v : Tree) (p : Rep S.k ks ls child v) (o : ordered (suc t) v ≡ true) where
        child-node : Node S.k ks ls child v
        child-node = open-node S.k ks ls child v p nc

        sought : item_in S.k ks x ≡ next (way_of side) t child-node.item (items child-node.l ++ items child-node.r)
        sought = so.is t ct child-node.item child-node.l child-node.r (record { depth = suc t; cut = d.at t ct; rep = subst (Rep S.k ks ls child) child-node.is p; in_order = subst (λ (w : Tree). ordered (suc t) w ≡ true) child-node.is o })

        heir-is : heir_of (way_of side) t v ≡ from (way_of side) (numbers_of S.k ks x)
        heir-is = ap (heir_of (way_of side) t) child-node.is ∙ ap (λ (i : Item). from (way_of side) i.entry) (sym sought)

        sought-in : In x (slots v)
        sought-in =
            let i = child-node.item in
            let l = child-node.l in
            let r = child-node.r in
            let a : In x (i.slot ∷ slots_of (items l ++ items r)) = subst (λ (y : ℕ). In y (i.slot ∷ slots_of (items l ++ items r))) (sym (ap (λ (y : Item). y.slot) sought)) (next-in (way_of side) t i (items l ++ items r)) in
            subst (λ (w : Tree). In x (slots w)) (sym child-node.is)
            (in-node x i l r (⊎_elim (λ e. inr (inl e)) (λ h. ⊎_elim (λ k. inl k) (λ k. inr (inr k)) (in-cases x (slots l) (slots r) (subst (In x) (slots-append (items l) (items r)) h))) a))

      heir-pool : InPool S.c x
      heir-pool = in_tree x (sought-in on.depth on.cut on.there near_on on.in_order)

      pub heir-keyed : Keyed S.k (length ks) x
      heir-keyed = keyed-in S (length ks) (length ls) x m (λ e. let a = heir-pool.0 in omega arith) heir-pool.1

      pub heir-small : x ≤ 4096
      heir-small = let a = heir-pool.1 in let b = m.c_high in omega arith

      -- its numbers were read as those of a, and written to s
      module _ {a : Four} (qa : a ≡ outward (numbers_of S.k ks x)) {ks₁ : List ℤ} (wr : Wrote S.k ks ks₁ s (take S.k a.f)) where
        abbrev e : Entry
        e = take S.k a.f

        same-entry : e ≡ numbers_of S.k ks x
        same-entry = ap (λ (y : Four). take S.k y.f) qa ∙ back S.k (numbers_of S.k ks x) (numbers-long S.k ks x heir-keyed)

        pub replaced-ready : StrikableOn S.k ks₁ ls s c side
        replaced-ready = record {
          depth = on.depth;
          cut = on.cut;
          item = moved on.item e;
          there = on.there;
          other = on.other;
          rep = rewritten S.k ks ks₁ ls s e on.item (on_side side on.there on.other) (on_side side on.other on.there) wr on.once on.rep;
          in_order = on.in_order;
          once = subst OnceEach (sym (slots-moved on.item e (on_side side on.there on.other) (on_side side on.other on.there))) on.once;
        }

        pub replaced : {ks' : List ℤ} {ls' : List ℕ} {z : Struck} → StruckOn S.k ks₁ ks' ls ls' c s side (take S.k a.f) z → StruckOut S.k ks ks' ls ls' c s (numbers_of S.k ks s) z
        replaced {ks'} {ls'} {z} st = record { rep = rep; gone = gone; frame = frame }
          where
            k : Entry
            k = numbers_of S.k ks s

            new-rep : (t : ℕ) (u : Tree) (p : Rep S.k ks ls s u) → Rep S.k ks₁ ls s (node (moved (cut t u p).item e) (on_side side (cut t u p).there (cut t u p).other) (on_side side (cut t u p).other (cut t u p).there))
            new-rep t u p =
                let h = cut t u p in
                rewritten S.k ks ks₁ ls s e h.item (on_side side h.there h.other) (on_side side h.other h.there) wr (subst (λ (v : Tree). OnceEach (slots v)) h.is (once-any m ne g u p)) (at_cut t u p)

            in_order : (t : ℕ) (u : Tree) (p : Rep S.k ks ls s u) → ordered t u ≡ true → ordered (suc t) (cut t u p).there ≡ true
            in_order t u p o = let h = cut t u p in ordered-on side t h.item h.there h.other (subst (λ (v : Tree). ordered t v ≡ true) h.is o)

            takes : (t : ℕ) → cut_field S.k t ≡ c → (u : Tree) (p : Rep S.k ks ls s u) → ordered t u ≡ true → heir t (on_side side (cut t u p).there (cut t u p).other) (on_side side (cut t u p).other (cut t u p).there) ≡ from (way_of side) e
            takes t ct u p o = heir-here t u p ∙ heir-is t ct (cut t u p).there (near-cut t u p) (in_order t u p o) ∙ ap (from (way_of side)) (sym same-entry)

            rep : (t : ℕ) → cut_field S.k t ≡ c → (u : Tree) → Rep S.k ks ls s u → ordered t u ≡ true → Rep S.k ks' ls' z.root (strike t k u)
            rep t ct u p o =
                let h = cut t u p in
                subst (Rep S.k ks' ls' z.root) (sym (ap (strike t k) h.is ∙ strike-takes side t k e h.item h.there h.other (itself t u p) (takes t ct u p o))) (st.rep t ct (moved h.item e) h.there h.other (new-rep t u p) (in_order t u p o))

            gone : (t : ℕ) → cut_field S.k t ≡ c → (u : Tree) → Rep S.k ks ls s u → ordered t u ≡ true → IsFreed z.freed (freed t k u)
            gone t ct u p o =
                let h = cut t u p in
                subst (IsFreed z.freed) (sym (ap (freed t k) h.is ∙ freed-takes side t k e h.item h.there h.other (itself t u p) (takes t ct u p o))) (st.gone t ct (moved h.item e) h.there h.other (new-rep t u p) (in_order t u p o))

            frame : (u : Tree) → Rep S.k ks ls s u → Frame S.k ks ks' ls ls' (slots u)
            frame u p =
                let h = cut 0 u p in
                let l : Tree = on_side side h.there h.other in
                let r : Tree = on_side side h.other h.there in
                subst (λ (v : Tree). Frame S.k ks ks' ls ls' (slots v)) (sym h.is)
                (frame-trans S.k ks ks₁ ks' ls ls ls' (s ∷ []) (slots (node (moved h.item e) l r)) (wr.others ls) (st.frame (node (moved h.item e) l r) (new-rep 0 u p)) (slots (node h.item l r))
                (λ j i. in-node j h.item l r (⊎_elim (λ y. inr (inl (y ∙ (known 0 u p).here))) absurd i))
                (λ j i. subst (In j) (slots-moved h.item e l r) i))
