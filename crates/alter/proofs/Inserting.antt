-- What inserting needs: the slots of the grown tree, what the calls ask, and the frames joined.
use mathlib.Core.Path.{◌≡◌, refl, sym, ap, subst, ◌∙◌}
use mathlib.Core.Logic.{◌⊎◌, inl, inr, ⊎_elim}
use mathlib.Core.List.Permᴰ
use mathlib.Core.List.{List, [], ◌∷◌, ◌++◌}
use Prim.Native.Nat.{ℕ, suc, ◌+◌, ◌*◌, ◌≤◌, ◌<◌, Ordering}
use native.Mathlib.Omega.{arith}
use lib.ListN.{length}
use lib.IntN.{ℤ}
use Rattle.model.specs.Add.{insert, mend}
use Rattle.model.specs.Entry.{cut_field, cmp}
use Rattle.model.specs.Tree.{Item, Tree, nil, node, items}
use Rattle.model.specs.declared.Shape.{Shape}
use Rattle.model.proofs.Adds.{insert-by, mend-perm}
use Rattle.model.proofs.Lists.{Every, OnceEach, every-split, once-split, once-perm}
use Rattle.model.proofs.Crowd.{PermS}
use Rattle.model.proofs.Strikes.{slots, slots-append, slots-perm}
use Rattle.cells.specs.Orders.{named, Deeper}
use Rattle.cells.specs.Slots.{tall, numbers_of, Slot, Keyed, Room, SlotsCompared}
use Rattle.cells.specs.Memory.{Rep, In, Frame}
use Rattle.std.specs.declared.cmp.Ordering.{Ordering as Order}
use Rattle.std.specs.declared.cmp.Ordering.TheVariants.{Less, Equal, Greater}
use Rattle.cells.proofs.Reps.{Node, open-node, open-nil, unique, rep-frame, frame_self, frame-trans, in_left, in_right, in-cases}
use Rattle.ask.proofs.Walks.{keyed-in}
use Rattle.rank.proofs.Merging.{cut-here}
use Rattle.build.proofs.Shapes.{every_in, in-perm}
use Rattle.alter.specs.Alters.{Insertable, Inserted, InsertedOn}
use Rattle.mend.specs.Mends.{MendableOn, MendedOn}
use Rattle.seek.specs.Sides.{item_in, child_at, other_of, on_side}
use Rattle.seek.specs.declared.side.Side.{Side}
use Rattle.seek.specs.declared.side.Side.TheVariants.{Left, Right}
use Rattle.mend.proofs.Sided.{Sided, sided, Halves, halves, sided-perm, whole-perm, child-same}

-- ---- the slots of the grown tree

mend-slots : (t : ℕ) (i : Item) (l r : Tree) → PermS (slots (mend t i l r)) (slots l ++ (i.slot ∷ slots r))
mend-slots t i l r = rw (slots-append (items l) (i ∷ items r)) at (slots-perm (mend-perm t i l r))

-- the new one and the old ones; where the entry is there already, the old ones
pub insert-slots : (t : ℕ) (i : Item) (u : Tree) → PermS (slots (insert t i u)) (i.slot ∷ slots u) ⊎ PermS (slots (insert t i u)) (slots u)
unfolding insert
insert-slots t i nil = inl (Permᴰ.refl (i.slot ∷ []))
insert-slots t i (node j l r) = insert-by (λ v. PermS (slots v) (i.slot ∷ slots (node j l r)) ⊎ PermS (slots v) (slots (node j l r))) t i j l r
    (λ e. ⊎_elim (λ p. inl (low p)) (λ p. inr (low-old p)) (insert-slots (suc t) i l))
    (λ e. inr (Permᴰ.refl (slots (node j l r))))
    (λ e. ⊎_elim (λ p. inl (high p)) (λ p. inr (high-old p)) (insert-slots (suc t) i r))
  where
    low : PermS (slots (insert (suc t) i l)) (i.slot ∷ slots l) → PermS (slots (mend t j (insert (suc t) i l) r)) (i.slot ∷ slots (node j l r))
    low p = rw (slots-append (items l) (j ∷ items r)) (Permᴰ.trans (mend-slots t j (insert (suc t) i l) r) (Permᴰ.append_right (j.slot ∷ slots r) p))

    low-old : PermS (slots (insert (suc t) i l)) (slots l) → PermS (slots (mend t j (insert (suc t) i l) r)) (slots (node j l r))
    low-old p = rw (slots-append (items l) (j ∷ items r)) (Permᴰ.trans (mend-slots t j (insert (suc t) i l) r) (Permᴰ.append_right (j.slot ∷ slots r) p))

    high : PermS (slots (insert (suc t) i r)) (i.slot ∷ slots r) → PermS (slots (mend t j l (insert (suc t) i r))) (i.slot ∷ slots (node j l r))
    high p = rw (slots-append (items l) (j ∷ items r)) (Permᴰ.trans (mend-slots t j l (insert (suc t) i r)) (Permᴰ.trans (Permᴰ.append_left (slots l) (Permᴰ.trans (Permᴰ.cons refl p) (Permᴰ.swap refl refl))) (Permᴰ.middle i.slot (slots l) (j.slot ∷ slots r))))

    high-old : PermS (slots (insert (suc t) i r)) (slots r) → PermS (slots (mend t j l (insert (suc t) i r))) (slots (node j l r))
    high-old p = rw (slots-append (items l) (j ∷ items r)) (Permᴰ.trans (mend-slots t j l (insert (suc t) i r)) (Permᴰ.append_left (slots l) (Permᴰ.cons refl p)))

grown-once : (t : ℕ) (i : Item) (u w : Tree) (s : ℕ) → OnceEach (i.slot ∷ (s ∷ (slots u ++ slots w))) → OnceEach (s ∷ (slots (insert t i u) ++ slots w))
grown-once t i u w s o = ⊎_elim
    (λ p. once-perm (Permᴰ.symm (Permᴰ.trans (Permᴰ.cons refl (Permᴰ.append_right (slots w) p)) (Permᴰ.swap refl refl))) o)
    (λ p. once-perm (Permᴰ.symm (Permᴰ.cons refl (Permᴰ.append_right (slots w) p))) o.1)
    (insert-slots t i u)

grown-in : (t : ℕ) (i : Item) (u : Tree) (j : ℕ) → In j (slots (insert t i u)) → In j (i.slot ∷ slots u)
grown-in t i u j h = ⊎_elim (λ p. in-perm (slots (insert t i u)) (i.slot ∷ slots u) p j h) (λ p. inr (in-perm (slots (insert t i u)) (slots u) p j h)) (insert-slots t i u)

-- ---- `insert_on`: a node by its side, the leaf to be put in at new

module _ {K : ℕ} {ks : List ℤ} {ls : List ℕ} {c s : ℕ} (side : Side) {new : ℕ} (low : c < K) (g : Insertable K ks ls s new) where
  -- whatever the parts of the node at s are
  module _ (i : Item) (u w : Tree) (p : Rep K ks ls s (node i (on_side side u w) (on_side side w u))) where
    half : Halves K ks ls s side i u w
    half = halves K ks ls s side i u w p

    all-perm : PermS (slots (node i (on_side side u w) (on_side side w u))) (s ∷ (slots u ++ slots w))
    all-perm = subst (λ (y : ℕ). PermS (slots (node i (on_side side u w) (on_side side w u))) (y ∷ (slots u ++ slots w))) (sym (ap (λ (y : Item). y.slot) half.item-is)) (whole-perm side i u w)

    once-all : OnceEach (new ∷ (s ∷ (slots u ++ slots w)))
    once-all = once-perm (Permᴰ.cons refl all-perm) (subst (λ (v : Tree). OnceEach (new ∷ slots v)) (unique K ks ls s g.tree (node i (on_side side u w) (on_side side w u)) g.rep p) g.once)

    once-new : OnceEach (new ∷ slots u)
    once-new = ((every-split (λ y. ¬ (new ≡ y)) (slots u) (slots w) once-all.0.1).0, (once-split (slots u) (slots w) once-all.1.1).0)

    not-here : ¬ (In s (new ∷ slots u))
    not-here (inl e) = once-all.0.0 (sym e)
    not-here (inr h) = every_in (λ y. ¬ (s ≡ y)) (slots u) (every-split (λ y. ¬ (s ≡ y)) (slots u) (slots w) once-all.1.0).0 s h refl

    not_there : (j : ℕ) → In j (slots w) → ¬ (In j (new ∷ slots u))
    not_there j h (inl e) = every_in (λ y. ¬ (new ≡ y)) (slots w) (every-split (λ y. ¬ (new ≡ y)) (slots u) (slots w) once-all.0.1).1 j h (sym e)
    not_there j h (inr k) = every_in (λ y. ¬ (j ≡ y)) (slots w) (every_in (λ x. Every (λ y. ¬ (x ≡ y)) (slots w)) (slots u) (once-split (slots u) (slots w) once-all.1.1).2 j k) j h refl

    -- the child was grown
    module _ (c' : ℕ) (deep : Deeper K c c') (l : ℕ) (el : l ≡ child_at ls s side) (ls₁ : List ℕ) (e₁ : length ls₁ ≡ length ls) (x₁ : ℕ) (a : Inserted K ks ls ls₁ c' l new x₁) where
      there : Rep K ks ls l u
      there = rw el half.there-rep

      grown : (t : ℕ) → cut_field K t ≡ c → Rep K ks ls₁ x₁ (insert (suc t) (item_in K ks new) u)
      grown t h = a.rep (suc t) (deep.at t h) u there

      other : Rep K ks ls₁ (child_at ls₁ s (other_of side)) w
      other = rw (child-same K ks ks ls ls₁ s (other_of side) (a.frame u there s half.slot.some not-here)) (rep-frame K ks ks ls ls₁ (new ∷ slots u) e₁ (a.frame u there) (child_at ls s (other_of side)) w not_there half.other_rep)

      mendable-at : MendableOn K ks ls₁ s side x₁
      mendable-at = record {
        new = insert (suc c) (item_in K ks new) u;
        old = w;
        child_rep = grown c (cut-here K c low);
        other_rep = other;
        here = rw e₁ half.slot;
        once = once-perm (Permᴰ.symm (sided-perm side s (insert (suc c) (item_in K ks new) u) w)) (grown-once (suc c) (item_in K ks new) u w s once-all);
      }

      module _ (ls₂ : List ℕ) (x₂ : ℕ) (m : MendedOn K ks ls₁ ls₂ c s side x₁ x₂) where
        mended-rep : (t : ℕ) → cut_field K t ≡ c → Rep K ks ls₂ x₂ (mend t i (on_side side (insert (suc t) (item_in K ks new) u) w) (on_side side w (insert (suc t) (item_in K ks new) u)))
        mended-rep t h = subst (λ (y : Item). Rep K ks ls₂ x₂ (mend t y (on_side side (insert (suc t) (item_in K ks new) u) w) (on_side side w (insert (suc t) (item_in K ks new) u)))) half.item-is (m.rep t h (insert (suc t) (item_in K ks new) u) w (grown t h) other)

        inside : (j : ℕ) → In j (s ∷ (slots u ++ slots w)) → In j (slots (node i (on_side side u w) (on_side side w u)))
        inside j h = in-perm (s ∷ (slots u ++ slots w)) (slots (node i (on_side side u w) (on_side side w u))) (Permᴰ.symm all-perm) j h

        first : (j : ℕ) → In j (new ∷ slots u) → In j (new ∷ slots (node i (on_side side u w) (on_side side w u)))
        first j (inl e) = inl e
        first j (inr h) = inr (inside j (inr (in_left j (slots u) (slots w) h)))

        second : (v : Tree) → v ≡ insert (suc c) (item_in K ks new) u → (j : ℕ) → In j (s ∷ (slots v ++ slots w)) → In j (new ∷ slots (node i (on_side side u w) (on_side side w u)))
        second v e j (inl q) = inr (inside j (inl q))
        second v e j (inr h) = ⊎_elim (λ k. first j (grown-in (suc c) (item_in K ks new) u j (rw e at k))) (λ k. inr (inside j (inr (in_right j (slots u) (slots w) k)))) (in-cases j (slots v) (slots w) h)

        mended-frame : Frame K ks ks ls ls₂ (new ∷ slots (node i (on_side side u w) (on_side side w u)))
        mended-frame =
            let v : Tree = insert (suc c) (item_in K ks new) u in
            frame-trans K ks ks ks ls ls₁ ls₂ (new ∷ slots u) (slots (on_side side v w) ++ (s ∷ slots (on_side side w v))) (a.frame u there) (m.frame v w (grown c (cut-here K c low)) other) (new ∷ slots (node i (on_side side u w) (on_side side w u))) first
            (λ j h. second v refl j (in-perm (slots (on_side side v w) ++ (s ∷ slots (on_side side w v))) (s ∷ (slots v ++ slots w)) (sided-perm side s v w) j h))

  module _ (some : 0 < s) where
    parts : (v : Tree) → Rep K ks ls s v → Sided side v
    parts v q = let n : Node K ks ls s v = open-node K ks ls s v q (λ e. omega arith) in subst (Sided side) (sym n.is) (sided side n.item n.l n.r)

    apart : (v : Tree) (q : Rep K ks ls s v) → Rep K ks ls s (node (parts v q).item (on_side side (parts v q).there (parts v q).other) (on_side side (parts v q).other (parts v q).there))
    apart v q = subst (Rep K ks ls s) (parts v q).is q

    mine : Halves K ks ls s side (parts g.tree g.rep).item (parts g.tree g.rep).there (parts g.tree g.rep).other
    mine = half (parts g.tree g.rep).item (parts g.tree g.rep).there (parts g.tree g.rep).other (apart g.tree g.rep)

    pub slot-here : Slot (length ls) s
    slot-here = mine.slot

    pub child-falls : {l : ℕ} → l ≡ child_at ls s side → 2 * tall ls l + 1 < 2 * tall ls s
    child-falls {l} e = let h : tall ls l < tall ls s = rw e mine.falls in omega arith

    pub child-insertable : {l : ℕ} → l ≡ child_at ls s side → Insertable K ks ls l new
    child-insertable {l} e = record { tree = (parts g.tree g.rep).there; rep = rw e mine.there-rep; leaf = g.leaf; once = once-new (parts g.tree g.rep).item (parts g.tree g.rep).there (parts g.tree g.rep).other (apart g.tree g.rep) }

    module _ {c' : ℕ} (deep : Deeper K c c') {l : ℕ} (el : l ≡ child_at ls s side) {ls₁ : List ℕ} (e₁ : length ls₁ ≡ length ls) {x₁ : ℕ} (a : Inserted K ks ls ls₁ c' l new x₁) where
      pub mendable-on : MendableOn K ks ls₁ s side x₁
      mendable-on = mendable-at (parts g.tree g.rep).item (parts g.tree g.rep).there (parts g.tree g.rep).other (apart g.tree g.rep) c' deep l el ls₁ e₁ x₁ a

      pub inserted-on : {ls₂ : List ℕ} {x₂ : ℕ} → MendedOn K ks ls₁ ls₂ c s side x₁ x₂ → InsertedOn K ks ls ls₂ c s side new x₂
      inserted-on {ls₂} {x₂} m = record {
        rep = λ t h i u w p. mended-rep i u w p c' deep l el ls₁ e₁ x₁ a ls₂ x₂ m t h;
        frame = λ v q. subst (λ (y : Tree). Frame K ks ks ls ls₂ (new ∷ slots y)) (sym (parts v q).is) (mended-frame (parts v q).item (parts v q).there (parts v q).other (apart v q) c' deep l el ls₁ e₁ x₁ a ls₂ x₂ m);
      }

-- ---- `insert`

pub table-slot : {S : Shape} {nk nl s : ℕ} → Room S nk nl → Slot nl s → (s ≤ 4096) × Keyed S.k nk s
table-slot {S} {nk} {nl} {s} room h =
    let a : 3 * s ≤ nl = h.fits in
    let b = room.long in
    let d = room.c_high in
    let e = h.some in
    (omega arith, keyed-in S nk nl s room (λ q. omega arith) (omega arith))

pub inserted-nil : {K : ℕ} {ks : List ℤ} {ls : List ℕ} {c s new : ℕ} → s ≡ 0 → Insertable K ks ls s new → Inserted K ks ls ls c s new new
unfolding insert
inserted-nil {K} {ks} {ls} {c} {s} {new} e g = record { rep = λ t h u a. rw (open-nil K ks ls s u a e) g.leaf; frame = λ u a. frame_self K ks ls (new ∷ slots u) }

named-less : (q : Ordering) → Less ≡ named q → q ≡ Ordering.lt
named-less Ordering.lt e = refl
named-less Ordering.eq e = cc
named-less Ordering.gt e = cc

named-equal : (q : Ordering) → Equal ≡ named q → q ≡ Ordering.eq
named-equal Ordering.lt e = cc
named-equal Ordering.eq e = refl
named-equal Ordering.gt e = cc

named-greater : (q : Ordering) → Greater ≡ named q → q ≡ Ordering.gt
named-greater Ordering.lt e = cc
named-greater Ordering.eq e = cc
named-greater Ordering.gt e = refl

insert-less : (t : ℕ) (i j : Item) (l r : Tree) → cmp t i.entry j.entry ≡ Ordering.lt → insert t i (node j l r) ≡ mend t j (insert (suc t) i l) r
unfolding insert
insert-less t i j l r e = rw (e, insert) refl

insert-equal : (t : ℕ) (i j : Item) (l r : Tree) → cmp t i.entry j.entry ≡ Ordering.eq → insert t i (node j l r) ≡ node j l r
unfolding insert
insert-equal t i j l r e = rw (e, insert) refl

insert-greater : (t : ℕ) (i j : Item) (l r : Tree) → cmp t i.entry j.entry ≡ Ordering.gt → insert t i (node j l r) ≡ mend t j l (insert (suc t) i r)
unfolding insert
insert-greater t i j l r e = rw (e, insert) refl

module _ {K : ℕ} {ks : List ℤ} {ls : List ℕ} {c s new : ℕ} (ne : ¬ (s ≡ 0)) {o : Order} (told : SlotsCompared K ks new s c o) where
  compared : (q : Order) → o ≡ q → (t : ℕ) → cut_field K t ≡ c → (v : Tree) (n : Node K ks ls s v) → q ≡ named (cmp t (numbers_of K ks new) n.item.entry)
  compared q e t h v n = sym e ∙ told.at t h ∙ ap (λ (y : List ℤ). named (cmp t (numbers_of K ks new) y)) n.entry

  pub inserted-less : {ls' : List ℕ} {x : ℕ} → o ≡ Less → InsertedOn K ks ls ls' c s Left new x → Inserted K ks ls ls' c s new x
  inserted-less {ls'} {x} e m = record { rep = reps; frame = m.frame }
    where
      reps : (t : ℕ) → cut_field K t ≡ c → (v : Tree) → Rep K ks ls s v → Rep K ks ls' x (insert t (item_in K ks new) v)
      reps t h v q =
          let n : Node K ks ls s v = open-node K ks ls s v q ne in
          let is : insert t (item_in K ks new) v ≡ mend t n.item (insert (suc t) (item_in K ks new) n.l) n.r = ap (insert t (item_in K ks new)) n.is ∙ insert-less t (item_in K ks new) n.item n.l n.r (named-less (cmp t (numbers_of K ks new) n.item.entry) (compared Less e t h v n)) in
          subst (Rep K ks ls' x) (sym is) (m.rep t h n.item n.l n.r (subst (Rep K ks ls s) n.is q))

  pub inserted-equal : o ≡ Equal → Inserted K ks ls ls c s new s
  inserted-equal e = record { rep = reps; frame = λ v q. frame_self K ks ls (new ∷ slots v) }
    where
      reps : (t : ℕ) → cut_field K t ≡ c → (v : Tree) → Rep K ks ls s v → Rep K ks ls s (insert t (item_in K ks new) v)
      reps t h v q =
          let n : Node K ks ls s v = open-node K ks ls s v q ne in
          let is : insert t (item_in K ks new) v ≡ v = ap (insert t (item_in K ks new)) n.is ∙ insert-equal t (item_in K ks new) n.item n.l n.r (named-equal (cmp t (numbers_of K ks new) n.item.entry) (compared Equal e t h v n)) ∙ sym n.is in
          subst (Rep K ks ls s) (sym is) q

  pub inserted-greater : {ls' : List ℕ} {x : ℕ} → o ≡ Greater → InsertedOn K ks ls ls' c s Right new x → Inserted K ks ls ls' c s new x
  inserted-greater {ls'} {x} e m = record { rep = reps; frame = m.frame }
    where
      reps : (t : ℕ) → cut_field K t ≡ c → (v : Tree) → Rep K ks ls s v → Rep K ks ls' x (insert t (item_in K ks new) v)
      reps t h v q =
          let n : Node K ks ls s v = open-node K ks ls s v q ne in
          let is : insert t (item_in K ks new) v ≡ mend t n.item n.l (insert (suc t) (item_in K ks new) n.r) = ap (insert t (item_in K ks new)) n.is ∙ insert-greater t (item_in K ks new) n.item n.l n.r (named-greater (cmp t (numbers_of K ks new) n.item.entry) (compared Greater e t h v n)) in
          subst (Rep K ks ls' x) (sym is) (m.rep t h n.item n.r n.l (subst (Rep K ks ls s) n.is q))
