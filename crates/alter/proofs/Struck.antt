-- The tree on a side of a node is struck and the node mended: which slots are left, what lies where, and what stays.
use mathlib.Core.Path.{◌≡◌, refl, subst, ◌∙◌}
use mathlib.Core.Logic.{inl, inr, ⊎_elim}
use mathlib.Core.Bool.{true}
use mathlib.Core.List.Permᴰ
use mathlib.Core.List.{List, [], ◌∷◌, ◌++◌}
use Prim.Native.Nat.{ℕ, suc, ◌≤◌, ◌<◌}
use native.Mathlib.Omega.{arith}
use lib.ListN.{length}
use lib.IntN.{ℤ}
use Rattle.model.specs.Entry.{Entry, cut_field}
use Rattle.model.specs.Tree.{Item, Tree, nil, node, height, items, ordered}
use Rattle.model.specs.Add.{mend}
use Rattle.model.specs.Strike.{strike, left, right, Side as Way}
use Rattle.model.proofs.Adds.{mend-perm}
use Rattle.model.proofs.Crowd.{PermS}
use Rattle.model.proofs.Lists.{Every, OnceEach, once-perm, once-split, once_join}
use Rattle.model.proofs.Sides.{side_of, on_side as checked}
use Rattle.model.proofs.Strikes.{slots, slots-append, slots-perm, strike-by}
use Rattle.cells.specs.Orders.{Deeper}
use Rattle.cells.specs.Slots.{height_at, tall, numbers_of, Slot}
use Rattle.cells.specs.Memory.{Rep, In, Same, Frame}
use Rattle.cells.proofs.Slots.{tall-slot}
use Rattle.cells.proofs.Reps.{tall-rep, unique, in_left, in_right, in-cases, in-node, rep-frame, frame-trans}
use Rattle.build.proofs.Shapes.{every_in, in-perm}
use Rattle.mend.specs.Mends.{MendableOn, MendedOn}
use Rattle.mend.proofs.Sided.{child-same}
use Rattle.seek.specs.Sides.{item_in, child_at, other_of, on_side}
use Rattle.alter.specs.Strikes.{Strikable, StrikableOn, StruckOut, StruckOn}
use Rattle.seek.specs.declared.side.Side.{Side}
use Rattle.seek.specs.declared.side.Side.TheVariants.{Left, Right}
use Rattle.alter.specs.declared.strike.Struck.{Struck}

-- ---- slots that are left

pub every_of : (P : ℕ → Type 0) (xs : List ℕ) → ((j : ℕ) → In j xs → P j) → Every P xs
every_of P [] f = tt
every_of P (x ∷ xs) f = (f x (inl refl), every_of P xs (λ j h. f j (inr h)))

-- all of a are in b, and none is twice in a that is not twice in b
pub record Fewer (a b : List ℕ) : Type 0 where
  pub within : (j : ℕ) → In j a → In j b
  pub once : OnceEach b → OnceEach a

fewer-none : (b : List ℕ) → Fewer [] b
fewer-none b = record { within = λ j h. absurd h; once = λ o. tt }

fewer-self : (a : List ℕ) → Fewer a a
fewer-self a = record { within = λ j h. h; once = λ o. o }

fewer-trans : (a b c : List ℕ) → Fewer a b → Fewer b c → Fewer a c
fewer-trans a b c f g = record { within = λ j h. g.within j (f.within j h); once = λ o. f.once (g.once o) }

fewer-perm : (a b : List ℕ) → PermS a b → Fewer a b
fewer-perm a b p = record { within = in-perm a b p; once = once-perm (Permᴰ.symm p) }

fewer-join : (a a' b b' : List ℕ) → Fewer a a' → Fewer b b' → Fewer (a ++ b) (a' ++ b')
fewer-join a a' b b' f g = record { within = within; once = once }
  where
    within : (j : ℕ) → In j (a ++ b) → In j (a' ++ b')
    within j h = ⊎_elim (λ i. in_left j a' b' (f.within j i)) (λ i. in_right j a' b' (g.within j i)) (in-cases j a b h)

    once : OnceEach (a' ++ b') → OnceEach (a ++ b)
    once o =
        let p = once-split a' b' o in
        once_join a b (f.once p.0) (g.once p.1)
        (every_of (λ x. Every (λ y. ¬ (x ≡ y)) b) a (λ j i. every_of (λ y. ¬ (j ≡ y)) b (λ k h. every_in (λ y. ¬ (j ≡ y)) b' (every_in (λ x. Every (λ y. ¬ (x ≡ y)) b') a' p.2 j (f.within j i)) k (g.within k h))))

fewer-around : (a a' b b' : List ℕ) (s : ℕ) → Fewer a a' → Fewer b b' → Fewer (a ++ (s ∷ b)) (a' ++ (s ∷ b'))
fewer-around a a' b b' s f g = fewer-join a a' (s ∷ b) (s ∷ b') f (fewer-join (s ∷ []) (s ∷ []) b b' (fewer-self (s ∷ [])) g)

mend-fewer : (t : ℕ) (j : Item) (l r l' r' : Tree) → Fewer (slots l) (slots l') → Fewer (slots r) (slots r') → Fewer (slots (mend t j l r)) (slots l' ++ (j.slot ∷ slots r'))
mend-fewer t j l r l' r' f g =
    let p : PermS (slots (mend t j l r)) (slots l ++ (j.slot ∷ slots r)) = rw (slots-append (items l) (j ∷ items r)) at (slots-perm (mend-perm t j l r)) in
    fewer-trans (slots (mend t j l r)) (slots l ++ (j.slot ∷ slots r)) (slots l' ++ (j.slot ∷ slots r')) (fewer-perm _ _ p) (fewer-around (slots l) (slots l') (slots r) (slots r') j.slot f g)

-- a strike leaves no slot that was not there, whether the entry was there or not
pub strike-fewer : (t : ℕ) (k : Entry) (u : Tree) → Fewer (slots (strike t k u)) (slots u)
unfolding strike
strike-fewer t k nil = fewer-none []
strike-fewer t k (node i l r) =
    strike-by (λ w f. Fewer (slots w) (slots (node i l r))) t k i l r
    (λ s c. on s i k refl (strike-fewer (suc t) k l) (strike-fewer (suc t) k r))
    (λ c x y. fewer-none (slots (node i l r)))
    (λ c s e m g. on s (record { slot = i.slot; entry = e }) e refl (strike-fewer (suc t) e l) (strike-fewer (suc t) e r))
  where
    on : (s : Way) (j : Item) (e : Entry) → j.slot ≡ i.slot → Fewer (slots (strike (suc t) e l)) (slots l) → Fewer (slots (strike (suc t) e r)) (slots r) → Fewer (slots (checked s t j l r (strike (suc t) e (side_of s l r)))) (slots (node i l r))
    on left j e q a b = rw (slots-append (items l) (i ∷ items r), ← q) (mend-fewer t j (strike (suc t) e l) r l r a (fewer-self (slots r)))
    on right j e q a b = rw (slots-append (items l) (i ∷ items r), ← q) (mend-fewer t j l (strike (suc t) e r) l r (fewer-self (slots l)) b)

-- ---- a node, the tree u on a side of it and w on the other

pub record Sided (K : ℕ) (ks : List ℤ) (ls : List ℕ) (s : ℕ) (side : Side) (i : Item) (u w : Tree) : Type 0 where
  pub here : s ≡ i.slot
  pub slot : Slot (length ls) s
  pub entry : numbers_of K ks s ≡ i.entry
  pub higher : height u < height_at ls s
  pub near : Rep K ks ls (child_at ls s side) u
  pub far : Rep K ks ls (child_at ls s (other_of side)) w

pub sided : (K : ℕ) (ks : List ℤ) (ls : List ℕ) (s : ℕ) (side : Side) (i : Item) (u w : Tree) → Rep K ks ls s (node i (on_side side u w) (on_side side w u)) → Sided K ks ls s side i u w
sided K ks ls s Left i u w p = record { here = p.0; slot = rw p.0 p.1; entry = rw p.0 p.2; higher = rw (p.0, p.3) (omega arith); near = rw p.0 p.4; far = rw p.0 p.5 }
sided K ks ls s Right i u w p = record { here = p.0; slot = rw p.0 p.1; entry = rw p.0 p.2; higher = rw (p.0, p.3) (omega arith); near = rw p.0 p.5; far = rw p.0 p.4 }

-- no slot is there twice
pub record Apart (s : ℕ) (u w : Tree) : Type 0 where
  pub once : OnceEach (slots u)
  pub clear : (j : ℕ) → In j (slots w) → ¬ (In j (slots u))
  pub not-near : ¬ (In s (slots u))
  pub not-far : ¬ (In s (slots w))

pub lists-apart : (a : List ℕ) (s : ℕ) (b : List ℕ) → OnceEach (a ++ (s ∷ b)) → (OnceEach a × OnceEach b) × (((j : ℕ) → In j a → ¬ (In j b)) × ((¬ (In s a)) × (¬ (In s b))))
lists-apart a s b o =
    let p = once-split a (s ∷ b) o in
    let off : (j : ℕ) → In j a → Every (λ y. ¬ (j ≡ y)) (s ∷ b) = λ j i. every_in (λ x. Every (λ y. ¬ (x ≡ y)) (s ∷ b)) a p.2 j i in
    ((p.0, p.1.1), ((λ j i h. every_in (λ y. ¬ (j ≡ y)) b (off j i).1 j h refl), ((λ i. (off s i).0 refl), (λ i. every_in (λ y. ¬ (s ≡ y)) b p.1.0 s i refl))))

pub apart : (side : Side) (i : Item) (u w : Tree) → OnceEach (slots (node i (on_side side u w) (on_side side w u))) → Apart i.slot u w
apart Left i u w o =
    let p = lists-apart (slots u) i.slot (slots w) (rw (slots-append (items u) (i ∷ items w)) at o) in
    record { once = p.0.0; clear = λ j h k. p.1.0 j k h; not-near = p.1.1.0; not-far = p.1.1.1 }
apart Right i u w o =
    let p = lists-apart (slots w) i.slot (slots u) (rw (slots-append (items w) (i ∷ items u)) at o) in
    record { once = p.0.1; clear = λ j h k. p.1.0 j h k; not-near = p.1.1.1; not-far = p.1.1.0 }

pub near-in : (side : Side) (i : Item) (u w : Tree) (j : ℕ) → In j (slots u) → In j (slots (node i (on_side side u w) (on_side side w u)))
near-in Left i u w j h = in-node j i u w (inl h)
near-in Right i u w j h = in-node j i w u (inr (inr h))

-- the node with the tree on that side changed
sided-fewer : (side : Side) (i : Item) (u u' w : Tree) → Fewer (slots u') (slots u) → Fewer (slots (on_side side u' w) ++ (i.slot ∷ slots (on_side side w u'))) (slots (node i (on_side side u w) (on_side side w u)))
sided-fewer Left i u u' w f = rw (slots-append (items u) (i ∷ items w)) (fewer-around (slots u') (slots u) (slots w) (slots w) i.slot f (fewer-self (slots w)))
sided-fewer Right i u u' w f = rw (slots-append (items w) (i ∷ items u)) (fewer-around (slots w) (slots w) (slots u') (slots u) i.slot (fewer-self (slots w)) f)

-- ---- before the strike of a side

module _ {K : ℕ} {ks : List ℤ} {ls : List ℕ} {s c : ℕ} {side : Side} (g : StrikableOn K ks ls s c side) where
  pub on-parts : Sided K ks ls s side g.item g.there g.other
  on-parts = sided K ks ls s side g.item g.there g.other g.rep

  pub side-falls : {child : ℕ} → child ≡ child_at ls s side → tall ls child < tall ls s
  side-falls {child} q =
      let p = on-parts in
      let a : tall ls child ≡ height g.there = rw q (tall-rep K ks ls (child_at ls s side) g.there p.near) in
      let k : 1 ≤ s = p.slot.some in
      let b : tall ls s ≡ height_at ls s = tall-slot ls s (λ e. omega arith) in
      let h = p.higher in
      omega arith

  pub side-strikable : {child c' : ℕ} → child ≡ child_at ls s side → Deeper K c c' → Strikable K ks ls child c'
  side-strikable {child} {c'} q d = record {
    tree = g.there;
    stands = record { depth = suc g.depth; cut = d.at g.depth g.cut; rep = rw q on-parts.near; in_order = g.in_order };
    once = (apart side g.item g.there g.other g.once).once;
  }

-- ---- after it, and after the node was mended

module _ (K : ℕ) (ks ks' : List ℤ) (ls ls' : List ℕ) (s c c' child : ℕ) (side : Side) (e : Entry) (x : Struck) (n : length ls' ≡ length ls) (d : Deeper K c c') (q : child ≡ child_at ls s side) (st : StruckOut K ks ks' ls ls' c' child e x) where
  module _ (t : ℕ) (ct : cut_field K t ≡ c) (i : Item) (u w : Tree) (p : Rep K ks ls s (node i (on_side side u w) (on_side side w u))) (o : ordered (suc t) u ≡ true) (one : OnceEach (slots (node i (on_side side u w) (on_side side w u)))) where
    off : Apart i.slot u w
    off = apart side i u w one

    at-node : Sided K ks ls s side i u w
    at-node = sided K ks ls s side i u w p

    near-there : Rep K ks ls child u
    near-there = rw q at-node.near

    stays : Same K ks ks' ls ls' s
    stays = st.frame u near-there s at-node.slot.some (λ h. off.not-near (rw at-node.here at h))

    struck-there : Rep K ks' ls' x.root (strike (suc t) e u)
    struck-there = st.rep (suc t) (d.at t ct) u near-there o

    far-there : Rep K ks' ls' (child_at ls' s (other_of side)) w
    far-there = rw (child-same K ks ks' ls ls' s (other_of side) stays) (rep-frame K ks ks' ls ls' (slots u) n (st.frame u near-there) (child_at ls s (other_of side)) w off.clear at-node.far)

    few : Fewer (slots (on_side side (strike (suc t) e u) w) ++ (i.slot ∷ slots (on_side side w (strike (suc t) e u)))) (slots (node i (on_side side u w) (on_side side w u)))
    few = sided-fewer side i u (strike (suc t) e u) w (strike-fewer (suc t) e u)

    mendable : MendableOn K ks' ls' s side x.root
    mendable = record {
      new = strike (suc t) e u;
      old = w;
      child_rep = struck-there;
      other_rep = far-there;
      here = rw n at-node.slot;
      once = rw at-node.here (few.once one);
    }

    same_item : item_in K ks' s ≡ i
    same_item = λ y. record { slot = at-node.here y; entry = (stays.numbers ∙ at-node.entry) y }

    module _ (ls'' : List ℕ) (root : ℕ) (m : MendedOn K ks' ls' ls'' c s side x.root root) where
      mended-rep : Rep K ks' ls'' root (mend t i (on_side side (strike (suc t) e u) w) (on_side side w (strike (suc t) e u)))
      mended-rep = subst (λ (j : Item). Rep K ks' ls'' root (mend t j (on_side side (strike (suc t) e u) w) (on_side side w (strike (suc t) e u)))) same_item (m.rep t ct (strike (suc t) e u) w struck-there far-there)

      mended-frame : Frame K ks ks' ls ls'' (slots (node i (on_side side u w) (on_side side w u)))
      mended-frame =
          frame-trans K ks ks' ks' ls ls' ls'' (slots u) (slots (on_side side (strike (suc t) e u) w) ++ (s ∷ slots (on_side side w (strike (suc t) e u)))) (st.frame u near-there) (m.frame (strike (suc t) e u) w struck-there far-there) (slots (node i (on_side side u w) (on_side side w u)))
          (near-in side i u w)
          (λ j h. few.within j (rw at-node.here at h))

  module _ (g : StrikableOn K ks ls s c side) where
    pub side-mendable : MendableOn K ks' ls' s side x.root
    side-mendable = mendable g.depth g.cut g.item g.there g.other g.rep g.in_order g.once

    -- one tree lies at s, so that what is known of it holds of any
    once-any : (u : Tree) → Rep K ks ls s u → OnceEach (slots u)
    once-any u p = subst (λ (v : Tree). OnceEach (slots v)) (unique K ks ls s (node g.item (on_side side g.there g.other) (on_side side g.other g.there)) u g.rep p) g.once

    pub struck-on : {ls'' : List ℕ} {root : ℕ} → MendedOn K ks' ls' ls'' c s side x.root root → StruckOn K ks ks' ls ls'' c s side e (record { root = root; freed = x.freed })
    struck-on {ls''} {root} m = record {
      rep = λ t ct i u w p o. mended-rep t ct i u w p o (once-any (node i (on_side side u w) (on_side side w u)) p) ls'' root m;
      gone = λ t ct i u w p o. st.gone (suc t) (d.at t ct) u (rw q (sided K ks ls s side i u w p).near) o;
      frame = λ u p. subst (λ (v : Tree). Frame K ks ks' ls ls'' (slots v)) (unique K ks ls s (node g.item (on_side side g.there g.other) (on_side side g.other g.there)) u g.rep p) (mended-frame g.depth g.cut g.item g.there g.other g.rep g.in_order g.once ls'' root m);
    }
