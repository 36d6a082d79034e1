-- What striking keeps and takes away: exactly the entry, and exactly one slot.
use mathlib.Core.Path.{◌≡◌, refl, sym, ap}
use mathlib.Core.List.Permᴰ
use mathlib.Core.List.{List, [], ◌∷◌, ◌++◌, Permᴰ}
use Prim.Native.Nat.{ℕ, suc, Ordering}
use Rattle.model.specs.Add.{mend}
use Rattle.model.specs.Entry.{Entry, cmp}
use Rattle.model.specs.Strike.{Heir, Side, freed, from, leaf, left, moved, right, strike}
use Rattle.model.specs.Tree.{Item, Tree, entries_of, items, nil, node, slots_of}
use Rattle.model.proofs.Adds.{mend-perm, ordered-distinct}
use Rattle.model.proofs.Crowd.{PermS}
use Rattle.model.proofs.Lists.{Every, OnceEach, every-perm, once-perm}
use Rattle.model.proofs.Orders.{cmp-eq}
use Rattle.model.proofs.Ranks.{Distinct, Perm, Unlike, all-items, gt→lt, items-all}
use Rattle.model.proofs.Sides.{Before, NotPast, There, before-trans, before-turn, heir-by, not_past-before, on_both, on_side, ordered-side, other, side-balanced, side-ordered, side_of, there-side}
use Rattle.model.proofs.Trees.{All, AllL, Balanced, Ordered, all_both, all-map_t}

-- the struck tree and the slot given up, from the three ways of a strike
pub strike-by : (P : Tree → ℕ → Type 0) (t : ℕ) (k : Entry) (i : Item) (l r : Tree)
    → ((s : Side) → Before s t k i.entry → P (on_side s t i l r (strike (suc t) k (side_of s l r))) (freed (suc t) k (side_of s l r)))
    → (k ≡ i.entry → l ≡ nil → r ≡ nil → P nil i.slot)
    → (k ≡ i.entry → (s : Side) (e : Entry) → There e (side_of s l r) → All (λ x. NotPast s t x e) (side_of s l r) → P (on_side s t (moved i e) l r (strike (suc t) e (side_of s l r))) (freed (suc t) e (side_of s l r)))
    → P (strike t k (node i l r)) (freed t k (node i l r))
unfolding strike freed
strike-by P t k i l r a b c = go (cmp t k i.entry) refl
  where
    sided : Entry → Side → Tree
    sided e s = elim s [ left ↦ mend t (moved i e) (strike (suc t) e l) r | right ↦ mend t (moved i e) l (strike (suc t) e r) ]

    tree : Heir → Tree
    tree leaf = nil
    tree (from s e) = sided e s

    given : Entry → Side → ℕ
    given e s = elim s [ left ↦ freed (suc t) e l | right ↦ freed (suc t) e r ]

    slot : Heir → ℕ
    slot leaf = i.slot
    slot (from s e) = given e s

    heirs : k ≡ i.entry → (s : Side) (e : Entry) → There e (side_of s l r) → All (λ x. NotPast s t x e) (side_of s l r) → P (sided e s) (given e s)
    heirs q left e m g = c q left e m g
    heirs q right e m g = c q right e m g

    go : (o : Ordering) → cmp t k i.entry ≡ o → P (strike t k (node i l r)) (freed t k (node i l r))
    go Ordering.lt e = rw (e, strike, freed) (a left e)
    go Ordering.gt e = rw (e, strike, freed) (a right (gt→lt t k i.entry e))
    go Ordering.eq e = rw (e, strike, freed) (heir-by (λ h. P (tree h) (slot h)) t l r (b (cmp-eq t k i.entry e)) (heirs (cmp-eq t k i.entry e)))

pub strike-balanced : (t : ℕ) (k : Entry) (u : Tree) → Balanced u → Balanced (strike t k u)
unfolding strike
strike-balanced t k nil h = tt
strike-balanced t k (node i l r) (n, a, b) =
    strike-by (λ u f. Balanced u) t k i l r
    (λ s c. side-balanced s t i l r (strike (suc t) k (side_of s l r)) (on_both (λ u. Balanced (strike (suc t) k u)) s l r (strike-balanced (suc t) k l a) (strike-balanced (suc t) k r b)) (on_both Balanced (other s) l r a b))
    (λ c p q. tt)
    (λ c s e m g. side-balanced s t (moved i e) l r (strike (suc t) e (side_of s l r)) (on_both (λ u. Balanced (strike (suc t) e u)) s l r (strike-balanced (suc t) e l a) (strike-balanced (suc t) e r b)) (on_both Balanced (other s) l r a b))

-- lists of entries, of slots
abbrev pub PermE : List Entry → List Entry → Type 0
PermE a b = Permᴰ a b

pub entries-append : (a b : List Item) → entries_of (a ++ b) ≡ entries_of a ++ entries_of b
entries-append [] b = refl
entries-append (i ∷ a) b = ap (λ x. i.entry ∷ x) (entries-append a b)

pub entries-perm : {a b : List Item} → Perm a b → PermE (entries_of a) (entries_of b)
entries-perm Permᴰ.nil = Permᴰ.nil
entries-perm (Permᴰ.cons e p) = Permᴰ.cons (ap (λ x. x.entry) e) (entries-perm p)
entries-perm (Permᴰ.swap e f) = Permᴰ.swap (ap (λ x. x.entry) e) (ap (λ x. x.entry) f)
entries-perm (Permᴰ.trans p q) = Permᴰ.trans (entries-perm p) (entries-perm q)

pub slots-append : (a b : List Item) → slots_of (a ++ b) ≡ slots_of a ++ slots_of b
slots-append [] b = refl
slots-append (i ∷ a) b = ap (λ x. i.slot ∷ x) (slots-append a b)

pub slots-perm : {a b : List Item} → Perm a b → PermS (slots_of a) (slots_of b)
slots-perm Permᴰ.nil = Permᴰ.nil
slots-perm (Permᴰ.cons e p) = Permᴰ.cons (ap (λ x. x.slot) e) (slots-perm p)
slots-perm (Permᴰ.swap e f) = Permᴰ.swap (ap (λ x. x.slot) e) (ap (λ x. x.slot) f)
slots-perm (Permᴰ.trans p q) = Permᴰ.trans (slots-perm p) (slots-perm q)

abbrev pub entries : Tree → List Entry
entries u = entries_of (items u)

abbrev pub slots : Tree → List ℕ
slots u = slots_of (items u)

-- a node's items, the side s first; and those of a node with that side changed
node-items : (s : Side) (i : Item) (l r : Tree) → Perm (items (node i l r)) (i ∷ (items (side_of s l r) ++ items (side_of (other s) l r)))
node-items left i l r = Permᴰ.middle i (items l) (items r)
node-items right i l r = Permᴰ.trans (Permᴰ.middle i (items l) (items r)) (Permᴰ.cons refl (Permᴰ.append_comm (items l) (items r)))

side-items : (s : Side) (t : ℕ) (j : Item) (l r u : Tree) → Perm (items (on_side s t j l r u)) (j ∷ (items u ++ items (side_of (other s) l r)))
side-items left t j l r u = Permᴰ.trans (mend-perm t j u r) (Permᴰ.middle j (items u) (items r))
side-items right t j l r u = Permᴰ.trans (mend-perm t j l u) (node-items right j l u)

node-entries : (s : Side) (i : Item) (l r : Tree) → PermE (entries (node i l r)) (i.entry ∷ (entries (side_of s l r) ++ entries (side_of (other s) l r)))
node-entries s i l r = rw (entries-append (items (side_of s l r)) (items (side_of (other s) l r))) at (entries-perm (node-items s i l r))

side-entries : (s : Side) (t : ℕ) (j : Item) (l r u : Tree) → PermE (entries (on_side s t j l r u)) (j.entry ∷ (entries u ++ entries (side_of (other s) l r)))
side-entries s t j l r u = rw (entries-append (items u) (items (side_of (other s) l r))) at (entries-perm (side-items s t j l r u))

node-slots : (s : Side) (i : Item) (l r : Tree) → PermS (slots (node i l r)) (i.slot ∷ (slots (side_of s l r) ++ slots (side_of (other s) l r)))
node-slots s i l r = rw (slots-append (items (side_of s l r)) (items (side_of (other s) l r))) at (slots-perm (node-items s i l r))

side-slots : (s : Side) (t : ℕ) (j : Item) (l r u : Tree) → PermS (slots (on_side s t j l r u)) (j.slot ∷ (slots u ++ slots (side_of (other s) l r)))
side-slots s t j l r u = rw (slots-append (items u) (items (side_of (other s) l r))) at (slots-perm (side-items s t j l r u))

-- what goes from a side goes from the node; what takes the node's place takes it from the side
module _ {A : Type 0} where
  goes : (x k : A) (S S' O : List A) {N W : List A} → Permᴰ N (x ∷ (S ++ O)) → Permᴰ S (k ∷ S') → Permᴰ W (x ∷ (S' ++ O)) → Permᴰ N (k ∷ W)
  goes x k S S' O a b c = Permᴰ.trans a (Permᴰ.trans (Permᴰ.cons refl (Permᴰ.append_right O b)) (Permᴰ.trans (Permᴰ.swap refl refl) (Permᴰ.cons refl (Permᴰ.symm c))))

  takes : (x k : A) (S S' O : List A) {N W : List A} → Permᴰ N (x ∷ (S ++ O)) → Permᴰ S (k ∷ S') → Permᴰ W (k ∷ (S' ++ O)) → Permᴰ N (x ∷ W)
  takes x k S S' O a b c = Permᴰ.trans a (Permᴰ.cons refl (Permᴰ.trans (Permᴰ.append_right O b) (Permᴰ.symm c)))

-- exactly the entry goes
pub strike-entries : (t : ℕ) (k : Entry) (u : Tree) → Ordered t u → There k u → PermE (entries u) (k ∷ entries (strike t k u))
strike-entries t k nil o h = absurd (h tt)
strike-entries t k (node i l r) o h =
    strike-by (λ w f. PermE (entries (node i l r)) (k ∷ entries w)) t k i l r
    (λ s c. goes i.entry k (entries (side_of s l r)) (entries (strike (suc t) k (side_of s l r))) (entries (side_of (other s) l r)) (node-entries s i l r) (on_both (λ u. Ordered (suc t) u → There k u → PermE (entries u) (k ∷ entries (strike (suc t) k u))) s l r (strike-entries (suc t) k l) (strike-entries (suc t) k r) (ordered-side s t i l r o).1 (there-side s t k i l r o h c)) (side-entries s t i l r (strike (suc t) k (side_of s l r))))
    (λ c x y. rw (c, x, y) (Permᴰ.refl _))
    (λ c s e m g. rw c (takes i.entry e (entries (side_of s l r)) (entries (strike (suc t) e (side_of s l r))) (entries (side_of (other s) l r)) (node-entries s i l r) (on_both (λ u. Ordered (suc t) u → There e u → PermE (entries u) (e ∷ entries (strike (suc t) e u))) s l r (strike-entries (suc t) e l) (strike-entries (suc t) e r) (ordered-side s t i l r o).1 m) (side-entries s t (moved i e) l r (strike (suc t) e (side_of s l r)))))

-- exactly the slot given up goes
pub strike-slots : (t : ℕ) (k : Entry) (u : Tree) → Ordered t u → There k u → PermS (slots u) (freed t k u ∷ slots (strike t k u))
strike-slots t k nil o h = absurd (h tt)
strike-slots t k (node i l r) o h =
    strike-by (λ w f. PermS (slots (node i l r)) (f ∷ slots w)) t k i l r
    (λ s c. goes i.slot (freed (suc t) k (side_of s l r)) (slots (side_of s l r)) (slots (strike (suc t) k (side_of s l r))) (slots (side_of (other s) l r)) (node-slots s i l r) (on_both (λ u. Ordered (suc t) u → There k u → PermS (slots u) (freed (suc t) k u ∷ slots (strike (suc t) k u))) s l r (strike-slots (suc t) k l) (strike-slots (suc t) k r) (ordered-side s t i l r o).1 (there-side s t k i l r o h c)) (side-slots s t i l r (strike (suc t) k (side_of s l r))))
    (λ c x y. rw (x, y) (Permᴰ.refl _))
    (λ c s e m g. goes i.slot (freed (suc t) e (side_of s l r)) (slots (side_of s l r)) (slots (strike (suc t) e (side_of s l r))) (slots (side_of (other s) l r)) (node-slots s i l r) (on_both (λ u. Ordered (suc t) u → There e u → PermS (slots u) (freed (suc t) e u ∷ slots (strike (suc t) e u))) s l r (strike-slots (suc t) e l) (strike-slots (suc t) e r) (ordered-side s t i l r o).1 m) (side-slots s t (moved i e) l r (strike (suc t) e (side_of s l r))))

-- what holds of every entry, from the tree to its list and back
pub to-entries : (P : Entry → Type 0) (is : List Item) → AllL P is → Every P (entries_of is)
to-entries P [] h = tt
to-entries P (i ∷ is) (h, hs) = (h, to-entries P is hs)

pub of-entries : (P : Entry → Type 0) (is : List Item) → Every P (entries_of is) → AllL P is
of-entries P [] h = tt
of-entries P (i ∷ is) (h, hs) = (h, of-entries P is hs)

pub entries-once : (is : List Item) → Distinct is → OnceEach (entries_of is)
entries-once [] h = tt
entries-once (i ∷ is) (h, hs) = (to-entries (Unlike i.entry) is h, entries-once is hs)

-- what holds of every entry holds of the struck one and of every other, and these differ from it
pub strike-all : (P : Entry → Type 0) (t : ℕ) (k : Entry) (u : Tree) → Ordered t u → There k u → All P u → P k × All P (strike t k u)
strike-all P t k u o m h =
    let s = every-perm P (strike-entries t k u o m) (to-entries P (items u) (all-items P u h)) in
    (s.0, items-all P (strike t k u) (of-entries P (items (strike t k u)) s.1))

pub strike-gone : (t : ℕ) (k : Entry) (u : Tree) → Ordered t u → There k u → All (Unlike k) (strike t k u)
strike-gone t k u o m = items-all (Unlike k) (strike t k u) (of-entries (Unlike k) (items (strike t k u)) (once-perm (strike-entries t k u o m) (entries-once (items u) (ordered-distinct t u o))).0)

pub strike-ordered : (t : ℕ) (k : Entry) (u : Tree) → Ordered t u → There k u → Ordered t (strike t k u)
strike-ordered t k nil o h = absurd (h tt)
strike-ordered t k (node i l r) o h =
    strike-by (λ u f. Ordered t u) t k i l r
    (λ s c.
    let m = there-side s t k i l r o h c in
    let here = ordered-side s t i l r o in
    let there = ordered-side (other s) t i l r o in
    side-ordered s t i l r (strike (suc t) k (side_of s l r)) (strike-all (λ x. Before s t x i.entry) (suc t) k (side_of s l r) here.1 m here.0).1 (on_both (λ u. Ordered (suc t) u → There k u → Ordered (suc t) (strike (suc t) k u)) s l r (strike-ordered (suc t) k l) (strike-ordered (suc t) k r) here.1 m) there.0 there.1)
    (λ c x y. tt)
    (λ c s e m g.
    let here = ordered-side s t i l r o in
    let there = ordered-side (other s) t i l r o in
    let u = strike (suc t) e (side_of s l r) in
    let gone = (strike-all (λ x. NotPast s t x e) (suc t) e (side_of s l r) here.1 m g).1 in
    let ei : Before s t e i.entry = (strike-all (λ x. Before s t x i.entry) (suc t) e (side_of s l r) here.1 m here.0).0 in
    side-ordered s t (moved i e) l r u
    (all_both (λ x. NotPast s t x e) (Unlike e) (λ x. Before s t x e) (λ x v w. not_past-before s t x e (λ z. w (sym z)) v) u gone (strike-gone (suc t) e (side_of s l r) here.1 m))
    (on_both (λ u. Ordered (suc t) u → There e u → Ordered (suc t) (strike (suc t) e u)) s l r (strike-ordered (suc t) e l) (strike-ordered (suc t) e r) here.1 m)
    (all-map_t (λ x. Before (other s) t x i.entry) (λ x. Before (other s) t x e) (λ x v. before-trans (other s) t x i.entry e v (before-turn s t e i.entry ei)) (side_of (other s) l r) there.0)
    there.1)
