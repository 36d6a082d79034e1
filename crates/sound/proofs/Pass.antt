-- The needs of the pass, each from facts as the record of its place has them.
use mathlib.Core.Path.{◌≡◌, refl, ap, subst, ◌∙◌}
use mathlib.Core.Bool.{Bool, false}
use mathlib.Core.List.{List}
use Prim.Native.Nat.{ℕ, suc, ◌+◌, ◌-◌, ◌*◌, ◌≤◌, ◌<◌}
use native.Mathlib.Omega.{arith}
use lib.ListN.{length, get_or, set}
use lib.Seq.{set-set, set-get_or}
use lib.IntN.{ℤ, pos}
use Rattle.std.proofs.Common.{Option, None, Some}
use Rattle.model.specs.Entry.{cut_field}
use Rattle.model.specs.Tree.{Item, Tree, nil, node, height, size}
use Rattle.model.specs.declared.Shape.{Shape}
use Rattle.model.proofs.Trees.{All, Balanced, Less, Ordered, all-map_t, all_both}
use Rattle.cells.specs.Orders.{Deeper}
use Rattle.cells.specs.Slots.{Room, Slot, left_at, right_at, height_at, tall, numbers_of}
use Rattle.cells.specs.Memory.{Rep}
use Rattle.cells.proofs.Reps.{Node, open-node, close-node, tall-rep, rep-bound, unique}
use Rattle.cells.proofs.Slots.{tall-slot}
use Rattle.sound.specs.Parts.{Tells}
use Rattle.sound.specs.Tree.{Side, low, high, place, Beyond, Inside, Edged, Asked, Tops, Grown, Good, Judged}
use Rattle.sound.proofs.Marks.{slot-in, slot-long, slot-some}
use Rattle.sound.proofs.Bounds.{beyond, widen, narrow, place_in}
use Rattle.sound.proofs.Edges.{edged-set}

-- the link that is followed under a bound of side d: across from it
abbrev across : Side → List ℕ → ℕ → ℕ
across low ls s = right_at ls s
across high ls s = left_at ls s

-- ---- what the answers say

refuse : (K : ℕ) (ks : List ℤ) (ls : List ℕ) (cut s left : ℕ) (bs : List ℕ) → ((t : ℕ) → cut_field K t ≡ cut → (x : Grown K ks ls t s bs) → size x.tree ≤ left → ⊥) → Judged K ks ls cut s left bs None
refuse K ks ls cut s left bs f = record { good = λ m e. absurd (cc e); bad = λ e. f }

pub nothing : (K : ℕ) (ks : List ℤ) (ls : List ℕ) (cut s left : ℕ) (bs : List ℕ) → s ≡ 0 → Judged K ks ls cut s left bs (Some left)
nothing K ks ls cut s left bs e = record {
  good = λ m g t q. let z : left ≡ m = cc g in record { grown = record { tree = nil; rep = e; ordered = tt; even = tt; inside = tt }; count = omega arith };
  bad = λ z. absurd (cc z);
}

-- what is judged of a side, at the depths below those that are cut at `cut`
record Below (K : ℕ) (ks : List ℤ) (ls : List ℕ) (cut s left : ℕ) (bs : List ℕ) (r : Option ℕ) : Type 0 where
  good : (m : ℕ) → r ≡ Some m → (t : ℕ) → cut_field K t ≡ cut → Good K ks ls (suc t) s left bs m
  bad : r ≡ None → (t : ℕ) → cut_field K t ≡ cut → (x : Grown K ks ls (suc t) s bs) → size x.tree ≤ left → ⊥

below : (K : ℕ) (ks : List ℤ) (ls : List ℕ) (cut n s left : ℕ) (bs : List ℕ) (r : Option ℕ) → Deeper K cut n → Judged K ks ls n s left bs r → Below K ks ls cut s left bs r
below K ks ls cut n s left bs r d j = record { good = λ m e t q. j.good m e (suc t) (d.at t q); bad = λ e t q. j.bad e (suc t) (d.at t q) }

none-below : (K : ℕ) (ks : List ℤ) (ls : List ℕ) (cut s left : ℕ) (bs : List ℕ) → s ≡ 0 → Below K ks ls cut s left bs (Some left)
none-below K ks ls cut s left bs z = let j = λ (n : ℕ). nothing K ks ls n s left bs z in record { good = λ m e t q. (j (cut_field K (suc t))).good m e (suc t) refl; bad = λ e t q. (j (cut_field K (suc t))).bad e (suc t) refl }

module _ (S : Shape) (ks : List ℤ) (ls : List ℕ) (cut s left : ℕ) (bs : List ℕ) (room : Room S (length ks) (length ls)) (asked : Asked S cut bs) (slot : Slot (length ls) s) where
  abbrev K : ℕ
  K = S.k

  abbrev J : Option ℕ → Type 0
  J = Judged K ks ls cut s left bs

  abbrev G : ℕ → Type 0
  G t = Grown K ks ls t s bs

  -- what such a tree has at its root
  module _ (t : ℕ) (x : G t) where
    abbrev top : Node K ks ls s x.tree
    top = open-node K ks ls s x.tree x.rep (slot-some (length ls) s slot)

    many : size x.tree ≡ suc (size top.l + size top.r)
    many = ap size top.is

    ordered_of : Ordered t (node top.item top.l top.r)
    ordered_of = subst (Ordered t) top.is x.ordered

    even-of : Balanced (node top.item top.l top.r)
    even-of = subst Balanced top.is x.even

    inside_of : All (Inside K ks bs) (node top.item top.l top.r)
    inside_of = subst (All (Inside K ks bs)) top.is x.inside

    mine : Inside K ks bs (numbers_of K ks s)
    mine = rw top.entry inside_of.0

    -- under a bound of side d: the other side
    abbrev under : Side → Tree
    under low = top.r
    under high = top.l

    parts : (d : Side) → Rep K ks ls (across d ls s) (under d) × Ordered (suc t) (under d) × Balanced (under d) × All (Inside K ks bs) (under d) × All (Beyond d t top.item.entry) (under d)
    parts low = (top.right, ordered_of.3, even-of.2, inside_of.2, ordered_of.1)
    parts high = (top.left, ordered_of.2, even-of.1, inside_of.1, ordered_of.0)

  pub none_left : left ≡ 0 → J None
  none_left e = refuse K ks ls cut s left bs (λ t q x h. let m = many t x in omega arith)

  pub not-topped : (o : Bool) → Tells (Tops ls S.c s) o → o ≡ false → J None
  not-topped o v f = refuse K ks ls cut s left bs (λ t q x h.
      let n = top t x in
      let a : tall ls (left_at ls s) ≡ height n.l = tall-rep K ks ls (left_at ls s) n.l n.left in
      let b : tall ls (right_at ls s) ≡ height n.r = tall-rep K ks ls (right_at ls s) n.r n.right in
      let i = rep-bound K ks ls (left_at ls s) n.l n.left in
      let j = rep-bound K ks ls (right_at ls s) n.r n.right in
      let g = n.high in
      let e = room.long in
      v.bad f (record { left_in = omega arith; right_in = omega arith; top = omega arith; near = rw (a, b) (even-of t x).0 }))

  pub not-inside : (o : Bool) → Tells (Inside K ks bs (numbers_of K ks s)) o → o ≡ false → J None
  not-inside o v f = refuse K ks ls cut s left bs (λ t q x h. v.bad f (mine t x))

  some : 1 ≤ K
  some = room.k_low

  four : K ≤ 4
  four = room.k_high

  lt : cut < K
  lt = asked.cut_in

  eight : length bs ≡ 8
  eight = asked.eight

  ne : ¬ (s ≡ 0)
  ne = slot-some (length ls) s slot

  long : length (numbers_of K ks s) ≡ K
  long = slot-long S ks (length ls) s room slot

  -- what a side asks
  falls : (d : Side) → Tops ls S.c s → tall ls (across d ls s) < tall ls s
  falls low v = let e : tall ls s ≡ height_at ls s = tall-slot ls s ne in let t = v.top in omega arith
  falls high v = let e : tall ls s ≡ height_at ls s = tall-slot ls s ne in let t = v.top in omega arith

  stays : (d : Side) → Tops ls S.c s → across d ls s ≤ S.c
  stays low v = v.right_in
  stays high v = v.left_in

  pub side-ready : (d : Side) (t : ℕ) → 2 * tall ls s ≡ t → Tops ls S.c s → (n : ℕ) → Deeper K cut n → (l : ℕ) → l ≡ across d ls s → {es : List ℤ} → Edged K ks bs es → (x : ℤ) → x ≡ get_or (numbers_of K ks s) cut (pos 0)
      → (2 * tall ls l + 1 < t) × ((Asked S n bs × ((l ≤ S.c) × ((place d cut < 8) × (s ≤ S.c)))) × Edged K ks (set bs (place d cut) s) (set es (place d cut) x))
  side-ready d t et v n deep l el {es} edged x ex =
      let f : tall ls l < tall ls s = rw el (falls d v) in (
        omega arith,
        (
          (record { cut_in = deep.low; eight = eight; bounds = asked.bounds }, (rw el (stays d v), (place_in d cut (let x = lt in let y = four in omega arith), slot-in S (length ks) (length ls) room s slot))),
          edged-set d K ks bs es cut s x four lt eight ex edged,
        ),
      )

  -- one side of such a tree, inside the narrower bounds
  abbrev side-grown : (d : Side) (t : ℕ) → cut_field K t ≡ cut → (x : G t) → (l : ℕ) → l ≡ across d ls s → Grown K ks ls (suc t) l (set bs (place d cut) s)
  side-grown d t q x l e =
      let p = parts t x d in
      record {
        tree = under t x d;
        rep = rw e p.0;
        ordered = p.1;
        even = p.2;
        inside = all_both (Inside K ks bs) (Beyond d t (top t x).item.entry) (Inside K ks (set bs (place d cut) s)) (λ y a b. narrow K ks bs cut s d some four lt eight ne long t q y a (rw (top t x).entry b)) (under t x d) p.3 p.4;
      }

  module _ (l : ℕ) (el : l ≡ left_at ls s) (more : left ≡ 0 → ⊥) where
    pub left-bad : (n : ℕ) → Deeper K cut n → (ra : Option ℕ) → Judged K ks ls n l (left - 1) (set bs (4 + cut) s) ra → ra ≡ None → J None
    left-bad n deep ra ja e = refuse K ks ls cut s left bs (λ t q x h. (below K ks ls cut n l (left - 1) (set bs (4 + cut) s) ra deep ja).bad e t q (side-grown high t q x l el) (let m = many t x in omega arith))

    module _ (ra : ℕ) (ja : Below K ks ls cut l (left - 1) (set bs (4 + cut) s) (Some ra)) (r : ℕ) (er : r ≡ right_at ls s) (rb : Option ℕ) (jb : Below K ks ls cut r ra (set bs cut s) rb) where
      A : (t : ℕ) → cut_field K t ≡ cut → Good K ks ls (suc t) l (left - 1) (set bs (4 + cut) s) ra
      A t q = ja.good ra refl t q

      worse : rb ≡ None → (t : ℕ) → cut_field K t ≡ cut → (x : G t) → size x.tree ≤ left → ⊥
      worse e t q x h =
          let a = A t q in
          let u : size a.grown.tree ≡ size (top t x).l = ap size (unique K ks ls l a.grown.tree (top t x).l a.grown.rep (side-grown high t q x l el).rep) in
          let k = a.count in
          let m = many t x in
          jb.bad e t q (side-grown low t q x r er) (omega arith)

      better : Tops ls S.c s → Inside K ks bs (numbers_of K ks s) → (m : ℕ) → rb ≡ Some m → (t : ℕ) → cut_field K t ≡ cut → Good K ks ls t s left bs m
      better tops ins m h t q =
          let a = A t q in
          let b = jb.good m h t q in
          let u = a.grown.tree in
          let v = b.grown.tree in
          let pu : Rep K ks ls (left_at ls s) u = subst (λ (y : ℕ). Rep K ks ls y u) el a.grown.rep in
          let pv : Rep K ks ls (right_at ls s) v = subst (λ (y : ℕ). Rep K ks ls y v) er b.grown.rep in
          let ta : tall ls (left_at ls s) ≡ height u = tall-rep K ks ls (left_at ls s) u pu in
          let tb : tall ls (right_at ls s) ≡ height v = tall-rep K ks ls (right_at ls s) v pv in
          let i : Item = record { slot = s; entry = numbers_of K ks s } in
          record {
            grown = record {
              tree = node i u v;
              rep = close-node K ks ls i u v slot refl (let g = tops.top in omega arith) pu pv;
              ordered = (
                all-map_t (Inside K ks (set bs (4 + cut) s)) (λ y. Less t y (numbers_of K ks s)) (λ y w. beyond K ks bs cut s high some four lt eight ne y w t q) u a.grown.inside,
                all-map_t (Inside K ks (set bs cut s)) (λ y. Less t (numbers_of K ks s) y) (λ y w. beyond K ks bs cut s low some four lt eight ne y w t q) v b.grown.inside,
                a.grown.ordered,
                b.grown.ordered,
              );
              even = (rw (ta, tb) at tops.near, a.grown.even, b.grown.even);
              inside = (
                ins,
                all-map_t (Inside K ks (set bs (4 + cut) s)) (Inside K ks bs) (widen K ks bs cut s high some four lt eight ne ins) u a.grown.inside,
                all-map_t (Inside K ks (set bs cut s)) (Inside K ks bs) (widen K ks bs cut s low some four lt eight ne ins) v b.grown.inside,
              );
            };
            count = let j = a.count in let k = b.count in omega arith;
          }

      both-of : Tops ls S.c s → Inside K ks bs (numbers_of K ks s) → J rb
      both-of v w = record { good = better v w; bad = worse }

    pub both-sides : Tops ls S.c s → Inside K ks bs (numbers_of K ks s) → (n : ℕ) → Deeper K cut n → (ra : Option ℕ) → Judged K ks ls n l (left - 1) (set bs (4 + cut) s) ra → (m : ℕ) → ra ≡ Some m → (r : ℕ) → r ≡ right_at ls s → (rb : Option ℕ) → Judged K ks ls n r m (set bs cut s) rb → J rb
    both-sides v w n deep ra ja m e r er rb jb = both-of m (rw e at (below K ks ls cut n l (left - 1) (set bs (4 + cut) s) ra deep ja)) r er rb (below K ks ls cut n r m (set bs cut s) rb deep jb) v w

    -- no side at all
    pub leaf : Tops ls S.c s → Inside K ks bs (numbers_of K ks s) → (r : ℕ) → r ≡ right_at ls s → l + r ≡ 0 → J (Some (left - 1))
    leaf v w r er z = both-of (left - 1) (none-below K ks ls cut l (left - 1) (set bs (4 + cut) s) (omega arith)) r er (Some (left - 1)) (none-below K ks ls cut r (left - 1) (set bs cut s) (omega arith)) v w

-- ---- what was set at one place, put back

pub put_back : {A : Type 0} (xs ys : List A) (i : ℕ) (x y d : A) → y ≡ get_or xs i d → ys ≡ set xs i x → set ys i y ≡ xs
put_back xs ys i x y d ey e = rw (e, ey) (set-set xs i x (get_or xs i d) ∙ set-get_or xs i d)
