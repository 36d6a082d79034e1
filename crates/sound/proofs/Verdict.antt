-- The two ends of the decision: the whole tree from the pass without bounds, and a sound pool from its tree and its chain.
use mathlib.Core.Path.{◌≡◌, refl, sym, ap, ◌∙◌}
use mathlib.Core.Bool.{Bool, true, false}
use mathlib.Core.List.{List}
use Prim.Native.Nat.{ℕ, ◌-◌, ◌≤◌, ◌<◌}
use native.Mathlib.Omega.{arith}
use borrow.Author.Tests.{eqb-true, eqb-false}
use lib.Dec.{eqb}
use lib.ListN.{length, replicate}
use lib.IntN.{ℤ}
use Rattle.std.proofs.Common.{Option, None, Some}
use Rattle.std.specs.Option.{option_eq}
use Rattle.model.specs.Book.{Book, Cell}
use Rattle.model.specs.Entry.{cut_field}
use Rattle.model.specs.Pool.{book_of, cell_of, chain_from, fitting, sound, tree_from}
use Rattle.model.specs.Tree.{Tree, nil, node, height, size}
use Rattle.model.specs.declared.Head.{Head}
use Rattle.model.specs.declared.Shape.{Shape}
use Rattle.model.proofs.Backs.{height-size}
use Rattle.model.proofs.Books.{chain_back}
use Rattle.model.proofs.Crowd.{InPool}
use Rattle.model.proofs.Images.{tree-back}
use Rattle.model.proofs.Laid.{laid-lies, lies-laid, strung-follows}
use Rattle.model.proofs.Looks.{low-enough}
use Rattle.model.proofs.Sounds.{fits-fitting, fitting-fits}
use Rattle.model.proofs.Trees.{All}
use Rattle.cells.specs.Memory.{Rep}
use Rattle.cells.specs.Slots.{Room, Slot, tall, left_at, right_at}
use Rattle.cells.proofs.Reps.{lies-rep, open-nil, rep-lies, tall-rep, unique}
use Rattle.sound.specs.Chain.{Free}
use Rattle.sound.specs.Parts.{Tells, shape_of}
use Rattle.sound.specs.Tree.{Asked, Edged, Inside, Judged, Whole}
use Rattle.sound.proofs.Bounds.{open-fits, open-inside}
use Rattle.sound.proofs.Edges.{open-edged}
use Rattle.sound.proofs.Marks.{cut-self, is-slot, slot-long, tells-no}
use Rattle.sound.proofs.Walk.{link-cells}

-- ---- the whole tree

module _ (S : Shape) (ks : List ℤ) (ls : List ℕ) (root n : ℕ) (room : Room S (length ks) (length ls)) (few : n ≤ S.c) where
  abbrev W : Type 0
  W = Whole S.k ks ls root n

  open-all : (s : ℕ) (u : Tree) → Rep S.k ks ls s u → All (Inside S.k ks (replicate 8 0)) u
  open-all s nil p = tt
  open-all s (node i l r) p = (open-inside S.k ks i.entry (ap length (sym p.2) ∙ slot-long S ks (length ls) i.slot room p.1), open-all (left_at ls i.slot) l p.4, open-all (right_at ls i.slot) r p.5)

  pub no-tree : root ≡ 0 → Tells W (eqb n 0)
  no-tree e = record {
    good = λ t. record { tree = nil; rep = e; ordered = tt; even = tt; count = sym (eqb-true n 0 t) };
    bad = λ t x. eqb-false n 0 t (sym x.count ∙ ap size (open-nil S.k ks ls root x.tree x.rep e));
  }

  pub too-tall : (h : ℕ) → h ≡ tall ls root → 16 < h → Tells W false
  too-tall h e g = tells-no W (λ x.
      let k = x.count in
      let c = room.c_high in
      let a : height x.tree ≤ 16 = low-enough x.tree x.even (omega arith) in
      let b : tall ls root ≡ height x.tree = tall-rep S.k ks ls root x.tree x.rep in
      omega arith)

  pub start : root ≤ S.c → (root ≡ 0 → ⊥) → (bs : List ℕ) → bs ≡ replicate 8 0 → (es : List ℤ) → length es ≡ 8 → Asked S 0 bs × (Slot (length ls) root × Edged S.k ks bs es)
  start h ne bs hb es he = rw hb (record { cut_in = room.k_low; eight = refl; bounds = open-fits S.c }, (is-slot S (length ks) (length ls) room root ne h, open-edged S.k ks es he))

  zero-cut : cut_field S.k 0 ≡ 0
  zero-cut = cut-self S.k 0 room.k_low

  pub whole_by : (r : Option ℕ) → Judged S.k ks ls 0 root n (replicate 8 0) r → (o : Bool) → o ≡ option_eq eqb r (Some 0) → Tells W o
  whole_by None j o e = rw e (tells-no W (λ x. let k = x.count in j.bad refl 0 zero-cut (record { tree = x.tree; rep = x.rep; ordered = x.ordered; even = x.even; inside = open-all root x.tree x.rep }) (omega arith)))
  whole_by (Some m) j o e =
      let g = j.good m refl 0 zero-cut in
      let k = g.count in
      record {
        good = λ t. let z = eqb-true m 0 (sym e ∙ t) in record { tree = g.grown.tree; rep = g.grown.rep; ordered = g.grown.ordered; even = g.grown.even; count = omega arith };
        bad = λ t x. let z = eqb-false m 0 (sym e ∙ t) in let u : size g.grown.tree ≡ size x.tree = ap size (unique S.k ks ls root g.grown.tree x.tree g.grown.rep x.rep) in let c = x.count in z (omega arith);
      }

-- ---- the whole pool

module _ (h : Head) (ks : List ℤ) (ls : List ℕ) (room : Room (shape_of h) (length ks) (length ls)) where
  abbrev f : ℕ → Cell
  f = cell_of h.k ks ls

  abbrev T : Type 0
  T = Whole h.k ks ls h.root h.n

  abbrev F : Type 0
  F = Free h.k h.c ks ls h.free (h.c - h.n)

  -- what a sound pool has
  record Parts : Type 0 where
    pub root_within : h.root ≤ h.c
    pub free_within : h.free ≤ h.c
    pub few : h.n ≤ h.c
    pub whole : T
    pub rest : F

  key-long : (s : ℕ) → InPool h.c s → length (f s).key ≡ h.k
  key-long s p =
      let ne : s ≡ 0 → ⊥ = λ e. let q = p.0 in omega arith in
      ap (λ (c : Cell). length c.key) (link-cells h.k ks ls s ne) ∙ slot-long (shape_of h) ks (length ls) s room (is-slot (shape_of h) (length ks) (length ls) room s ne p.1)

  parts-of : sound h ks ls ≡ true → Parts
  unfolding sound book_of
  parts-of e =
      let b : Book = record { tree = tree_from h.c f h.root; chain = chain_from h.c f h.free } in
      let x = fitting-fits h f b e in
      let t = laid-lies h.c h.c f h.root x.laid_ok in
      let k = x.total in
      record {
        root_within = x.root_within;
        free_within = x.free_within;
        few = omega arith;
        whole = record { tree = b.tree; rep = rw t.0 at (lies-rep h.k h.c ks ls room.long b.tree t.1 t.2); ordered = x.ordered; even = x.balanced; count = x.count };
        rest = record { slots = b.chain; chain = x.strung_ok; count = omega arith };
      }

  sound-of : Parts → sound h ks ls ≡ true
  unfolding sound book_of
  sound-of p =
      let u : Tree = p.whole.tree in
      let cs : List ℕ = p.rest.slots in
      let b : Book = record { tree = u; chain = cs } in
      let t = rep-lies h.k h.c ks ls room.long h.root u p.whole.rep in
      let w = strung-follows h.k f h.c key-long h.free cs p.rest.chain in
      let a = height-size u in
      let n = p.whole.count in
      let m = p.rest.count in
      let l = p.few in
      let eu : tree_from h.c f h.root ≡ u = rw t.0 at (tree-back h.c h.c f u (omega arith) t.1 t.2) in
      let ec : chain_from h.c f h.free ≡ cs = rw w.0 at (chain_back h.c h.c f cs (omega arith) w.1 w.2) in
      let eb : book_of h ks ls ≡ b = λ i. record { tree = eu i; chain = ec i } in
      ap (fitting h f) eb ∙ fits-fitting h f b (record { root_within = p.root_within; free_within = p.free_within; laid_ok = lies-laid f h.c h.root u t.0 t.1 t.2; ordered = p.whole.ordered; balanced = p.whole.even; count = n; strung_ok = p.rest.chain; total = omega arith })

  -- the answers
  not-by : (o : Bool) → sound h ks ls ≡ o → (Parts → ⊥) → false ≡ sound h ks ls
  not-by true e g = absurd (g (parts-of e))
  not-by false e g = sym e

  not_sound : (Parts → ⊥) → false ≡ sound h ks ls
  not_sound g = not-by (sound h ks ls) refl g

  pub root-out : h.c < h.root → false ≡ sound h ks ls
  root-out g = not_sound (λ p. let a = p.root_within in omega arith)

  pub free-out : h.c < h.free → false ≡ sound h ks ls
  free-out g = not_sound (λ p. let a = p.free_within in omega arith)

  pub too_many : h.c < h.n → false ≡ sound h ks ls
  too_many g = not_sound (λ p. let a = p.few in omega arith)

  module _ (o : Bool) (t : Tells T o) where
    pub tree-wrong : o ≡ false → false ≡ sound h ks ls
    tree-wrong e = not_sound (λ p. t.bad e p.whole)

    pub answer : o ≡ true → h.root ≤ h.c → h.free ≤ h.c → h.n ≤ h.c → (r : Bool) → Tells F r → r ≡ sound h ks ls
    answer e a b c true v = sym (sound-of (record { root_within = a; free_within = b; few = c; whole = t.good e; rest = v.good refl }))
    answer e a b c false v = not_sound (λ p. v.bad refl p.rest)
