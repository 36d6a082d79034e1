-- The lines of a tree, a node at a time.
use mathlib.Core.Path.{◌≡◌, refl, sym, ap, subst, ◌∙◌}
use mathlib.Core.List.{List, ◌++◌}
use Prim.Native.Nat.{ℕ, suc, ◌+◌, ◌-◌, ◌*◌, ◌≤◌, ◌<◌, max}
use native.Mathlib.Omega.{arith}
use native.Mathlib.Numerals.{add-one}
use lib.ListN.{length, length-append}
use lib.IntN.{ℤ}
use Rattle.model.specs.Tree.{Item, Tree, node, height, size}
use Rattle.model.specs.Show.{tree_lines}
use Rattle.model.specs.declared.Shape.{Shape}
use Rattle.cells.specs.Slots.{left_at, right_at, tall, numbers_of, Room}
use Rattle.cells.proofs.Slots.{tall-slot}
use Rattle.cells.proofs.Reps.{Node, open-node, open-nil, tall-rep, unique}
use Rattle.ask.proofs.Walks.{keyed-in}
use Rattle.rank.specs.Ranking.{InTable}
use Rattle.print.specs.Place.{Puts}
use Rattle.page.specs.Trees.{entry_line, PutEntry, Printable, PutTree}
use Rattle.page.proofs.Pieces.{next_fits, join, long, nothing}

-- the lines of a node: its own, those of its left side, those of its right side
lines-item : (K t : ℕ) (i : Item) (l r : Tree) → tree_lines K t (node i l r) ≡ entry_line K t i.slot i.entry ++ (tree_lines K (t + 1) l ++ tree_lines K (t + 1) r)
unfolding entry_line
lines-item K t i l r = rw add-one refl

lines-node : (K : ℕ) (ks : List ℤ) (ls : List ℕ) (s t : ℕ) (u : Tree) (n : Node K ks ls s u) → tree_lines K t u ≡ entry_line K t s (numbers_of K ks s) ++ (tree_lines K (t + 1) n.l ++ tree_lines K (t + 1) n.r)
lines-node K ks ls s t u n = ap (tree_lines K t) n.is ∙ lines-item K t n.item n.l n.r ∙ (λ x. entry_line K t (n.here x) (sym n.entry x) ++ (tree_lines K (t + 1) n.l ++ tree_lines K (t + 1) n.r))

pub put-nil : (K : ℕ) (ks : List ℤ) (ls : List ℕ) (s t : ℕ) (room : List ℕ) (at : ℕ) → s ≡ 0 → PutTree K ks ls s t room room at at
put-nil K ks ls s t room at e = record {
  put = λ u p. subst (λ (v : Tree). Puts room at (tree_lines K t v) room at) (sym (open-nil K ks ls s u p e)) (nothing room at);
  short = λ u p. subst (λ (v : Tree). length (tree_lines K t v) ≤ 160 * size v) (sym (open-nil K ks ls s u p e)) (omega arith);
}

-- what the calls at a slot ask: g says that some tree there fits
module _ (S : Shape) (ks : List ℤ) (ls : List ℕ) (s t : ℕ) (room : List ℕ) (at : ℕ) (m : Room S (length ks) (length ls)) (le : at ≤ length room) (g : Printable S.k ks ls s t (length room - at)) (ne : ¬ (s ≡ 0)) where
  pub top : Node S.k ks ls s g.tree
  top = open-node S.k ks ls s g.tree g.rep ne

  pub in_table : InTable S.k (length ks) s
  in_table =
      let a : 3 * s ≤ length ls = top.slot.fits in
      let b = m.long in
      let d = m.c_high in
      record { keyed = keyed-in S (length ks) (length ls) s m ne (omega arith); low = omega arith }

  high : height g.tree ≡ suc (max (height top.l) (height top.r))
  high = ap height top.is

  pub left-falls : (l : ℕ) → l ≡ left_at ls s → tall ls l < tall ls s
  left-falls l e = let h : tall ls l ≡ height top.l = rw e (tall-rep S.k ks ls (left_at ls s) top.l top.left) in let x = tall-slot ls s ne ∙ top.high in omega arith

  pub right-falls : (r : ℕ) → r ≡ right_at ls s → tall ls r < tall ls s
  right-falls r e = let h : tall ls r ≡ height top.r = rw e (tall-rep S.k ks ls (right_at ls s) top.r top.right) in let x = tall-slot ls s ne ∙ top.high in omega arith

  many : size g.tree ≡ suc (size top.l + size top.r)
  many = ap size top.is

  pub line-fits : at + 160 ≤ length room
  line-fits = let a = many in let b = g.fits in omega arith

  pub deeper : t + 1 ≤ 4096
  deeper = let a = high in let b = g.low in omega arith

  abbrev line : List ℕ
  line = entry_line S.k t s (numbers_of S.k ks s)

  abbrev lefts : List ℕ
  lefts = tree_lines S.k (t + 1) top.l

  abbrev rights : List ℕ
  rights = tree_lines S.k (t + 1) top.r

  module _ (o₁ : List ℕ) (p₁ : ℕ) (w₁ : PutEntry S.k ks s t room o₁ at p₁) where
    behind-line : (p₁ ≤ at + 160) × (length o₁ ≡ length room)
    behind-line = go (length line) w₁.short w₁.put.1 line-fits (long room at line o₁ p₁)
      where
        go : (n : ℕ) → n ≤ 160 → p₁ ≡ at + n → at + 160 ≤ length room → (at + n ≤ length room → Puts room at line o₁ p₁ → length o₁ ≡ length room) → (p₁ ≤ at + 160) × (length o₁ ≡ length room)
        go n a b d e = (omega arith, e (omega arith) w₁.put)

    pub left-ready : (l : ℕ) → l ≡ left_at ls s → (p₁ ≤ length o₁) × Printable S.k ks ls l (t + 1) (length o₁ - p₁)
    left-ready l e =
        let a = behind-line in
        let h = high in
        let b = g.low in
        let d = many in
        let f = g.fits in
        (omega arith, record { tree = top.l; rep = rw e top.left; low = omega arith; fits = omega arith })

    module _ (o₂ : List ℕ) (p₂ l : ℕ) (el : l ≡ left_at ls s) (w₂ : PutTree S.k ks ls l (t + 1) o₁ o₂ p₁ p₂) where
      put-left : Puts o₁ p₁ lefts o₂ p₂
      put-left = w₂.put top.l (rw el top.left)

      left-short : length lefts ≤ 160 * size top.l
      left-short = w₂.short top.l (rw el top.left)

      behind-left : (p₂ ≤ at + 160 + 160 * size top.l) × (length o₂ ≡ length room)
      behind-left =
          let b = behind-line in
          go (length lefts) left-short put-left.1 b.0 b.1 many g.fits (long o₁ p₁ lefts o₂ p₂)
        where
          go : (n : ℕ) → n ≤ 160 * size top.l → p₂ ≡ p₁ + n → p₁ ≤ at + 160 → length o₁ ≡ length room → size g.tree ≡ suc (size top.l + size top.r) → 160 * size g.tree ≤ length room - at → (p₁ + n ≤ length o₁ → Puts o₁ p₁ lefts o₂ p₂ → length o₂ ≡ length o₁) → (p₂ ≤ at + 160 + 160 * size top.l) × (length o₂ ≡ length room)
          go n a b d e m f h = (omega arith, h (omega arith) put-left ∙ e)

      pub right-ready : (r : ℕ) → r ≡ right_at ls s → (p₂ ≤ length o₂) × Printable S.k ks ls r (t + 1) (length o₂ - p₂)
      right-ready r e =
          let a = behind-left in
          let h = high in
          let b = g.low in
          let d = many in
          let f = g.fits in
          (omega arith, record { tree = top.r; rep = rw e top.right; low = omega arith; fits = omega arith })

      module _ (o₃ : List ℕ) (p₃ r : ℕ) (er : r ≡ right_at ls s) (w₃ : PutTree S.k ks ls r (t + 1) o₂ o₃ p₂ p₃) where
        right-short : length rights ≤ 160 * size top.r
        right-short = w₃.short top.r (rw er top.right)

        all : length (line ++ (lefts ++ rights)) ≤ 160 * size g.tree
        all = go (length line) (length lefts) (length rights) (length (lefts ++ rights)) (length (line ++ (lefts ++ rights))) (length-append line (lefts ++ rights)) (length-append lefts rights) w₁.short left-short right-short many
          where
            go : (a b d e f : ℕ) → f ≡ a + e → e ≡ b + d → a ≤ 160 → b ≤ 160 * size top.l → d ≤ 160 * size top.r → size g.tree ≡ suc (size top.l + size top.r) → f ≤ 160 * size g.tree
            go a b d e f p q x y z m = omega arith

        room1 : at + length (line ++ (lefts ++ rights)) ≤ length room
        room1 = go (length (line ++ (lefts ++ rights))) all many g.fits
          where
            go : (n : ℕ) → n ≤ 160 * size g.tree → size g.tree ≡ suc (size top.l + size top.r) → 160 * size g.tree ≤ length room - at → at + n ≤ length room
            go n a m f = omega arith

        room2 : p₁ + length (lefts ++ rights) ≤ length o₁
        room2 = next_fits room at line (lefts ++ rights) o₁ p₁ room1 w₁.put

        lines : tree_lines S.k t g.tree ≡ line ++ (lefts ++ rights)
        lines = lines-node S.k ks ls s t g.tree top

        whole : Puts room at (tree_lines S.k t g.tree) o₃ p₃
        whole =
            subst (λ (x : List ℕ). Puts room at x o₃ p₃) (sym lines)
            (join room at line (lefts ++ rights) o₁ p₁ o₃ p₃ room1 w₁.put (join o₁ p₁ lefts rights o₂ p₂ o₃ p₃ room2 put-left (w₃.put top.r (rw er top.right))))

        pub put-node : PutTree S.k ks ls s t room o₃ at p₃
        put-node = record {
          put = λ u p. subst (λ (v : Tree). Puts room at (tree_lines S.k t v) o₃ p₃) (unique S.k ks ls s g.tree u g.rep p) whole;
          short = λ u p. subst (λ (v : Tree). length (tree_lines S.k t v) ≤ 160 * size v) (unique S.k ks ls s g.tree u g.rep p) (subst (λ (x : List ℕ). length x ≤ 160 * size g.tree) (sym lines) all);
        }
