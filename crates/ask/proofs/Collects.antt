-- The walk of a box, a node at a time: each side taken or left out, and the entry between them.
use mathlib.Core.Path.{◌≡◌, refl, sym, ap, ◌∙◌}
use mathlib.Core.Bool.{Bool, true, false}
use mathlib.Core.List.{List, [], ◌∷◌, ◌++◌}
use Prim.Native.Nat.{ℕ, suc, ◌+◌, ◌-◌, ◌*◌, ◌≤◌, ◌<◌}
use native.Mathlib.Omega.{arith}
use native.Mathlib.Nat.{add-zero}
use lib.ListN.{length, get_or, length-append}
use lib.Seq.{sets, length-sets}
use lib.IntN.{ℤ, pos}
use Rattle.model.specs.Entry.{cmp}
use Rattle.model.specs.Ask.{in_box}
use Rattle.model.specs.Tree.{Item, Tree, items, slots_of, is_less}
use Rattle.model.specs.declared.Bound.{Bound}
use Rattle.model.specs.declared.Bound.TheVariants.{Free}
use Rattle.model.specs.declared.Shape.{Shape}
use Rattle.model.proofs.Strikes.{slots-append}
use Rattle.cells.specs.Orders.{Deeper}
use Rattle.cells.specs.Slots.{left_at, right_at, numbers_of, Slot, Room}
use Rattle.cells.proofs.Writes.{sets-append}
use Rattle.cells.proofs.Slots.{numbers-long}
use Rattle.ask.specs.Standing.{Stands, Standing}
use Rattle.ask.specs.Boxes.{Weighed, boxed, slots_in, noting, Noted, Collected}
use Rattle.ask.specs.declared.boxes.Sides.{Sides}
use Rattle.ask.proofs.Boxed.{lower-shut, upper-shut, box-field, boxed-append, boxed-one, boxed-few, none-boxed}
use Rattle.ask.proofs.Cuts.{cut-least}
use Rattle.ask.proofs.Standing.{top, lefts, rights, stands-left, stands-right, items-top, many, none-stands}
use Rattle.ask.proofs.Walks.{keyed-in}

-- what one of the sides of whatever stands at s leaves behind
abbrev pub Step : List Bound → List ℕ → List ℕ → ℕ → ℕ → Tree → Type 0
Step bs before after at r u = (r ≡ at + length (slots_in bs u)) × (after ≡ sets before at (slots_in bs u))

skipped : (bs : List Bound) (before : List ℕ) (at : ℕ) (u : Tree) → boxed bs (items u) ≡ [] → Step bs before before at at u
skipped bs before at u e = let f : slots_in bs u ≡ [] = ap slots_of e in (rw f (sym (add-zero at)), rw f refl)

pub collected-nil : (K : ℕ) (ks : List ℤ) (ls : List ℕ) (s c : ℕ) (bs : List Bound) (before : List ℕ) (at : ℕ) → s ≡ 0 → Collected K ks ls s c bs before before at at
collected-nil K ks ls s c bs before at e =
    record { next = λ u st. (skipped bs before at u (ap (λ (v : Tree). boxed bs (items v)) (none-stands K ks ls s c e u st))).0; written = λ u st. (skipped bs before at u (ap (λ (v : Tree). boxed bs (items v)) (none-stands K ks ls s c e u st))).1 }

-- the lower side of slot s done, and the upper one: each taken or left out
pub record Lower (K : ℕ) (ks : List ℤ) (ls : List ℕ) (s c : ℕ) (bs : List Bound) (ne : ¬ (s ≡ 0)) (before after : List ℕ) (at r : ℕ) : Type 0 where
  pub step : (u : Tree) (st : Stands K ks ls s c u) → Step bs before after at r (top K ks ls s c ne u st).l

pub record Upper (K : ℕ) (ks : List ℤ) (ls : List ℕ) (s c : ℕ) (bs : List Bound) (ne : ¬ (s ≡ 0)) (before after : List ℕ) (at r : ℕ) : Type 0 where
  pub step : (u : Tree) (st : Stands K ks ls s c u) → Step bs before after at r (top K ks ls s c ne u st).r

module _ (S : Shape) (ks : List ℤ) (ls : List ℕ) (s c : ℕ) (bs : List Bound) (m : Room S (length ks) (length ls)) (h : c < S.k) (four : length bs ≡ 4) (ne : ¬ (s ≡ 0)) (w : Sides) (wt : Weighed bs (numbers_of S.k ks s) c w) where
  long : (j : ℕ) → Slot (length ls) j → length (numbers_of S.k ks j) ≡ S.k
  long j o = numbers-long S.k ks j (keyed-in S (length ks) (length ls) j m (λ e. (let a = o.some in omega arith)) (let a : 3 * j ≤ length ls = o.fits in let b = m.long in omega arith))

  in_bounds : c < length bs
  in_bounds = let a = m.k_high in omega arith

  pub lower-taken : (c' l : ℕ) (before after : List ℕ) (at r : ℕ) → Deeper S.k c c' → l ≡ left_at ls s → Collected S.k ks ls l c' bs before after at r → Lower S.k ks ls s c bs ne before after at r
  lower-taken c' l before after at r d e g = record {
    step = λ u st. (
        let q : Stands S.k ks ls l c' (top S.k ks ls s c ne u st).l = rw e (stands-left S.k ks ls s c ne u st c' d) in
        (g.next (top S.k ks ls s c ne u st).l q, g.written (top S.k ks ls s c ne u st).l q));
  }

  pub upper-taken : (c' l : ℕ) (before after : List ℕ) (at r : ℕ) → Deeper S.k c c' → l ≡ right_at ls s → Collected S.k ks ls l c' bs before after at r → Upper S.k ks ls s c bs ne before after at r
  upper-taken c' l before after at r d e g = record {
    step = λ u st. (
        let q : Stands S.k ks ls l c' (top S.k ks ls s c ne u st).r = rw e (stands-right S.k ks ls s c ne u st c' d) in
        (g.next (top S.k ks ls s c ne u st).r q, g.written (top S.k ks ls s c ne u st).r q));
  }

  pub lower-skipped : (before : List ℕ) (at : ℕ) → w.lower ≡ false → Lower S.k ks ls s c bs ne before before at at
  lower-skipped before at e = record {
    step = λ u st. (
        let n = top S.k ks ls s c ne u st in
        skipped bs before at n.l (none-boxed S.k ks ls bs (λ x. is_less (cmp st.depth x (numbers_of S.k ks s))) long
        (λ x lx less. box-field bs x c in_bounds (rw lx h) (lower-shut (get_or bs c Free) (get_or (numbers_of S.k ks s) c (pos 0)) (get_or x c (pos 0)) (sym wt.lower ∙ e) (cut-least S.k st.depth c x (numbers_of S.k ks s) lx (long s n.slot) st.cut h less)))
        (left_at ls s) n.l n.left (lefts S.k ks ls s c ne u st)));
  }

  pub upper-skipped : (before : List ℕ) (at : ℕ) → w.upper ≡ false → Upper S.k ks ls s c bs ne before before at at
  upper-skipped before at e = record {
    step = λ u st. (
        let n = top S.k ks ls s c ne u st in
        skipped bs before at n.r (none-boxed S.k ks ls bs (λ x. is_less (cmp st.depth (numbers_of S.k ks s) x)) long
        (λ x lx less. box-field bs x c in_bounds (rw lx h) (upper-shut (get_or bs c Free) (get_or (numbers_of S.k ks s) c (pos 0)) (get_or x c (pos 0)) (sym wt.upper ∙ e) (cut-least S.k st.depth c (numbers_of S.k ks s) x (long s n.slot) lx st.cut h less)))
        (right_at ls s) n.r n.right (rights S.k ks ls s c ne u st)));
  }

  -- the three together
  pub collected-node : (b b₁ b₂ b₃ : List ℕ) (at k n r : ℕ) → Lower S.k ks ls s c bs ne b b₁ at k → Noted w.here s b₁ b₂ k n → Upper S.k ks ls s c bs ne b₂ b₃ n r → Collected S.k ks ls s c bs b b₃ at r
  collected-node b b₁ b₂ b₃ at k n r lo hi up = record { next = nexts; written = writes }
    where
      here : noting (in_box bs (numbers_of S.k ks s)) s ≡ noting w.here s
      here = ap (λ (o : Bool). noting o s) (sym wt.here)

      whole : (u : Tree) (st : Stands S.k ks ls s c u) → slots_in bs u ≡ slots_in bs (top S.k ks ls s c ne u st).l ++ (noting w.here s ++ slots_in bs (top S.k ks ls s c ne u st).r)
      whole u st =
          let t = top S.k ks ls s c ne u st in
          let i : Item = record { slot = s; entry = numbers_of S.k ks s } in
          ap (λ is. slots_of (boxed bs is)) (items-top S.k ks ls s c ne u st) ∙ ap slots_of (boxed-append bs (items t.l) (i ∷ items t.r)) ∙ slots-append (boxed bs (items t.l)) (boxed bs (i ∷ items t.r))
          ∙ ap (λ x. slots_in bs t.l ++ x) (boxed-one bs i (items t.r) ∙ ap (λ x. x ++ slots_in bs t.r) here)

      nexts : (u : Tree) → Stands S.k ks ls s c u → r ≡ at + length (slots_in bs u)
      nexts u st =
          let t = top S.k ks ls s c ne u st in
          let x = (lo.step u st).0 in
          let y = hi.next in
          let z = (up.step u st).0 in
          rw (whole u st, length-append (slots_in bs t.l) (noting w.here s ++ slots_in bs t.r), length-append (noting w.here s) (slots_in bs t.r)) (omega arith)

      writes : (u : Tree) → Stands S.k ks ls s c u → b₃ ≡ sets b at (slots_in bs u)
      writes u st =
          let t = top S.k ks ls s c ne u st in
          rw (whole u st, sets-append b at (slots_in bs t.l) (noting w.here s ++ slots_in bs t.r), ← (lo.step u st).1, ← (lo.step u st).0, sets-append b₁ k (noting w.here s) (slots_in bs t.r), ← hi.written, ← hi.next) (up.step u st).1

  -- what the calls at the node ask
  module _ (most : ℕ) (g : Standing S.k ks ls s c most) where
    its : length (items g.tree) ≡ length (items (top S.k ks ls s c ne g.tree g.stands).l) + suc (length (items (top S.k ks ls s c ne g.tree g.stands).r))
    its = many S.k ks ls s c ne g.tree g.stands

    module _ (b b₁ : List ℕ) (at k : ℕ) (lo : Lower S.k ks ls s c bs ne b b₁ at k) (fit : at ≤ length b) (room : most ≡ length b - at) where
      pub lower_long : length b₁ ≡ length b
      lower_long = ap length (lo.step g.tree g.stands).1 ∙ length-sets b at (slots_in bs (top S.k ks ls s c ne g.tree g.stands).l)

      pub note-fits : k < length b₁
      note-fits =
          let a = (lo.step g.tree g.stands).0 in
          let f = boxed-few bs (items (top S.k ks ls s c ne g.tree g.stands).l) in
          let i = its in
          let e = g.few in
          rw lower_long (omega arith)

      module _ (b₂ : List ℕ) (n : ℕ) (hi : Noted w.here s b₁ b₂ k n) where
        pub noted-long : length b₂ ≡ length b
        noted-long = ap length hi.written ∙ length-sets b₁ k (noting w.here s) ∙ lower_long

        few-noted : (o : Bool) → length (noting o s) ≤ 1
        few-noted true = omega arith
        few-noted false = omega arith

        pub upper_fits : n ≤ length b₂
        upper_fits = let a = hi.next in let f = few-noted w.here in let e = note-fits in let z = lower_long in rw noted-long (omega arith)

        pub upper-stands : (c' l : ℕ) → Deeper S.k c c' → l ≡ right_at ls s → Standing S.k ks ls l c' (length b₂ - n)
        upper-stands c' l d q = record {
          tree = (top S.k ks ls s c ne g.tree g.stands).r;
          stands = rw q (stands-right S.k ks ls s c ne g.tree g.stands c' d);
          few =
              let a = (lo.step g.tree g.stands).0 in
              let f = boxed-few bs (items (top S.k ks ls s c ne g.tree g.stands).l) in
              let i = its in
              let e = g.few in
              let j = hi.next in
              let k = few-noted w.here in
              rw noted-long (omega arith);
        }
