-- What `gather` needs: stores of one list behind another, and that the slots of a tree lie in its links alone.
use mathlib.Core.Path.{◌≡◌, sym, ap, ap₂, ◌∙◌}
use mathlib.Core.List.{List, [], ◌∷◌, ◌++◌, append_assoc}
use Prim.Native.Nat.{ℕ, suc, ◌+◌, ◌-◌, ◌≤◌, ◌<◌, max}
use native.Mathlib.Omega.{arith}
use native.Mathlib.Numerals.{add-one}
use lib.ListN.{length, set, take, drop, length-set, length-append}
use lib.Seq.{sets, sets-eq}
use lib.IntN.{ℤ}
use Rattle.model.specs.Tree.{Tree, nil, node, height, items}
use Rattle.model.proofs.Strikes.{slots, slots-append}
use Rattle.cells.specs.Slots.{left_at, right_at, tall}
use Rattle.cells.specs.Memory.{Rep}
use Rattle.cells.proofs.Writes.{sets-append}
use Rattle.cells.proofs.Slots.{tall-slot}
use Rattle.cells.proofs.Reps.{Node, open-node, open-nil, tall-rep}
use Rattle.build.specs.Rebuilding.{Fitting, Gathered}

placed : (vs l : List ℕ) (i : ℕ) → i + length vs ≤ length l → sets l i vs ≡ take i l ++ (vs ++ drop (i + length vs) l)
placed vs l i h = sets-eq vs l i h ∙ append_assoc (take i l) vs (drop (i + length vs) l)

-- the slots of a node: of its left side, itself, of its right side
node-slots : (K : ℕ) (ks : List ℤ) (ls : List ℕ) (s : ℕ) (u : Tree) → (n : Node K ks ls s u) → slots u ≡ slots n.l ++ (s ∷ slots n.r)
node-slots K ks ls s u n = ap slots n.is ∙ slots-append (items n.l) (n.item ∷ items n.r) ∙ ap (λ (x : ℕ). slots n.l ++ (x ∷ slots n.r)) n.here

slots_same : (K K' : ℕ) (ks ks' : List ℤ) (ls : List ℕ) (s : ℕ) (u w : Tree) → Rep K ks ls s u → Rep K' ks' ls s w → slots u ≡ slots w
slots_same K K' ks ks' ls s nil w p q = ap slots (sym (open-nil K' ks' ls s w q p))
slots_same K K' ks ks' ls s (node i l r) nil p q = ap slots (open-nil K ks ls s (node i l r) p q)
slots_same K K' ks ks' ls s (node i l r) (node j l' r') p q =
    let e : i.slot ≡ j.slot = sym p.0 ∙ q.0 in
    let a : slots l ≡ slots l' = slots_same K K' ks ks' ls (left_at ls i.slot) l l' p.4 (rw e q.4) in
    let b : slots r ≡ slots r' = slots_same K K' ks ks' ls (right_at ls i.slot) r r' p.5 (rw e q.5) in
    slots-append (items l) (i ∷ items r) ∙ ap₂ ◌++◌ a (ap₂ ◌∷◌ e b) ∙ sym (slots-append (items l') (j ∷ items r'))

pub gathered-nil : (ls sc : List ℕ) (s at : ℕ) → at ≤ length sc → s ≡ 0 → Gathered ls sc sc s at at
gathered-nil ls sc s at le e = record {
  next = λ K ks u p. rw (open-nil K ks ls s u p e) (omega arith);
  written = λ K ks u p. rw (open-nil K ks ls s u p e) (placed [] sc at (omega arith));
}

-- at the calls of `gather`: f says that the tree fits, and l and r are the children
module _ (ls : List ℕ) (s at n : ℕ) (f : Fitting ls s (n - at)) (ne : s ≡ 0 → ⊥) where
  pub top : Node f.K f.ks ls s f.tree
  top = open-node f.K f.ks ls s f.tree f.rep ne

  all_slots : length (slots f.tree) ≡ length (slots top.l) + suc (length (slots top.r))
  all_slots = ap length (node-slots f.K f.ks ls s f.tree top) ∙ length-append (slots top.l) (s ∷ slots top.r)

  tall-top : tall ls s ≡ suc (max (height top.l) (height top.r))
  tall-top = tall-slot ls s ne ∙ top.high

  pub left-falls : (l : ℕ) → l ≡ left_at ls s → tall ls l < tall ls s
  left-falls l e = let h : tall ls l ≡ height top.l = rw e (tall-rep f.K f.ks ls (left_at ls s) top.l top.left) in let g = tall-top in omega arith

  pub right-falls : (r : ℕ) → r ≡ right_at ls s → tall ls r < tall ls s
  right-falls r e = let h : tall ls r ≡ height top.r = rw e (tall-rep f.K f.ks ls (right_at ls s) top.r top.right) in let g = tall-top in omega arith

  pub left-fits : (l : ℕ) → l ≡ left_at ls s → Fitting ls l (n - at)
  left-fits l e = record { K = f.K; ks = f.ks; tree = top.l; rep = rw e top.left; enough = let a = all_slots in let b = f.enough in omega arith }

  module _ (sc sc₁ : List ℕ) (l k : ℕ) (e : l ≡ left_at ls s) (a : Gathered ls sc sc₁ l at k) (le : at ≤ n) where
    at-k : k ≡ at + length (slots top.l)
    at-k = a.next f.K f.ks top.l (rw e top.left)

    pub in-room : k < n
    in-room = let x = at-k in let y = all_slots in let z = f.enough in omega arith

    pub right-fits : (r : ℕ) → r ≡ right_at ls s → Fitting ls r (n - (k + 1))
    right-fits r e = record { K = f.K; ks = f.ks; tree = top.r; rep = rw e top.right; enough = let x = at-k in let y = all_slots in let z = f.enough in omega arith }

pub gathered-node : (ls sc sc₁ sc₂ : List ℕ) (s at k x l r : ℕ) → at ≤ length sc → Fitting ls s (length sc - at) → (s ≡ 0 → ⊥) → length sc₁ ≡ length sc
    → l ≡ left_at ls s → Gathered ls sc sc₁ l at k → r ≡ right_at ls s → Gathered ls (set sc₁ k s) sc₂ r (k + 1) x → Gathered ls sc sc₂ s at x
gathered-node ls sc sc₁ sc₂ s at k x l r le f ne n₁ el a er b = record { next = nxt; written = wri }
  where
    nxt : (K : ℕ) (ks : List ℤ) (u : Tree) → Rep K ks ls s u → x ≡ at + length (slots u)
    nxt K ks u p =
        let n : Node K ks ls s u = open-node K ks ls s u p ne in
        let y : k ≡ at + length (slots n.l) = a.next K ks n.l (rw el n.left) in
        let z : x ≡ k + 1 + length (slots n.r) = b.next K ks n.r (rw er n.right) in
        rw (node-slots K ks ls s u n, length-append) (omega arith)

    wri : (K : ℕ) (ks : List ℤ) (u : Tree) → Rep K ks ls s u → sc₂ ≡ take at sc ++ (slots u ++ drop (at + length (slots u)) sc)
    wri K ks u p =
        let n : Node K ks ls s u = open-node K ks ls s u p ne in
        let i : List ℕ = slots n.l in
        let j : List ℕ = slots n.r in
        let whole : slots u ≡ i ++ (s ∷ j) = node-slots K ks ls s u n in
        let many : length (slots u) ≡ length i + suc (length j) = ap length whole ∙ length-append i (s ∷ j) in
        let few : length (slots u) ≤ length sc - at = rw (slots_same K f.K ks f.ks ls s u f.tree p f.rep) f.enough in
        let long : length (set sc₁ k s) ≡ length sc = length-set sc₁ k s ∙ n₁ in
        let y : k ≡ at + length i = a.next K ks n.l (rw el n.left) in
        let first : sets sc at i ≡ sc₁ = placed i sc at (omega arith) ∙ sym (a.written K ks n.l (rw el n.left)) in
        let second : sets (set sc₁ k s) (suc k) j ≡ sc₂ = placed j (set sc₁ k s) (suc k) (omega arith) ∙ sym (rw add-one at (b.written K ks n.r (rw er n.right))) in
        let both : sets sc at (i ++ (s ∷ j)) ≡ sc₂ = sets-append sc at i (s ∷ j) ∙ rw (first, ← y) second in
        sym both ∙ rw (← whole) (placed (slots u) sc at (omega arith))
