-- Two heights against each other, and how high a tree in a pool can be.
use mathlib.Core.Path.{◌≡◌, sym, ap₂, ◌∙◌}
use mathlib.Core.Bool.{Bool}
use mathlib.Core.List.{List, ◌∷◌}
use Prim.Native.Nat.{ℕ, ◌*◌, ◌≤◌}
use native.Mathlib.Decide.{dec_le}
use native.Mathlib.Omega.{arith}
use lib.ListN.{length, length-append}
use lib.IntN.{ℤ}
use Rattle.model.specs.Tree.{Tree, nil, node, height, items, even}
use Rattle.model.proofs.Lists.{Every, OnceEach, every-join, perm-length}
use Rattle.model.proofs.Crowd.{InPool, crowd, up-length}
use Rattle.model.proofs.Strikes.{slots, slots-append}
use Rattle.cells.specs.Slots.{left_at, right_at}
use Rattle.cells.specs.Memory.{Rep}

-- the test was on two numbers that are these heights
pub even-told : {a b x y : ℕ} {o r : Bool} → a ≡ x → b ≡ y → r ≡ even a b → r ≡ o → o ≡ even x y
even-told ea eb e q = sym q ∙ e ∙ ap₂ even ea eb

-- ---- the height of a tree in a pool

pub few : (C : ℕ) (xs : List ℕ) → OnceEach xs → Every (InPool C) xs → length xs ≤ C
few C xs o p = go (dec_le (length xs) C)
  where
    go : Dec (length xs ≤ C) → length xs ≤ C
    go (yes le) = le
    go (no gt) = let e = perm-length (crowd C xs o p (omega arith)) in let f = up-length C 1 in omega arith

pub low-tree : (u : Tree) → height u ≤ length (slots u)
low-tree nil = omega arith
low-tree (node i l r) = let a = low-tree l in let b = low-tree r in rw (slots-append (items l) (i ∷ items r), length-append (slots l) (i.slot ∷ slots r)) (omega arith)

pub rep-pool : (K C : ℕ) (ks : List ℤ) (ls : List ℕ) → length ls ≡ 3 * C → (s : ℕ) (u : Tree) → Rep K ks ls s u → Every (InPool C) (slots u)
rep-pool K C ks ls n s nil p = tt
rep-pool K C ks ls n s (node i l r) p =
    let f : 3 * i.slot ≤ length ls = p.1.fits in
    rw (slots-append (items l) (i ∷ items r)) (every-join (InPool C) (slots l) (i.slot ∷ slots r) (rep-pool K C ks ls n (left_at ls i.slot) l p.4) ((p.1.some, omega arith), rep-pool K C ks ls n (right_at ls i.slot) r p.5))
