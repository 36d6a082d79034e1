-- Trees in lent memory: what lies where, what a store changes and what it leaves.
use Rattle.std.specs.Prelude.{◌≡◌, ◌⊎◌, List, [], ◌∷◌, ℕ, ◌≤◌, length, replicate, ℤ, pos}
use Rattle.std.proofs.lemmas.List.Edits.{sets}
use Rattle.model.specs.Entry.{Entry}
use Rattle.model.specs.Tree.{Tree, nil, node, height}
use Rattle.cells.specs.Slots.{address_of, left_at, right_at, height_at, numbers_of, Slot}

-- the tables ks and ls hold the tree u at s
abbrev pub Rep : ℕ → List ℤ → List ℕ → ℕ → Tree → Type 0
Rep K ks ls s nil = s ≡ 0
Rep K ks ls s (node i l r) =
    (s ≡ i.slot) × Slot (length ls) i.slot × (numbers_of K ks i.slot ≡ i.entry) × (height_at ls i.slot ≡ height (node i l r))
    × Rep K ks ls (left_at ls i.slot) l × Rep K ks ls (right_at ls i.slot) r

abbrev pub In : ℕ → List ℕ → Type 0
In j [] = ⊥
In j (x ∷ xs) = (j ≡ x) ⊎ In j xs

-- slot j holds in ks' and ls' what it held in ks and ls
pub record Same (K : ℕ) (ks ks' : List ℤ) (ls ls' : List ℕ) (j : ℕ) : Type 0 where
  pub left : left_at ls' j ≡ left_at ls j
  pub right : right_at ls' j ≡ right_at ls j
  pub high : height_at ls' j ≡ height_at ls j
  pub numbers : numbers_of K ks' j ≡ numbers_of K ks j

-- every slot from 1 on but those of js holds what it held
abbrev pub Frame : ℕ → List ℤ → List ℤ → List ℕ → List ℕ → List ℕ → Type 0
Frame K ks ks' ls ls' js = (j : ℕ) → 1 ≤ j → ¬ (In j js) → Same K ks ks' ls ls' j

-- slot s after its links were written, and every other slot
pub record Put (ls ls' : List ℕ) (s l r h : ℕ) : Type 0 where
  pub left : left_at ls' s ≡ l
  pub right : right_at ls' s ≡ r
  pub high : height_at ls' s ≡ h
  pub others : (K : ℕ) (ks : List ℤ) → Frame K ks ks ls ls' (s ∷ [])

-- slot s after its numbers were written, and every other slot
pub record Wrote (K : ℕ) (ks ks' : List ℤ) (s : ℕ) (e : Entry) : Type 0 where
  pub exactly : ks' ≡ sets ks (address_of K s) e
  pub numbers : numbers_of K ks' s ≡ e
  pub others : (ls : List ℕ) → Frame K ks ks' ls ls (s ∷ [])

-- slot s given back in front of the slot f, and every other slot
pub record Released (K : ℕ) (ks ks' : List ℤ) (ls ls' : List ℕ) (s f : ℕ) : Type 0 where
  pub left : left_at ls' s ≡ f
  pub right : right_at ls' s ≡ 0
  pub high : height_at ls' s ≡ 0
  pub numbers : numbers_of K ks' s ≡ replicate K (pos 0)
  pub others : Frame K ks ks' ls ls' (s ∷ [])

-- slot s taken for the entry e from in front of the slot f, and every other slot
pub record Claimed (K : ℕ) (ks ks' : List ℤ) (ls ls' : List ℕ) (s : ℕ) (e : Entry) (f : ℕ) : Type 0 where
  pub behind : f ≡ left_at ls s
  pub leaf : Rep K ks' ls' s (node (record { slot = s; entry = e }) nil nil)
  pub others : Frame K ks ks' ls ls' (s ∷ [])
