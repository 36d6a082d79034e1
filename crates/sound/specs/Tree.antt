-- What the pass over the tree decides.
use Rattle.std.specs.Prelude.{◌≡◌, List, ℕ, suc, ◌+◌, ◌≤◌, ◌<◌, max, length, get_or, ℤ, pos, Option, None, Some}
use Prim.Native.Nat.{Ordering}
use Rattle.model.specs.Entry.{Entry, cut_field}
use Rattle.model.specs.Number.{order}
use Rattle.model.specs.Tree.{Tree, size}
use Rattle.model.specs.declared.Shape.{Shape}
use Rattle.model.proofs.Trees.{All, Balanced, Even, Less, Ordered}
use Rattle.cells.specs.Slots.{left_at, right_at, height_at, tall, numbers_of}
use Rattle.cells.specs.Memory.{Rep}

-- slot a is before slot b at every depth that is cut at c, where both are slots
abbrev pub Before : ℕ → List ℤ → ℕ → ℕ → ℕ → Type 0
Before K ks c a b = ¬ (a ≡ 0) → ¬ (b ≡ 0) → (t : ℕ) → cut_field K t ≡ c → Less t (numbers_of K ks a) (numbers_of K ks b)

-- the two sides of an entry, where the bound of a side and a cut lies, and what it says of an entry
pub data Side : Type 0 where
  low : Side
  high : Side

abbrev pub place : Side → ℕ → ℕ
place low c = c
place high c = 4 + c

abbrev pub Beyond : Side → ℕ → Entry → Entry → Type 0
Beyond low t b e = Less t b e
Beyond high t b e = Less t e b

-- a bound of 0 is none
abbrev pub Within : ℕ → List ℤ → List ℕ → Entry → Side → ℕ → Type 0
Within K ks bs e d t = ¬ (get_or bs (place d (cut_field K t)) 0 ≡ 0) → Beyond d t (numbers_of K ks (get_or bs (place d (cut_field K t)) 0)) e

pub record Inside (K : ℕ) (ks : List ℤ) (bs : List ℕ) (e : Entry) : Type 0 where
  pub long : length e ≡ K
  pub within : (d : Side) (t : ℕ) → Within K ks bs e d t

pub record BoundsIn (C : ℕ) (bs : List ℕ) : Type 0 where
  pub fits : (j : ℕ) → get_or bs j 0 ≤ C

abbrev pub Between : ℤ → ℤ → ℤ → Type 0
Between a x b = (order a x ≡ Ordering.lt) × (order x b ≡ Ordering.lt)

-- each of the first K numbers of an entry is between its two edges
pub record Amid (K : ℕ) (es : List ℤ) (e : Entry) : Type 0 where
  pub between : (c : ℕ) → c < K → Between (get_or es (place low c) (pos 0)) (get_or e c (pos 0)) (get_or es (place high c) (pos 0))

-- the edge of a side and a cut is its bound's number in the field of the cut; where there is no bound it is any
pub record Edged (K : ℕ) (ks : List ℤ) (bs : List ℕ) (es : List ℤ) : Type 0 where
  pub eight : length es ≡ 8
  pub edge : (d : Side) (c : ℕ) → c < K → ¬ (get_or bs (place d c) 0 ≡ 0) → get_or es (place d c) (pos 0) ≡ get_or (numbers_of K ks (get_or bs (place d c) 0)) c (pos 0)

-- h is one more than the higher of two that are even enough
pub record Over (h a b : ℕ) : Type 0 where
  pub top : h ≡ suc (max a b)
  pub near : Even a b

-- what can be said of the links of slot s
pub record Tops (ls : List ℕ) (C s : ℕ) : Type 0 where
  pub left_in : left_at ls s ≤ C
  pub right_in : right_at ls s ≤ C
  pub top : height_at ls s ≡ suc (max (tall ls (left_at ls s)) (tall ls (right_at ls s)))
  pub near : Even (tall ls (left_at ls s)) (tall ls (right_at ls s))

-- the tables hold at s, from depth t on, a tree with order, right heights and balance, inside the bounds
pub record Grown (K : ℕ) (ks : List ℤ) (ls : List ℕ) (t s : ℕ) (bs : List ℕ) : Type 0 where
  pub tree : Tree
  pub rep : Rep K ks ls s tree
  pub ordered : Ordered t tree
  pub even : Balanced tree
  pub inside : All (Inside K ks bs) tree

pub record Good (K : ℕ) (ks : List ℤ) (ls : List ℕ) (t s left : ℕ) (bs : List ℕ) (r : ℕ) : Type 0 where
  pub grown : Grown K ks ls t s bs
  pub count : size grown.tree + r ≡ left

-- at every depth that is cut at c: such a tree of at most `left` entries, and r is what is left of them; none where there is no such tree
pub record Judged (K : ℕ) (ks : List ℤ) (ls : List ℕ) (c s left : ℕ) (bs : List ℕ) (r : Option ℕ) : Type 0 where
  pub good : (m : ℕ) → r ≡ Some m → (t : ℕ) → cut_field K t ≡ c → Good K ks ls t s left bs m
  pub bad : r ≡ None → (t : ℕ) → cut_field K t ≡ c → (x : Grown K ks ls t s bs) → size x.tree ≤ left → ⊥

-- what the pass asks beside a pool
pub record Asked (S : Shape) (cut : ℕ) (bs : List ℕ) : Type 0 where
  pub cut_in : cut < S.k
  pub eight : length bs ≡ 8
  pub bounds : BoundsIn S.c bs

-- the tables hold at the root a tree of n entries with order, right heights and balance
pub record Whole (K : ℕ) (ks : List ℤ) (ls : List ℕ) (root n : ℕ) : Type 0 where
  pub tree : Tree
  pub rep : Rep K ks ls root tree
  pub ordered : Ordered 0 tree
  pub even : Balanced tree
  pub count : size tree ≡ n
