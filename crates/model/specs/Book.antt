-- A book: its tree and its chain of free slots; and the lent memory of a book, cell by cell.
use Rattle.std.specs.Prelude.{List, [], ◌∷◌, ◌++◌, true, false, ℕ, zero, suc, eqb, replicate, ℤ, pos}
use Rattle.model.specs.Entry.{Entry}
use Rattle.model.specs.Tree.{Tree, nil, node, height, size, root_slot}
use Rattle.model.specs.Add.{insert}
use Rattle.model.specs.Strike.{strike, freed}
use Rattle.model.specs.declared.Head.{Head}

pub record Book : Type 0 where
  pub tree : Tree
  pub chain : List ℕ

-- So many slots from s on.
unfoldable pub up_from : ℕ → ℕ → List ℕ
up_from zero s = []
up_from (suc n) s = s ∷ up_from n (suc s)

-- A fresh pool has no entry and chains 1, 2, .. C. (Rules of the tree, Free slots.)
unfoldable pub fresh : ℕ → Book
fresh C = record { tree = nil; chain = up_from C 1 }

abbrev pub first : List ℕ → ℕ
first [] = 0
first (s ∷ ss) = s

abbrev pub rest : List ℕ → List ℕ
rest [] = []
rest (s ∷ ss) = ss

-- The new entry takes the first free slot. (Rules of the tree, Add, Free slots.)
unfoldable pub added : Entry → Book → Book
added e b = record { tree = insert 0 (record { slot = first b.chain; entry = e }) b.tree; chain = rest b.chain }

-- The slot that is given up goes to the front of the chain. (Rules of the tree, Strike, Free slots.)
unfoldable pub struck : Entry → Book → Book
struck e b = record { tree = strike 0 e b.tree; chain = freed 0 e b.tree ∷ b.chain }

-- What one slot holds: left, right, height and its K numbers. (The book and its edges: lent memory.)
pub record Cell : Type 0 where
  pub left : ℕ
  pub right : ℕ
  pub high : ℕ
  pub key : Entry

-- A used slot holds its children's slots, its height and its entry; one that is not in the tree holds what `d` says.
unfoldable pub cell_in : ℕ → Tree → Cell → Cell
cell_in s nil d = d
cell_in s (node i l r) d =
    elim (eqb s i.slot) [
      | true ↦ record { left = root_slot l; right = root_slot r; high = height (node i l r); key = i.entry }
      | false ↦ cell_in s l (cell_in s r d)
    ]

-- The slot behind s in a chain; 0 behind the last.
unfoldable pub behind : ℕ → List ℕ → ℕ
behind s [] = 0
behind s (f ∷ fs) = elim (eqb s f) [ true ↦ first fs | false ↦ behind s fs ]

-- A free slot is chained through left; its numbers, right and height are 0. (Rules of the tree, Free slots.)
unfoldable pub cell : ℕ → Book → ℕ → Cell
cell K b s = cell_in s b.tree (record { left = behind s b.chain; right = 0; high = 0; key = replicate K (pos 0) })

abbrev pub link_cells : ℕ → Book → List ℕ → List ℕ
link_cells K b [] = []
link_cells K b (s ∷ ss) = let c : Cell = cell K b s in c.left ∷ c.right ∷ c.high ∷ link_cells K b ss

abbrev pub key_cells : ℕ → Book → List ℕ → List ℤ
key_cells K b [] = []
key_cells K b (s ∷ ss) = (cell K b s).key ++ key_cells K b ss

-- The link table: left, right, height of slot 1, then of slot 2, up to C. (The book and its edges: 3·C link numbers.)
unfoldable pub links : ℕ → ℕ → Book → List ℕ
links K C b = link_cells K b (up_from C 1)

-- The key table: the K numbers of slot 1, then of slot 2, up to C. (The book and its edges: K·C numbers.)
unfoldable pub keys : ℕ → ℕ → Book → List ℤ
keys K C b = key_cells K b (up_from C 1)

-- The head of a book. (The book and its edges: K, C, root, first free slot, count n.)
unfoldable pub head_of : ℕ → ℕ → Book → Head
head_of K C b = record { k = K; c = C; root = root_slot b.tree; free = first b.chain; n = size b.tree }
