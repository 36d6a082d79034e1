-- A pool: a head and two lent lists, whatever they hold. Reading a book back from it, and when it is sound.
use Rattle.std.specs.Prelude.{List, [], ◌∷◌, Bool, true, false, ◌&&◌, leb, eqb, length, take, drop, get_or, ℤ, pos}
use Prim.Native.Nat.{ℕ, zero, suc, ◌+◌, ◌*◌, Ordering}
use Rattle.std.proofs.Math.Dec.{compare_is_eq}
use Rattle.model.specs.Number.{order}
use Rattle.model.specs.Entry.{Entry, cmp}
use Rattle.model.specs.Tree.{Tree, nil, node, height, size, balanced, ordered}
use Rattle.model.specs.Book.{Book, Cell}
use Rattle.model.specs.declared.Head.{Head}

-- The K numbers of slot suc n: its part of the key table, from K·n on. (The book and its edges: slot s from K·(s-1).)
abbrev pub numbers_at : ℕ → List ℤ → ℕ → Entry
numbers_at K ks n = take K (drop (K * n) ks)

-- What slot s holds: its links from 3·(s-1), its numbers from its part of the key table. (The book and its edges: lent memory.)
abbrev pub cell_of : ℕ → List ℤ → List ℕ → ℕ → Cell
cell_of K ks ls zero = record { left = 0; right = 0; high = 0; key = [] }
cell_of K ks ls (suc n) = record { left = get_or ls (3 * n) 0; right = get_or ls (3 * n + 1) 0; high = get_or ls (3 * n + 2) 0; key = numbers_at K ks n }

-- The tree that is read from slot s on, and the chain, each cut off after `most` slots in a row.
unfoldable pub tree_from : ℕ → (ℕ → Cell) → ℕ → Tree
tree_from zero f s = nil
tree_from (suc most) f zero = nil
tree_from (suc most) f (suc n) =
    node (record { slot = suc n; entry = (f (suc n)).key }) (tree_from most f (f (suc n)).left) (tree_from most f (f (suc n)).right)

unfoldable pub chain_from : ℕ → (ℕ → Cell) → ℕ → List ℕ
chain_from zero f s = []
chain_from (suc most) f zero = []
chain_from (suc most) f (suc n) = suc n ∷ chain_from most f (f (suc n)).left

-- The book that is read from a pool. In C slots nothing in order goes on for longer than C.
unfoldable pub book_of : Head → List ℤ → List ℕ → Book
book_of h ks ls =
    let f : ℕ → Cell = cell_of h.k ks ls in
    record { tree = tree_from h.c f h.root; chain = chain_from h.c f h.free }

abbrev pub in_pool : ℕ → ℕ → Bool
in_pool C s = leb 1 s && leb s C

-- This tree lies from slot s on: every slot in 1..C, the links those of the tree, its heights right. A cut-off tree lies nowhere.
abbrev pub laid : (ℕ → Cell) → ℕ → ℕ → Tree → Bool
laid f C s nil = eqb s 0
laid f C s (node i l r) =
    (eqb s i.slot && in_pool C s)
    && (eqb (f s).high (height (node i l r)) && (laid f C (f s).left l && laid f C (f s).right r))

abbrev pub zeros : List ℤ → Bool
zeros [] = true
zeros (x ∷ xs) = compare_is_eq (order x (pos 0)) && zeros xs

-- These slots are the chain from s on, which ends at 0; each is cleared: numbers, right and height 0.
abbrev pub strung : (ℕ → Cell) → ℕ → ℕ → List ℕ → Bool
strung f C s [] = eqb s 0
strung f C s (c ∷ cs) =
    (eqb s c && in_pool C s)
    && ((eqb (f s).right 0 && (eqb (f s).high 0 && zeros (f s).key)) && strung f C (f s).left cs)

-- Root and first free in 0..C; the tree lies there in order, with right heights and balance; it has n entries; the chain ends after
-- exactly the C-n other slots, each cleared. (Rules of the tree: when a pool is sound.)
unfoldable pub fitting : Head → (ℕ → Cell) → Book → Bool
fitting h f b =
    (leb h.root h.c && leb h.free h.c)
    && ((laid f h.c h.root b.tree && (ordered 0 b.tree && (balanced b.tree && eqb (size b.tree) h.n)))
    && (strung f h.c h.free b.chain && eqb (h.n + length b.chain) h.c))

unfoldable pub sound : Head → List ℤ → List ℕ → Bool
sound h ks ls = fitting h (cell_of h.k ks ls) (book_of h ks ls)

-- At most so many entries are read. (Questions, Look up: a seventeenth entry to be read is refusal 4.)
abbrev pub read_limit : ℕ
read_limit = 16

-- The walk through memory, which trusts nothing: to the entry, to 0, or, past C or past the limit, astray. `r` entries were met before.
pub data Walk : Type 0 where
  found : ℕ → ℕ → Walk
  gone : ℕ → Walk
  astray : Walk

unfoldable pub walk : ℕ → (ℕ → Cell) → ℕ → ℕ → Entry → ℕ → ℕ → Walk
walk zero f C t k r zero = gone r
walk zero f C t k r (suc s) = astray
walk (suc m) f C t k r zero = gone r
walk (suc m) f C t k r (suc s) =
    elim (leb (suc s) C) [
      | false ↦ astray
      | true ↦ elim (cmp t k (f (suc s)).key) [
        | Ordering.lt ↦ walk m f C (suc t) k (suc r) (f (suc s)).left
        | Ordering.eq ↦ found (suc s) (suc r)
        | Ordering.gt ↦ walk m f C (suc t) k (suc r) (f (suc s)).right
      ]
    ]
