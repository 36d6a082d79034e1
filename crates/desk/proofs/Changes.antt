-- A sound pool taken apart, and the pool of a changed book put together.
use mathlib.Core.Path.{◌≡◌, refl, sym, ap, ◌∙◌}
use mathlib.Core.Bool.{true}
use mathlib.Core.List.Permᴰ
use mathlib.Core.List.{List, ◌++◌}
use Prim.Native.Nat.{ℕ, ◌*◌, ◌≤◌}
use native.Mathlib.Omega.{arith}
use lib.ListN.{length}
use lib.IntN.{ℤ}
use Rattle.model.specs.Tree.{size}
use Rattle.model.specs.Book.{Book, Cell, first}
use Rattle.model.specs.Pool.{cell_of, tree_from, chain_from, book_of, sound}
use Rattle.model.specs.declared.Head.{Head}
use Rattle.model.proofs.Books.{Valid, Follows, follows-map, up-every, up-once}
use Rattle.model.proofs.Crowd.{InPool}
use Rattle.model.proofs.Laid.{Blank, strung-follows}
use Rattle.model.proofs.Lists.{Every, every_map, every-perm, every-split, every-both, OnceEach, once-perm, once-split}
use Rattle.model.proofs.Sounds.{fitting-fits, Is, image-of, cell-is}
use Rattle.model.proofs.Strikes.{slots}
use Rattle.cells.specs.Slots.{Slot, Keyed, Room}
use Rattle.cells.specs.Memory.{Rep, In, Same}
use Rattle.cells.proofs.Slots.{numbers-long}
use Rattle.cells.proofs.Reps.{link-cells, rep-lies}
use Rattle.build.proofs.Shapes.{every_in}
use Rattle.alter.proofs.Struck.{every_of}
use Rattle.ask.proofs.Walks.{keyed-in}
use Rattle.sound.specs.Parts.{shape_of}
use Rattle.weigh.specs.Sounds.{Sound}
use Rattle.weigh.proofs.Held.{its}

-- the chain of a sound pool, in its memory
abbrev pub Chain : ℕ → List ℤ → List ℕ → List ℕ → Type 0
Chain K ks ls cs = Follows (λ c. (cell_of K ks ls c).left) cs × Every (Blank K (cell_of K ks ls)) cs

chain-of : (h : Head) (ks : List ℤ) (ls : List ℕ) → Room (shape_of h) (length ks) (length ls) → sound h ks ls ≡ true → Chain h.k ks ls (book_of h ks ls).chain
unfolding sound book_of
chain-of h ks ls m e =
    let f : ℕ → Cell = cell_of h.k ks ls in
    let b : Book = record { tree = tree_from h.c f h.root; chain = chain_from h.c f h.free } in
    let c = strung-follows h.k f h.c long h.free b.chain (fitting-fits h f b e).strung_ok in
    (c.2, c.3)
  where
    long : (s : ℕ) → InPool h.c s → length (cell_of h.k ks ls s).key ≡ h.k
    long s p = ap (λ (x : Cell). length x.key) (link-cells h.k ks ls s p.0) ∙ numbers-long h.k ks s (keyed-in (shape_of h) (length ks) (length ls) s m (λ e. (let a = p.0 in omega arith)) p.1)

module _ (h : Head) (ks : List ℤ) (ls : List ℕ) (p : Sound h ks ls) where
  pub its-chain : Chain h.k ks ls (book_of h ks ls).chain
  its-chain = chain-of h ks ls p.room p.good

  pub its-once : OnceEach (slots (book_of h ks ls).tree ++ (book_of h ks ls).chain)
  its-once = once-perm (Permᴰ.symm (its h ks ls p).valid.pool) (up-once h.c 1)

  pub its-pool : Every (InPool h.c) (slots (book_of h ks ls).tree) × Every (InPool h.c) (book_of h ks ls).chain
  its-pool = every-split (InPool h.c) (slots (book_of h ks ls).tree) (book_of h ks ls).chain (every-perm (InPool h.c) (Permᴰ.symm (its h ks ls p).valid.pool) (up-every (InPool h.c) h.c 1 (λ x a b. (omega arith, omega arith))))

  pub pool-slot : (s : ℕ) → InPool h.c s → (h.k ≤ 4) × ((s ≤ 4096) × (Keyed h.k (length ks) s × Slot (length ls) s))
  pool-slot s i = let c = p.room.c_high in let l = p.room.long in let a = i.0 in let b = i.1 in (p.room.k_high, (omega arith, (keyed-in (shape_of h) (length ks) (length ls) s p.room (λ e. omega arith) i.1, record { some = i.0; fits = omega arith })))

-- a slot of the chain is none of the tree's
pub chain-apart : (ts cs : List ℕ) → OnceEach (ts ++ cs) → (j : ℕ) → In j cs → ¬ (In j ts)
chain-apart ts cs o j c t = every_in (λ y. ¬ (j ≡ y)) cs (every_in (λ x. Every (λ y. ¬ (x ≡ y)) cs) ts (once-split ts cs o).2 j t) j c refl

-- cells that hold what they held
cell_same : (K : ℕ) (ks ks' : List ℤ) (ls ls' : List ℕ) (j : ℕ) → 1 ≤ j → Same K ks ks' ls ls' j → cell_of K ks' ls' j ≡ cell_of K ks ls j
cell_same K ks ks' ls ls' j l s = link-cells K ks' ls' j l ∙ (λ i. record { left = s.left i; right = s.right i; high = s.high i; key = s.numbers i }) ∙ sym (link-cells K ks ls j l)

pub chain-kept : (K : ℕ) (ks ks' : List ℤ) (ls ls' : List ℕ) (cs : List ℕ) → ((j : ℕ) → In j cs → (1 ≤ j) × Same K ks ks' ls ls' j) → Chain K ks ls cs → Chain K ks' ls' cs
chain-kept K ks ks' ls ls' cs f c =
    let g : Every (λ j. cell_of K ks' ls' j ≡ cell_of K ks ls j) cs = every_of (λ j. cell_of K ks' ls' j ≡ cell_of K ks ls j) cs (λ j i. cell_same K ks ks' ls ls' j (f j i).0 (f j i).1) in (
      follows-map (λ j. (cell_of K ks' ls' j).left) (λ j. (cell_of K ks ls j).left) cs (every_map (λ j. cell_of K ks' ls' j ≡ cell_of K ks ls j) (λ j. (cell_of K ks' ls' j).left ≡ (cell_of K ks ls j).left) (λ j e. ap (λ (x : Cell). x.left) e) cs g) c.0,
      every-both (λ j. cell_of K ks' ls' j ≡ cell_of K ks ls j) (Blank K (cell_of K ks ls)) (Blank K (cell_of K ks' ls')) (λ j e z. (ap (λ (x : Cell). x.right) e ∙ z.0, ap (λ (x : Cell). x.high) e ∙ z.1, ap (λ (x : Cell). x.key) e ∙ z.2)) cs g c.1,
    )

-- the pool of a book whose tree and chain lie in memory
pub put-together : (h : Head) (ks : List ℤ) (ls : List ℕ) (b : Book) → length ks ≡ h.k * h.c → length ls ≡ 3 * h.c → Valid h.k h.c b → Rep h.k ks ls h.root b.tree → Chain h.k ks ls b.chain → first b.chain ≡ h.free → size b.tree ≡ h.n → Is h ks ls b
put-together h ks ls b ek el v r c f n =
    let l = rep-lies h.k h.c ks ls el h.root b.tree r in
    let m = image-of h.k h.c b ks ls ek el (λ s i. cell-is h.k h.c (cell_of h.k ks ls) b s i v.pool l.2 c.0 c.1) in
    record { valid = v; count = n; root = l.0; free = f; same_keys = m.0; same_links = m.1 }
