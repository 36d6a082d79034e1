-- A whole book: its totals, then its tree.
use mathlib.Core.Path.{◌≡◌, refl, sym, subst, ◌∙◌}
use mathlib.Core.List.{List, [], ◌∷◌, ◌++◌}
use Prim.Native.Nat.{ℕ, ◌+◌, ◌-◌, ◌*◌, ◌≤◌}
use native.Mathlib.Omega.{arith}
use lib.ListN.{length, length-append}
use lib.IntN.{ℤ}
use Rattle.model.specs.Tree.{height, size}
use Rattle.model.specs.Book.{Book}
use Rattle.model.specs.Pool.{book_of, cell_of, sound}
use Rattle.model.specs.Text.{decimal}
use Rattle.model.specs.Show.{entries_is, height_is, free_is, book_lines, tree_lines}
use Rattle.model.specs.declared.Head.{Head}
use Rattle.model.proofs.Sounds.{Fits, fitting-fits}
use Rattle.model.proofs.Backs.{height-size}
use Rattle.cells.specs.Slots.{tall}
use Rattle.cells.specs.Memory.{Rep}
use Rattle.cells.proofs.Reps.{rep-bound, tall-rep}
use Rattle.weigh.specs.Sounds.{Sound}
use Rattle.weigh.proofs.Held.{its-rep}
use Rattle.print.specs.Place.{Puts}
use Rattle.page.specs.Trees.{totals, Printable, PutTree}
use Rattle.page.proofs.Pieces.{long, join}
use Rattle.page.proofs.Short.{totals-short}

module _ (h : Head) (ks : List ℤ) (ls : List ℕ) (g : Sound h ks ls) where
  abbrev b : Book
  b = book_of h ks ls

  fits : Fits h (cell_of h.k ks ls) b
  unfolding sound
  fits = fitting-fits h (cell_of h.k ks ls) b g.good

  rep : Rep h.k ks ls h.root b.tree
  rep = its-rep h ks ls g

  pub root-low : 3 * h.root ≤ length ls
  root-low = rep-bound h.k ks ls h.root b.tree rep

  pub few : h.n ≤ h.c
  few = let t = fits.total in omega arith

  low : height b.tree ≤ h.c
  low = let a = height-size b.tree in let d = fits.count in let e = few in omega arith

  book-is : book_lines h.k b ≡ totals (size b.tree) (height b.tree) (length b.chain) ++ tree_lines h.k 0 b.tree
  unfolding totals
  book-is = pieces (decimal (size b.tree)) (decimal (height b.tree)) (decimal (length b.chain)) (tree_lines h.k 0 b.tree)
    where
      pieces : (n x f t : List ℕ) → (entries_is ++ (n ++ (height_is ++ (x ++ (free_is ++ (f ++ (10 ∷ []))))))) ++ t ≡ (entries_is ++ (n ++ (height_is ++ (x ++ (free_is ++ (f ++ (10 ∷ []))))))) ++ t
      pieces n x f t = refl

  module _ (x : ℕ) (ex : x ≡ tall ls h.root) where
    is-height : x ≡ height b.tree
    is-height = ex ∙ tall-rep h.k ks ls h.root b.tree rep

    abbrev first : List ℕ
    first = totals h.n x (h.c - h.n)

    pub first_short : length first ≤ 160
    first_short =
        let a = is-height in
        let d = low in
        let e = few in
        let m : h.c ≤ 4096 = g.room.c_high in
        totals-short h.n x (h.c - h.n) (omega arith) (omega arith) (omega arith)

    lines : book_lines h.k b ≡ first ++ tree_lines h.k 0 b.tree
    lines =
        let d : length b.chain ≡ h.c - h.n = let t = fits.total in omega arith in
        book-is ∙ (λ i. totals (fits.count i) (sym is-height i) (d i) ++ tree_lines h.k 0 b.tree)

    module _ (room : List ℕ) (r : 160 * h.c + 160 ≤ length room) where
      pub first_fits : length first ≤ length room
      first_fits = let a = first_short in omega arith

      module _ (o : List ℕ) (p : ℕ) (v : Puts room 0 first o p) where
        behind-first : (p ≤ 160) × (length o ≡ length room)
        behind-first = let a = first_short in let b = first_fits in let q = v.1 in (omega arith, long room 0 first o p (omega arith) v)

        pub tree-ready : (p ≤ length o) × Printable h.k ks ls h.root 0 (length o - p)
        tree-ready =
            let a = behind-first in
            let x = low in
            let y = few in
            let z = fits.count in
            let c = g.room.c_high in
            (omega arith, record { tree = b.tree; rep = rep; low = omega arith; fits = omega arith })

        pub book-put : (o' : List ℕ) (p' : ℕ) → PutTree h.k ks ls h.root 0 o o' p p' → Puts room 0 (book_lines h.k b) o' p'
        book-put o' p' t = subst (λ (z : List ℕ). Puts room 0 z o' p') (sym lines) (join room 0 first tree o p o' p' all v (t.put b.tree rep))
          where
            tree : List ℕ
            tree = tree_lines h.k 0 b.tree

            sum : (x f n : ℕ) → x ≡ f + n → f ≤ 160 → n ≤ 160 * size b.tree → size b.tree ≡ h.n → h.n ≤ h.c → 160 * h.c + 160 ≤ length room → 0 + x ≤ length room
            sum x f n a b d e l m = omega arith

            all : 0 + length (first ++ tree) ≤ length room
            all = sum (length (first ++ tree)) (length first) (length tree) (length-append first tree) first_short (t.short b.tree rep) fits.count few r
