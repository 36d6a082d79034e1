-- What a sound pool holds.
use mathlib.Core.Path.{◌≡◌, subst}
use mathlib.Core.Bool.{true}
use mathlib.Core.List.{List}
use Prim.Native.Nat.{ℕ, ◌*◌, ◌≤◌}
use native.Mathlib.Omega.{arith}
use native.Mathlib.Nat.{zero-mod}
use lib.ListN.{length}
use lib.IntN.{ℤ}
use Rattle.model.specs.Entry.{cut_field}
use Rattle.model.specs.Tree.{ordered}
use Rattle.model.specs.Book.{Book, Cell}
use Rattle.model.specs.Pool.{cell_of, tree_from, chain_from, book_of, sound}
use Rattle.model.specs.declared.Head.{Head}
use Rattle.model.proofs.Exactly.{valid-in_order}
use Rattle.model.proofs.Laid.{laid-lies}
use Rattle.model.proofs.Listings.{items-length}
use Rattle.model.proofs.Sounds.{fitting-fits, Is, sound-is}
use Rattle.cells.specs.Memory.{Rep}
use Rattle.cells.specs.Slots.{Room}
use Rattle.cells.proofs.Reps.{lies-rep}
use Rattle.ask.specs.Standing.{Stands, Standing}
use Rattle.sound.specs.Parts.{shape_of}
use Rattle.model.specs.declared.Shape.{Shape}
use Rattle.weigh.specs.Sounds.{Sound}

-- the tree of a sound pool lies at its root, and has no more entries than there are slots
rep-of : (h : Head) (ks : List ℤ) (ls : List ℕ) → length ls ≡ 3 * h.c → sound h ks ls ≡ true → Rep h.k ks ls h.root (book_of h ks ls).tree
unfolding sound book_of
rep-of h ks ls n e =
    let f : ℕ → Cell = cell_of h.k ks ls in
    let b : Book = record { tree = tree_from h.c f h.root; chain = chain_from h.c f h.free } in
    let t = laid-lies h.c h.c f h.root (fitting-fits h f b e).laid_ok in
    subst (λ (r : ℕ). Rep h.k ks ls r b.tree) t.0 (lies-rep h.k h.c ks ls n b.tree t.1 t.2)

pub few-of : (h : Head) (ks : List ℤ) (ls : List ℕ) → sound h ks ls ≡ true → h.n ≤ h.c
unfolding sound
few-of h ks ls e = let x = (fitting-fits h (cell_of h.k ks ls) (book_of h ks ls) e).total in omega arith

pub ordered_of : (h : Head) (ks : List ℤ) (ls : List ℕ) → Is h ks ls (book_of h ks ls) → ordered 0 (book_of h ks ls).tree ≡ true
ordered_of h ks ls i = (valid-in_order h.k h.c (book_of h ks ls) i.valid).order

pub first-cut : (K : ℕ) → cut_field K 0 ≡ 0
unfolding cut_field
first-cut K = zero-mod K

module _ (h : Head) (ks : List ℤ) (ls : List ℕ) (p : Sound h ks ls) where
  pub its : Is h ks ls (book_of h ks ls)
  its = sound-is h ks ls p.room.wide p.room.long p.good

  pub its-rep : Rep h.k ks ls h.root (book_of h ks ls).tree
  its-rep = rep-of h ks ls p.room.long p.good

  pub its-stands : Stands h.k ks ls h.root 0 (book_of h ks ls).tree
  its-stands = record { depth = 0; cut = first-cut h.k; rep = its-rep; in_order = ordered_of h ks ls its }

  pub its-standing : Standing h.k ks ls h.root 0 h.c
  its-standing = record { tree = (book_of h ks ls).tree; stands = its-stands; few = rw (items-length (book_of h ks ls).tree, its.count) (few-of h ks ls p.good) }

  -- the same of a shape that the head gives
  module _ (S : Shape) (e : S ≡ record { k = h.k; c = h.c }) where
    pub given-room : Room S (length ks) (length ls)
    given-room = rw e p.room

    pub given-standing : Standing S.k ks ls h.root 0 S.c
    given-standing = rw e its-standing

-- tables as long as they were have the room that they had
pub room-kept : (h : Head) (nk nl nk' nl' : ℕ) → Room (shape_of h) nk nl → nk' ≡ nk → nl' ≡ nl → Room (shape_of h) nk' nl'
room-kept h nk nl nk' nl' m e f = rw (e, f) m
