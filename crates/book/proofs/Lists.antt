-- List as it is called: its refusals, and what the room then holds.
use mathlib.Core.Path.{◌≡◌, refl, sym, ap, ap₂, ◌∙◌}
use mathlib.Core.Bool.{Bool, true, false}
use mathlib.Core.List.{List, [], ◌∷◌, ◌++◌}
use mathlib.Core.Option.{some}
use Prim.Native.Nat.{ℕ, ◌*◌}
use lib.Dec.{ltb}
use lib.ListN.{length, drop}
use lib.IntN.{ℤ}
use borrow.Author.Tests.{lt-ltb, le-ltb}
use Rattle.model.specs.Answer.{Row, gate, refused, counted}
use Rattle.model.specs.Entry.{Entry}
use Rattle.model.specs.Tree.{Item, Tree, items, slots_of, entries_of}
use Rattle.model.specs.Ask.{in_box, keep}
use Rattle.model.specs.Rebuild.{rank, listing}
use Rattle.model.specs.Gate.{After, rows4}
use Rattle.model.specs.Calls.{list, flat}
use Rattle.model.specs.Pool.{book_of}
use Rattle.model.specs.declared.Head.{Head}
use Rattle.model.specs.declared.Bound.{Bound}
use Rattle.model.specs.declared.Refusal.{Refusal}
use Rattle.model.specs.declared.Refusal.TheVariants.{Room as NoRoom}
use Rattle.model.specs.declared.Answer.{Answer}
use Rattle.model.proofs.Gates.{gate-on, gate-off, checked-shut, checked-open}
use Rattle.cells.specs.Slots.{numbers_of}
use Rattle.ask.specs.Boxes.{boxed, slots_in}
use Rattle.ask.proofs.Listed.{box-listing, box-count}
use Rattle.rank.specs.Ranking.{items_at}
use Rattle.rank.proofs.Merging.{rank-items, ranked-slots}
use Rattle.build.proofs.Shapes.{items-held}
use Rattle.std.specs.Prelude.{Result, Ok, Err}
use Rattle.reply.specs.Gates.{Gate, told, pooled}
use Rattle.sheet.specs.Listing.{counted as count_of, numbers_in, ranked_in, FilledWith}
use Rattle.sheet.specs.declared.listing.TooMany.{TooMany}
use Rattle.book.proofs.Counts.{reads-shut, reads-open}
use Rattle.reply.proofs.Pools.{behind-shut, behind-open, pool-stands, pool-rep, pool-distinct}

module _ (K : ℕ) (ks : List ℤ) where
  -- items that are their slots' are so in the box too
  boxed-held : (bs : List Bound) (is : List Item) → items_at K ks (slots_of is) ≡ is → items_at K ks (slots_of (boxed bs is)) ≡ boxed bs is
  boxed-held bs [] h = refl
  boxed-held bs (i ∷ is) h = go (in_box bs i.entry) (boxed-held bs is (ap rest h))
    where
      rest : List Item → List Item
      rest [] = []
      rest (j ∷ js) = js

      first : List Item → Item
      first [] = i
      first (j ∷ js) = j

      go : (o : Bool) → items_at K ks (slots_of (boxed bs is)) ≡ boxed bs is → items_at K ks (slots_of (elim o as (λ z. List Item) [ true ↦ i ∷ boxed bs is | false ↦ boxed bs is ])) ≡ elim o as (λ z. List Item) [ true ↦ i ∷ boxed bs is | false ↦ boxed bs is ]
      go true e = ap₂ ◌∷◌ (ap first h) e
      go false e = e

  numbers-flat : (ss : List ℕ) → numbers_in K ks ss ≡ flat (entries_of (items_at K ks ss))
  numbers-flat [] = refl
  numbers-flat (s ∷ ss) = ap (λ (x : List ℤ). numbers_of K ks s ++ x) (numbers-flat ss)

  -- the numbers of the ranked slots are the entries in listing order
  ranked-flat : (bs : List Bound) (u : Tree) → items_at K ks (slots_in bs u) ≡ boxed bs (items u) → numbers_in K ks (ranked_in K ks bs u) ≡ flat (entries_of (rank 0 (boxed bs (items u))))
  ranked-flat bs u h =
      let ss : List ℕ = slots_in bs u in
      let e : items_at K ks (ranked_in K ks bs u) ≡ rank 0 (items_at K ks ss) = ap (items_at K ks) (ranked-slots K ks 0 ss) ∙ sym (rank-items K ks 0 ss) in
      numbers-flat (ranked_in K ks bs u) ∙ ap (λ (x : List Item). flat (entries_of x)) (e ∙ ap (rank 0) h)

module _ (h : Head) (ks : List ℤ) (ls : List ℕ) (g : Gate) (is : g ≡ told (gate (pooled h ks ls h.c))) where
  module _ (bs : List Bound) (room : List ℤ) where
    abbrev u : Tree
    u = (book_of h ks ls).tree

    abbrev es : List Entry
    es = keep bs (listing u)

    abbrev last : List Row
    last = (ltb (length room) (h.k * length es), NoRoom) ∷ []

    refuses : (r : Refusal) → gate (rows4 h ks ls ++ last) ≡ some r → (a : Answer) → a ≡ refused h 0 r → (a ≡ (list h ks ls bs room).answer) × (room ≡ (list h ks ls bs room).room)
    unfolding list
    refuses r e a q =
        let no : Refusal → After = λ r. record { answer = refused h 0 r; keys = ks; links = ls; scratch = []; room = room; page = [] } in
        let yes : After = record { answer = counted h (length es); keys = ks; links = ls; scratch = []; room = flat es ++ drop (h.k * length es) room; page = [] } in
        let z = checked-shut (rows4 h ks ls ++ last) no yes r e in
        (q ∙ sym (ap (λ (x : After). x.answer) z), sym (ap (λ (x : After). x.room) z))

    pub list-shut : (r : Refusal) → g ≡ Err r → (a : Answer) → a ≡ refused h 0 r → (a ≡ (list h ks ls bs room).answer) × (room ≡ (list h ks ls bs room).room)
    list-shut r e = refuses r (behind-shut (rows4 h ks ls) last r (reads-shut h ks ls g is r e))

    module _ (o : g ≡ Ok tt) (room' : List ℤ) (f : Result ℕ TooMany) (w : FilledWith h.k ks ls h.root bs room room' f) where
      many : count_of f ≡ length es
      many = w.many u (pool-stands h ks ls h.c g is o) ∙ sym (box-count bs u (pool-distinct h ks ls h.c g is o))

      pub list-short : (m : TooMany) → f ≡ Err m → (a : Answer) → a ≡ refused h 0 NoRoom → (a ≡ (list h ks ls bs room).answer) × (room' ≡ (list h ks ls bs room).room)
      list-short m e a q =
          let n : m.count ≡ length es = sym (ap count_of e) ∙ many in
          let t : ltb (length room) (h.k * length es) ≡ true = lt-ltb (length room) (h.k * length es) (rw n at (w.short m e)) in
          let z = refuses NoRoom (behind-open (rows4 h ks ls) last (reads-open h ks ls g is o) ∙ gate-on (ltb (length room) (h.k * length es)) NoRoom [] t) a q in
          (z.0, w.kept m e ∙ z.1)

      module _ (n : ℕ) (e : f ≡ Ok n) where
        all : n ≡ length es
        all = sym (ap count_of e) ∙ many

        written : room' ≡ flat es ++ drop (h.k * length es) room
        written =
            let d = pool-distinct h ks ls h.c g is o in
            let b = boxed-held h.k ks bs (items u) (items-held h.k ks ls h.root u (pool-rep h ks ls h.c g is o)) in
            let p : numbers_in h.k ks (ranked_in h.k ks bs u) ≡ flat es = ranked-flat h.k ks bs u b ∙ ap flat (sym (box-listing bs u d)) in
            w.written n e u (pool-stands h ks ls h.c g is o) ∙ ap₂ (λ (x : List ℤ) (j : ℕ). x ++ drop (h.k * j) room) p all

        pub list_done : (a : Answer) → a ≡ counted h n → (a ≡ (list h ks ls bs room).answer) × (room' ≡ (list h ks ls bs room).room)
        unfolding list
        list_done a q =
            let no : Refusal → After = λ r. record { answer = refused h 0 r; keys = ks; links = ls; scratch = []; room = room; page = [] } in
            let yes : After = record { answer = counted h (length es); keys = ks; links = ls; scratch = []; room = flat es ++ drop (h.k * length es) room; page = [] } in
            let t : ltb (length room) (h.k * length es) ≡ false = le-ltb (length room) (h.k * length es) (rw all at (w.long n e)) in
            let z = checked-open (rows4 h ks ls ++ last) no yes (behind-open (rows4 h ks ls) last (reads-open h ks ls g is o) ∙ gate-off (ltb (length room) (h.k * length es)) NoRoom [] t) in
            (q ∙ ap (counted h) all ∙ sym (ap (λ (x : After). x.answer) z), written ∙ sym (ap (λ (x : After). x.room) z))
