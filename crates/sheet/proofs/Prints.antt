-- The book written to a room: its slots gathered and ranked, and their text.
use mathlib.Core.Path.{◌≡◌, refl, sym, ap, subst, ◌∙◌}
use mathlib.Core.List.{List, ◌++◌}
use Prim.Native.Nat.{ℕ, ◌+◌, ◌-◌, ◌≤◌, ◌<◌}
use native.Mathlib.Omega.{arith}
use native.Mathlib.Nat.{zero-add}
use lib.ListN.{length, take, drop}
use lib.Seq.{length-take-le, take_at}
use lib.IntN.{ℤ}
use Rattle.model.specs.Tree.{Item, Tree, items, slots_of, entries_of}
use Rattle.model.specs.Rebuild.{rank, listing}
use Rattle.model.specs.Text.{text_of}
use Rattle.model.specs.declared.Shape.{Shape}
use Rattle.model.proofs.Strikes.{slots}
use Rattle.cells.specs.Slots.{Room}
use Rattle.cells.specs.Memory.{Rep}
use Rattle.print.specs.Place.{written}
use Rattle.ask.proofs.Listed.{slots_length}
use Rattle.ask.specs.Standing.{Stands, Standing}
use Rattle.rank.specs.Ranking.{items_at, InTables, Ranked}
use Rattle.build.specs.Rebuilding.{Fitting, Gathered}
use Rattle.rank.proofs.Merging.{cut-here, ranked-in, rank-items, ranked-slots}
use Rattle.build.proofs.Shapes.{items-held}
use Rattle.sheet.specs.Saving.{text_in, Measured, PrintedWith}
use Rattle.std.specs.declared.option.Option.{Option}
use Rattle.std.specs.declared.option.Option.TheVariants.{Some, None}
use Rattle.sheet.proofs.Fills.{rep-tables}

-- ranked slots of a tree that lies in memory are its entries in listing order
ranked-text : (K : ℕ) (ks : List ℤ) (ls : List ℕ) (s : ℕ) (u : Tree) → Rep K ks ls s u → text_in K ks (slots_of (rank 0 (items_at K ks (slots u)))) ≡ text_of K (listing u)
unfolding listing
ranked-text K ks ls s u h =
    let e : items_at K ks (slots_of (rank 0 (items_at K ks (slots u)))) ≡ rank 0 (items_at K ks (slots u)) = ap (items_at K ks) (ranked-slots K ks 0 (slots u)) ∙ sym (rank-items K ks 0 (slots u)) in
    ap (λ (x : List Item). text_of K (entries_of x)) (e ∙ ap (rank 0) (items-held K ks ls s u h))

module _ (S : Shape) (ks : List ℤ) (ls : List ℕ) (root : ℕ) (m : Room S (length ks) (length ls)) (st : Standing S.k ks ls root 0 S.c) where
  few : length (slots st.tree) ≤ S.c
  few = let a = slots_length (items st.tree) in let b = st.few in omega arith

  pub print-gathers : (xs : List ℕ) → length xs ≡ S.c → (0 ≤ length xs) × Fitting ls root (length xs - 0)
  print-gathers xs l = (omega arith, record { K = S.k; ks = ks; tree = st.tree; rep = st.stands.rep; enough = let a = few in omega arith })

  module _ (xs ys : List ℕ) (n : ℕ) (lx : length xs ≡ S.c) (ly : length ys ≡ length xs) (w : Gathered ls xs ys root 0 n) where
    many : (u : Tree) → Rep S.k ks ls root u → n ≡ length (slots u)
    many u h = w.next S.k ks u h ∙ zero-add (length (slots u))

    print-few : n ≤ S.c
    print-few = let a = many st.tree st.stands.rep in let b = few in omega arith

    pub print-part : (zs : List ℕ) → length zs ≡ S.c → n ≤ length zs
    print-part zs l = let a = print-few in omega arith

    pub print-taken : (zs : List ℕ) → length zs ≡ S.c → length (take n zs) ≡ n
    print-taken zs l = length-take-le n zs (print-part zs l)

    in-front : (u : Tree) → Rep S.k ks ls root u → take n ys ≡ slots u
    in-front u h = ap (take n) (w.written S.k ks u h) ∙ take_at (slots u) (drop (0 + length (slots u)) xs) n (sym (many u h))

    in_tables : InTables S.k (length ks) (take n ys)
    in_tables = rw (in-front st.tree st.stands.rep) (rep-tables S ks ls m root st.tree st.stands.rep)

    pub print-ranks : (zs : List ℕ) → length zs ≡ S.c → (((0 < S.k) × (S.k ≤ 4)) × (length (take n zs) ≡ length (take n ys))) × InTables S.k (length ks) (take n ys)
    print-ranks zs l = ((((let k = m.k_low in omega arith), m.k_high), print-taken zs l ∙ sym (print-taken ys (ly ∙ lx))), in_tables)

    -- ranking left them in listing order
    module _ (zs : List ℕ) (lz : length zs ≡ length (take n ys)) (r : Ranked S.k ks 0 (take n ys) zs) where
      pub print-reads : (S.k ≤ 4) × InTables S.k (length ks) zs
      print-reads = (m.k_high, ranked-in S.k ks 0 (length ks) (take n ys) zs (let k = m.k_low in omega arith) r in_tables)

      text-of : (u : Tree) → Stands S.k ks ls root 0 u → text_in S.k ks zs ≡ text_of S.k (listing u)
      text-of u s =
          let z : zs ≡ slots_of (rank 0 (items_at S.k ks (slots u))) = r.at 0 (cut-here S.k 0 (let k = m.k_low in omega arith)) ∙ ap (λ (x : List ℕ). slots_of (rank 0 (items_at S.k ks x))) (in-front u s.rep) in
          ap (text_in S.k ks) z ∙ ranked-text S.k ks ls root u s.rep

      module _ (room : List ℕ) (p : Option ℕ) (e : Measured (text_in S.k ks zs) (length room) p) where
        measured : (u : Tree) → Stands S.k ks ls root 0 u → Measured (text_of S.k (listing u)) (length room) p
        measured u s = subst (λ (t : List ℕ). Measured t (length room) p) (text-of u s) e

        clash : {P : Type 0} {b : ℕ} → None ≡ Some b → P
        clash f = let z : ◌≡◌ {A = ℕ} 0 1 = cc in absurd (omega arith)

        pub print-short : p ≡ None → PrintedWith S.k ks ls root room room p
        print-short f = record { measured = measured; written = λ b t. clash (sym f ∙ t); kept = λ _. refl }

        pub print-long : (b : ℕ) → p ≡ Some b → (room' : List ℕ) → room' ≡ written room 0 (text_in S.k ks zs) → PrintedWith S.k ks ls root room room' p
        print-long b f room' q =
            let z : (t : List ℕ) → text_in S.k ks zs ≡ t → room' ≡ t ++ drop (length t) room = λ t x. q ∙ ap (written room 0) x ∙ ap (λ (j : ℕ). t ++ drop j room) (zero-add (length t)) in
            record { measured = measured; written = λ _ _ u s. z (text_of S.k (listing u)) (text-of u s); kept = λ t. clash (sym t ∙ f) }
