-- A box written to a room: its slots, ranked, and their numbers.
use mathlib.Core.Path.{◌≡◌, refl, sym, ap, ◌∙◌}
use mathlib.Core.Bool.{Bool, true, false}
use mathlib.Core.List.{List, [], ◌∷◌, ◌++◌}
use Prim.Native.Nat.{ℕ, ◌-◌, ◌*◌, ◌^◌, ◌≤◌, ◌<◌}
use native.Mathlib.Omega.{arith}
use native.Mathlib.Nat.{mul-suc, mul-zero, mul-le-mul, zero-add}
use lib.ListN.{length, take, drop, length-append}
use lib.Seq.{sets, sets-eq, length-take-le, take_at}
use lib.IntN.{ℤ}
use Rattle.model.specs.Tree.{Item, Tree, nil, node, items, slots_of}
use Rattle.model.specs.Ask.{in_box}
use Rattle.model.specs.Rebuild.{rank}
use Rattle.model.specs.declared.Shape.{Shape}
use Rattle.model.specs.declared.Bound.{Bound}
use Rattle.model.proofs.Lists.{Every, every-join}
use Rattle.model.proofs.Strikes.{slots, slots-append}
use Rattle.cells.specs.Slots.{left_at, right_at, Room}
use Rattle.cells.specs.Memory.{Rep}
use Rattle.cells.proofs.Slots.{numbers-long}
use Rattle.ask.specs.Standing.{Stands, Standing}
use Rattle.ask.specs.Boxes.{boxed, slots_in, Collected}
use Rattle.ask.proofs.Boxed.{boxed-few}
use Rattle.ask.proofs.Walks.{keyed-in}
use Rattle.rank.specs.Ranking.{items_at, InTable, InTables, Ranked}
use Rattle.rank.proofs.Merging.{cut-here, ranked-in}
use Rattle.std.specs.Prelude.{Result, Ok, Err}
use Rattle.sheet.specs.Listing.{numbers_in, ranked_in, FilledWith}
use Rattle.sheet.specs.declared.listing.TooMany.{TooMany}

-- each slot of a tree that lies in the tables is one of theirs
pub rep-tables : (S : Shape) (ks : List ℤ) (ls : List ℕ) → Room S (length ks) (length ls) → (s : ℕ) (u : Tree) → Rep S.k ks ls s u → InTables S.k (length ks) (slots u)
rep-tables S ks ls m s nil h = tt
rep-tables S ks ls m s (node i l r) h =
    let low : i.slot ≤ S.c = let a = m.long in let b = h.1.fits in omega arith in
    let ne : ¬ (i.slot ≡ 0) = λ e. let b = h.1.some in omega arith in
    let here : InTable S.k (length ks) i.slot = record { keyed = keyed-in S (length ks) (length ls) i.slot m ne low; low = let c = m.c_high in omega arith } in
    rw (slots-append (items l) (i ∷ items r)) (every-join (InTable S.k (length ks)) (slots l) (i.slot ∷ slots r) (rep-tables S ks ls m (left_at ls i.slot) l h.4) (here, rep-tables S ks ls m (right_at ls i.slot) r h.5))

boxed-every : (P : ℕ → Type 0) (bs : List Bound) (is : List Item) → Every P (slots_of is) → Every P (slots_of (boxed bs is))
boxed-every P bs [] h = h
boxed-every P bs (i ∷ is) (h, hs) = go (in_box bs i.entry) (boxed-every P bs is hs)
  where
    go : (o : Bool) → Every P (slots_of (boxed bs is)) → Every P (slots_of (elim o as (λ z. List Item) [ true ↦ i ∷ boxed bs is | false ↦ boxed bs is ]))
    go true q = (h, q)
    go false q = q

numbers-many : (K : ℕ) (ks : List ℤ) (ss : List ℕ) → InTables K (length ks) ss → length (numbers_in K ks ss) ≡ K * length ss
numbers-many K ks [] h = sym (mul-zero K)
numbers-many K ks (s ∷ ss) (h, hs) = let a = numbers-long K ks s h.keyed in let b = numbers-many K ks ss hs in rw (length-append, mul-suc) (omega arith)

-- a list written to the front of another
front-sets : {A : Type 0} (vs l : List A) → length vs ≤ length l → sets l 0 vs ≡ vs ++ drop (length vs) l
front-sets vs l h = let z = zero-add (length vs) in sets-eq vs l 0 (omega arith) ∙ ap (λ (n : ℕ). vs ++ drop n l) z

module _ (S : Shape) (ks : List ℤ) (ls : List ℕ) (root : ℕ) (bs : List Bound) (m : Room S (length ks) (length ls)) (st : Standing S.k ks ls root 0 S.c) where
  pub fill_walks : (xs : List ℕ) → length xs ≡ S.c → (Room S (length ks) (length ls) × (0 < S.k)) × ((0 ≤ length xs) × Standing S.k ks ls root 0 (length xs - 0))
  fill_walks xs l = ((m, (let k = m.k_low in omega arith)), (omega arith, record { tree = st.tree; stands = st.stands; few = let f = st.few in omega arith }))

  -- the same over the front of a list that is long enough
  pub front-walks : (xs : List ℕ) (n : ℕ) → n ≡ S.c → n ≤ length xs → (0 ≤ length (take n xs)) × Standing S.k ks ls root 0 (length (take n xs) - 0)
  front-walks xs n e l = (fill_walks (take n xs) (length-take-le n xs l ∙ e)).1

  -- the walk left the slots of the box in front
  module _ (xs ys : List ℕ) (n : ℕ) (lx : length xs ≡ S.c) (ly : length ys ≡ length xs) (w : Collected S.k ks ls root 0 bs xs ys 0 n) where
    many : (u : Tree) → Stands S.k ks ls root 0 u → n ≡ length (slots_in bs u)
    many u h = w.next u h ∙ zero-add (length (slots_in bs u))

    pub fill-few : n ≤ S.c
    fill-few = let a = many st.tree st.stands in let b = boxed-few bs (items st.tree) in let d = st.few in omega arith

    pub fill-small : S.k * n < 2 ^ 64
    fill-small = let a : S.k * n ≤ 4 * 4096 = mul-le-mul m.k_high (let b = fill-few in let d = m.c_high in let e : n ≤ 4096 = omega arith in e) in omega arith

    pub fill-part : (zs : List ℕ) → length zs ≡ S.c → n ≤ length zs
    fill-part zs l = let a = fill-few in omega arith

    pub fill-taken : (zs : List ℕ) → length zs ≡ S.c → length (take n zs) ≡ n
    fill-taken zs l = length-take-le n zs (fill-part zs l)

    in-front : (u : Tree) → Stands S.k ks ls root 0 u → take n ys ≡ slots_in bs u
    in-front u h =
        let e = many u h in
        let a = fill-few in
        let b : ys ≡ slots_in bs u ++ drop (length (slots_in bs u)) xs = w.written u h ∙ front-sets (slots_in bs u) xs (omega arith) in
        ap (take n) b ∙ take_at (slots_in bs u) (drop (length (slots_in bs u)) xs) n (sym e)

    in_tables : InTables S.k (length ks) (take n ys)
    in_tables = rw (in-front st.tree st.stands) (boxed-every (InTable S.k (length ks)) bs (items st.tree) (rep-tables S ks ls m root st.tree st.stands.rep))

    pub fill-ranks : (zs : List ℕ) → length zs ≡ S.c → (((0 < S.k) × (S.k ≤ 4)) × (length (take n zs) ≡ length (take n ys))) × InTables S.k (length ks) (take n ys)
    fill-ranks zs l = ((((let k = m.k_low in omega arith), m.k_high), fill-taken zs l ∙ sym (fill-taken ys (ly ∙ lx))), in_tables)

    pub fill-short : (room : List ℤ) → length room < S.k * n → FilledWith S.k ks ls root bs room room (Err (record { count = n }))
    fill-short room h = record { many = many; long = λ a e. clash e; short = λ t e. (let q : n ≡ t.count = cc in rw (← q) h); written = λ a e. clash e; kept = λ t e. refl }
      where
        clash : {P : Type 0} {a : ℕ} → ◌≡◌ {A = Result ℕ TooMany} (Err (record { count = n })) (Ok a) → P
        clash e = let z : ◌≡◌ {A = ℕ} 0 1 = cc in absurd (omega arith)

    -- ranking left them in listing order
    module _ (zs : List ℕ) (lz : length zs ≡ length (take n ys)) (r : Ranked S.k ks 0 (take n ys) zs) where
      ranked-many : length zs ≡ n
      ranked-many = lz ∙ fill-taken ys (ly ∙ lx)

      back-tables : InTables S.k (length ks) zs
      back-tables = ranked-in S.k ks 0 (length ks) (take n ys) zs (let k = m.k_low in omega arith) r in_tables

      pub fill-writes : (room : List ℤ) → S.k * n ≤ length room → ((S.k ≤ 4) × ((length zs ≤ 4096) × (S.k * length zs ≤ length room))) × InTables S.k (length ks) zs
      fill-writes room h = ((m.k_high, ((let a = ranked-many in let b = fill-few in let d = m.c_high in omega arith), rw ranked-many h)), back-tables)

      pub fill-long : (room room' : List ℤ) → S.k * n ≤ length room → room' ≡ sets room 0 (numbers_in S.k ks zs) → FilledWith S.k ks ls root bs room room' (Ok n)
      fill-long room room' h e =
          let q : length (numbers_in S.k ks zs) ≡ S.k * n = numbers-many S.k ks zs back-tables ∙ ap (λ (x : ℕ). S.k * x) ranked-many in
          let p : room' ≡ numbers_in S.k ks zs ++ drop (S.k * n) room = e ∙ front-sets (numbers_in S.k ks zs) room (omega arith) ∙ ap (λ (x : ℕ). numbers_in S.k ks zs ++ drop x room) q in
          let z : (u : Tree) → Stands S.k ks ls root 0 u → zs ≡ ranked_in S.k ks bs u = λ u s. r.at 0 (cut-here S.k 0 (let k = m.k_low in omega arith)) ∙ ap (λ (x : List ℕ). slots_of (rank 0 (items_at S.k ks x))) (in-front u s) in
          record {
            many = many;
            long = λ a f. (let t : n ≡ a = cc in rw (← t) h);
            short = λ t f. clash f;
            written = λ a f u s. (let t : n ≡ a = cc in rw (← t) (p ∙ ap (λ (x : List ℕ). numbers_in S.k ks x ++ drop (S.k * n) room) (z u s)));
            kept = λ t f. clash f;
          }
        where
          clash : {P : Type 0} {t : TooMany} → ◌≡◌ {A = Result ℕ TooMany} (Ok n) (Err t) → P
          clash e = let z : ◌≡◌ {A = ℕ} 0 1 = cc in absurd (omega arith)
