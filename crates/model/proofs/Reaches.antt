-- What holds of a state that a run can reach, piece by piece.
use mathlib.Core.Path.{◌≡◌, refl, sym, ap, ◌∙◌, subst}
use mathlib.Core.Logic.{inl, inr}
use mathlib.Core.List.{List, [], ◌∷◌, ◌++◌, Permᴰ}
use mathlib.Core.Option.{none, some}
use mathlib.Core.Bool.{true}
use Prim.Native.Nat.{ℕ, zero, suc, ◌+◌, ◌≤◌}
use native.Mathlib.Omega.{arith}
use lib.ListN.{length, take}
use Rattle.model.specs.Answer.{inward, outward, refused}
use Rattle.model.specs.Ask.{nearest, reads, slot_of, tallest}
use Rattle.model.specs.Book.{Book, Cell, head_of, keys, links, up_from}
use Rattle.model.specs.Calls.{any_zero, look_up, near_answer, walked}
use Rattle.model.specs.Demands.{Reached, Stands, rising}
use Rattle.model.specs.Entry.{Entry}
use Rattle.model.specs.Gate.{reading}
use Rattle.model.specs.Pool.{cell_of}
use Rattle.model.specs.Rebuild.{listing, rank}
use Rattle.model.specs.Runs.{Call, perform}
use Rattle.model.specs.Tree.{Item, Tree, entries_of, height, is_less, items, nil, node, size, slots_of}
use Rattle.model.proofs.Adds.{Has, item_at, ordered-distinct, slot_of-has}
use Rattle.model.proofs.Asks.{perform-nearest}
use Rattle.model.proofs.Backs.{image-book, image-lies, image-sound, valid-size}
use Rattle.model.proofs.Books.{Valid, valid-in_pool}
use Rattle.model.proofs.Crowd.{InPool}
use Rattle.model.proofs.Gates.{checked-by}
use Rattle.model.proofs.Goods.{image}
use Rattle.model.proofs.Heights.{balanced-height, reads-bound, reads-height}
use Rattle.model.proofs.Images.{AllS, Lies}
use Rattle.model.proofs.Listings.{listing-all, listing-length}
use Rattle.model.proofs.Looks.{look-image, low-enough, slot_of-none, walk_of}
use Rattle.model.proofs.Nears.{nearest-by}
use Rattle.model.proofs.Passes.{Fit}
use Rattle.model.proofs.Ranks.{Sorted, Unlike, rank-sorted}
use Rattle.model.proofs.Takes.{step-image}
use Rattle.model.proofs.Trees.{AllL, Less, Ordered, pair}
use Rattle.model.specs.declared.Answer.{Answer}
use Rattle.model.specs.declared.Entry.{Entry as Four}
use Rattle.model.specs.declared.Head.{Head}
use Rattle.model.specs.declared.Outcome.{Outcome}
use Rattle.model.specs.declared.Outcome.TheVariants.{Absent, Found, Refused}
use Rattle.model.specs.declared.Refusal.TheVariants.{Step}

-- the listing of a tree in order rises
rises-from : (d : Entry) (is : List Item) → AllL (Less 0 d) is → Sorted 0 is → rising (some d) (entries_of is) ≡ true
rises-from d [] a h = refl
rises-from d (i ∷ is) (a, ar) (h, hs) = pair (ap is_less a) (rises-from i.entry is h hs)

rises-all : (is : List Item) → Sorted 0 is → rising none (entries_of is) ≡ true
rises-all [] h = refl
rises-all (i ∷ is) (h, hs) = rises-from i.entry is h hs

pub listing-rises : (u : Tree) → Ordered 0 u → rising none (listing u) ≡ true
unfolding listing
listing-rises u o = rises-all (rank 0 (items u)) (rank-sorted 0 (items u) (ordered-distinct 0 u o))

-- an item of a tree that lies in memory: its cell holds its entry; what holds of every slot holds of its slot
cell-entry : (f : ℕ → Cell) (i : Item) (u : Tree) → Has i u → Lies f u → (f i.slot).key ≡ i.entry
cell-entry f i nil m _ = elim m [ ]
cell-entry f i (node j l r) (inl e) (q, ql, qr) = rw e (ap (λ c. c.key) q)
cell-entry f i (node j l r) (inr (inl m)) (q, ql, qr) = cell-entry f i l m ql
cell-entry f i (node j l r) (inr (inr m)) (q, ql, qr) = cell-entry f i r m qr

slot-every : (P : ℕ → Type 0) (i : Item) (u : Tree) → Has i u → AllS P u → P i.slot
slot-every P i nil m _ = elim m [ ]
slot-every P i (node j l r) (inl e) (h, a, b) = rw e h
slot-every P i (node j l r) (inr (inl m)) (h, a, b) = slot-every P i l m a
slot-every P i (node j l r) (inr (inr m)) (h, a, b) = slot-every P i r m b

walked-reads : (h : Head) (k : Entry) (s r : ℕ) → (walked h k (walk_of s r)).reads ≡ r
walked-reads h k zero r = refl
walked-reads h k (suc s) r = refl

module _ (K C : ℕ) (b : Book) (fit : Fit K C) (v : Valid K C b) where
  -- an answer that names an entry of the tree and the slot that the walk finds
  stands : (a : Answer) (e : Entry) (s : ℕ) → slot_of 0 e b.tree ≡ s → a.slot ≡ s → a.entry ≡ outward e → ¬ (s ≡ 0) → Stands K C (image K C b) a
  stands a e zero z p q n = absurd (n refl)
  stands a e (suc x) z p q n =
      let m : Has (item_at (suc x) e) b.tree = slot_of-has 0 e b.tree x z in
      let c : (cell_of K (keys K C b) (links K C b) (suc x)).key ≡ e = cell-entry (cell_of K (keys K C b) (links K C b)) (item_at (suc x) e) b.tree m (image-lies K C b v) in
      let i : InPool C (suc x) = slot-every (InPool C) (item_at (suc x) e) b.tree m (valid-in_pool K C b v) in
      record { index = x; slot = p; inside = i.1; entry = q ∙ ap outward (sym c) }

  look-place : (e : Four) (s : ℕ) → slot_of 0 (inward K e) b.tree ≡ s → (perform (Call.look_up e) (image K C b)).answer.outcome ≡ Found → Stands K C (image K C b) (perform (Call.look_up e) (image K C b)).answer
  unfolding perform
  look-place e zero z o =
      let w : (perform (Call.look_up e) (image K C b)).answer.outcome ≡ Absent = ap (λ a. a.answer.outcome) (look-image K C b fit v e) ∙ ap (λ s. (walked (head_of K C b) (inward K e) (walk_of s (reads 0 (inward K e) b.tree))).outcome) z in
      let n : ◌≡◌ {A = ℕ} 0 1 = cc in absurd (omega arith)
  look-place e (suc x) z o =
      let k : Entry = inward K e in
      let w = look-image K C b fit v e ∙ ap (λ s. reading (walked (head_of K C b) k (walk_of s (reads 0 k b.tree))) (keys K C b) (links K C b)) z in
      stands (look_up (head_of K C b) (keys K C b) (links K C b) e).answer k (suc x) z (ap (λ a. a.answer.slot) w) (ap (λ a. a.answer.entry) w) (λ q. omega arith)

  -- nearest names an entry of the listing, which the walk finds
  near-place : (q : Four) (steps : List ℕ) → (perform (Call.nearest q steps) (image K C b)).answer.outcome ≡ Found → Stands K C (image K C b) (perform (Call.nearest q steps) (image K C b)).answer
  near-place q steps = rw (perform-nearest K C b fit v q steps) (checked-by (λ a. a.answer.outcome ≡ Found → Stands K C (image K C b) a.answer) ((any_zero (take K steps), Step) ∷ []) (λ r. reading (refused (head_of K C b) 0 r) (keys K C b) (links K C b)) (reading (near_answer (head_of K C b) steps (inward K q) b.tree (nearest steps (inward K q) (listing b.tree))) (keys K C b) (links K C b))
      (λ r g o. never (Refused r) (λ z. let n : ◌≡◌ {A = ℕ} 0 1 = cc in omega arith) o)
      (λ g. nearest-by (λ x. (near_answer (head_of K C b) steps (inward K q) b.tree x).outcome ≡ Found → Stands K C (image K C b) (near_answer (head_of K C b) steps (inward K q) b.tree x)) steps (inward K q) (listing b.tree)
      (λ z o. never Absent (λ z. let n : ◌≡◌ {A = ℕ} 0 1 = cc in omega arith) o)
      (λ e best o. stands (near_answer (head_of K C b) steps (inward K q) b.tree (some e)) e (slot_of 0 e b.tree) refl refl refl (λ z. best.0 (listing-all (Unlike e) b.tree (slot_of-none C 0 e b.tree v.ordered (valid-in_pool K C b v) z))))))
    where
      never : {X : Type 0} (o : Outcome) → ¬ (o ≡ Found) → o ≡ Found → X
      never o f e = absurd (f e)

  pub reached-image : Reached K C (image K C b) (listing b.tree)
  unfolding head_of perform
  reached-image =
      let back = image-book K C b v in
      let n : length (listing b.tree) ≡ size b.tree = listing-length b.tree in
      let m : size b.tree + length b.chain ≡ C = valid-size K C b v in
      let c : C ≤ 4096 = fit.c_high in
      let low : height b.tree ≤ 16 = low-enough b.tree v.balanced (omega arith) in
      let same : tallest (length (listing b.tree)) ≡ tallest (size b.tree) = ap tallest n in
      record {
        soundness = image-sound K C b v;
        shape = (refl, refl, sym n);
        entries = ap (λ x. listing x.tree) back;
        rise = listing-rises b.tree v.ordered;
        answers = λ c g. (step-image K C b fit v c g).said;
        look_place = λ e. look-place e (slot_of 0 (inward K e) b.tree) refl;
        near_place = near-place;
        walk = λ e. reads_of e ∙ ap (λ x. reads 0 (inward K e) x.tree) (sym back);
        few = λ e. (let x = reads_of e in let y = reads-bound 0 (inward K e) b.tree v.balanced in omega arith);
        sixteen = λ e. (let x = reads_of e in let y = reads-height 0 (inward K e) b.tree in omega arith);
        high = subst (λ (x : Book). height x.tree ≤ tallest (length (listing b.tree))) (sym back) (let y = balanced-height b.tree v.balanced in omega arith);
        slots = subst (λ (x : Book). Permᴰ (slots_of (items x.tree) ++ x.chain) (up_from C 1)) (sym back) v.pool;
      }
    where
      reads_of : (e : Four) → (perform (Call.look_up e) (image K C b)).answer.reads ≡ reads 0 (inward K e) b.tree
      reads_of e = ap (λ a. a.answer.reads) (look-image K C b fit v e) ∙ walked-reads (head_of K C b) (inward K e) (slot_of 0 (inward K e) b.tree) (reads 0 (inward K e) b.tree)
