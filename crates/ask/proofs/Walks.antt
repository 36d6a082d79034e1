-- The walk through memory, a turn at a time.
use mathlib.Core.Path.{◌≡◌, refl, sym, ap, ◌∙◌}
use mathlib.Core.Bool.{Bool, true, false, cond, true≢false}
use mathlib.Core.List.{List}
use Prim.Native.Nat.{ℕ, zero, suc, ◌+◌, ◌-◌, ◌≤◌, ◌<◌, Ordering}
use native.Mathlib.Omega.{arith}
use native.Mathlib.Nat.{mul-le-mul_left, zero-mod}
use lib.ListN.{length, take, get_or}
use lib.Seq.{get_or-take, length-take-le}
use lib.IntN.{ℤ, pos}
use borrow.Author.Tests.{le-leb, lt-leb}
use Rattle.model.specs.Number.{order}
use Rattle.model.specs.Entry.{Entry, cut_field, cmp}
use Rattle.model.specs.Tree.{is_less}
use Rattle.model.specs.Book.{Cell}
use Rattle.model.specs.Pool.{cell_of, Walk, found, gone, astray, walk}
use Rattle.model.specs.declared.Shape.{Shape}
use Rattle.model.proofs.Orders.{flip, order-eq, order_flip}
use Rattle.cells.specs.Orders.{Deeper}
use Rattle.cells.specs.Orders as orders
use Rattle.cells.specs.Slots.{left_at, right_at, numbers_of, Slot, Keyed, Room, EntryCompared}
use Rattle.std.specs.declared.cmp.Ordering.{Ordering as Order}
use Rattle.std.specs.declared.cmp.Ordering.TheVariants.{Less, Equal, Greater}
use Rattle.cells.proofs.Orders.{cut-decides}
use Rattle.cells.proofs.Slots.{numbers-long}
use Rattle.cells.proofs.Reps.{link-cells}
use Rattle.ask.specs.Walks.{named}
use Rattle.ask.specs.declared.walk.Walk.TheVariants.{Found, Gone, Astray}

-- a slot within the capacity lies within both tables
pub slot-in : (S : Shape) (nk nl s : ℕ) → Room S nk nl → ¬ (s ≡ 0) → s ≤ S.c → Slot nl s
slot-in S nk nl s r ne h = record { some = omega (arith, ne); fits = let e = r.long in omega arith }

pub keyed-in : (S : Shape) (nk nl s : ℕ) → Room S nk nl → ¬ (s ≡ 0) → s ≤ S.c → Keyed S.k nk s
keyed-in S nk nl s r ne h = record { some = omega (arith, ne); fits = let e = r.wide in let f = mul-le-mul_left S.k h in omega arith }

abbrev pub by_order : Order → Walk → Walk → Walk → Walk
by_order Less a b c = a
by_order Equal a b c = b
by_order Greater a b c = c

module _ (f : ℕ → Cell) (C : ℕ) (q : Entry) where
  pub walk-gone : (m t r at : ℕ) → at ≡ 0 → walk m f C t q r at ≡ gone r
  unfolding walk
  walk-gone zero t r zero e = refl
  walk-gone (suc m) t r zero e = refl
  walk-gone m t r (suc s) e = absurd (omega arith)

  pub walk-out : (m t r at : ℕ) → ¬ (at ≡ 0) → C < at → walk m f C t q r at ≡ astray
  unfolding walk
  walk-out m t r zero n h = absurd (n refl)
  walk-out zero t r (suc s) n h = refl
  walk-out (suc m) t r (suc s) n h = rw (lt-leb (suc s) C h, walk) refl

  pub walk-long : (m t r at : ℕ) → ¬ (at ≡ 0) → m ≡ 0 → walk m f C t q r at ≡ astray
  unfolding walk
  walk-long m t r zero n h = absurd (n refl)
  walk-long zero t r (suc s) n h = refl
  walk-long (suc m) t r (suc s) n h = absurd (omega arith)

  walk_step : (m t r at : ℕ) (o : Ordering) → ¬ (at ≡ 0) → at ≤ C → cmp t q (f at).key ≡ o → walk (suc m) f C t q r at ≡ by_order (orders.named o) (walk m f C (suc t) q (suc r) (f at).left) (found at (suc r)) (walk m f C (suc t) q (suc r) (f at).right)
  unfolding walk
  walk_step m t r zero o n h e = absurd (n refl)
  walk_step m t r (suc s) Ordering.lt n h e = rw (le-leb (suc s) C h, walk) (rw e refl)
  walk_step m t r (suc s) Ordering.eq n h e = rw (le-leb (suc s) C h, walk) (rw e refl)
  walk_step m t r (suc s) Ordering.gt n h e = rw (le-leb (suc s) C h, walk) (rw e refl)

-- a turn of the loop: the depth is the number of entries read
module _ (K C : ℕ) (e : List ℤ) (ks : List ℤ) (ls : List ℕ) (at cut reads : ℕ) (o : Order) (ne : ¬ (at ≡ 0)) (h : at ≤ C) (l : reads < 16) (c : cut_field K reads ≡ cut) (w : EntryCompared K e ks at cut o) where
  abbrev goes : ℕ → Walk
  goes s = walk (16 - (reads + 1)) (cell_of K ks ls) C (reads + 1) (take K e) (reads + 1) s

  pub walk_turn : walk (16 - reads) (cell_of K ks ls) C reads (take K e) reads at ≡ by_order o (goes (left_at ls at)) (found at (reads + 1)) (goes (right_at ls at))
  walk_turn =
      let k = link-cells K ks ls at (omega (arith, ne)) in
      let m : 16 - reads ≡ suc (16 - (reads + 1)) = omega arith in
      let n : reads + 1 ≡ suc reads = omega arith in
      let q : o ≡ orders.named (cmp reads (take K e) (cell_of K ks ls at).key) = w.at reads c ∙ ap (λ (x : Cell). orders.named (cmp reads (take K e) x.key)) (sym k) in
      rw (m, n) (walk_step (cell_of K ks ls) C (take K e) (16 - suc reads) reads reads at (cmp reads (take K e) (cell_of K ks ls at).key) ne h refl
      ∙ ap (λ x. by_order x (walk (16 - suc reads) (cell_of K ks ls) C (suc reads) (take K e) (suc reads) (cell_of K ks ls at).left) (found at (suc reads)) (walk (16 - suc reads) (cell_of K ks ls) C (suc reads) (take K e) (suc reads) (cell_of K ks ls at).right)) (sym q)
      ∙ ap (λ (x : Cell). by_order o (walk (16 - suc reads) (cell_of K ks ls) C (suc reads) (take K e) (suc reads) x.left) (found at (suc reads)) (walk (16 - suc reads) (cell_of K ks ls) C (suc reads) (take K e) (suc reads) x.right)) k)

-- what holds whenever the loop's test is reached
pub record Walking (S : Shape) (e : List ℤ) (ks : List ℤ) (ls : List ℕ) (root at cut reads : ℕ) : Type 0 where
  pub low : reads ≤ 16
  pub cut_low : cut < S.k
  pub depth : cut_field S.k reads ≡ cut
  pub same : walk 16 (cell_of S.k ks ls) S.c 0 (take S.k e) 0 root ≡ walk (16 - reads) (cell_of S.k ks ls) S.c reads (take S.k e) reads at

module _ (S : Shape) (e : List ℤ) (ks : List ℤ) (ls : List ℕ) (root : ℕ) where
  pub walk-starts : 1 ≤ S.k → Walking S e ks ls root root 0 0
  unfolding cut_field
  walk-starts h = record { low = omega arith; cut_low = h; depth = zero-mod S.k; same = refl }

  module _ (at cut reads : ℕ) (v : Walking S e ks ls root at cut reads) where
    pub ends-gone : at ≡ 0 → Gone reads ≡ named (walk 16 (cell_of S.k ks ls) S.c 0 (take S.k e) 0 root)
    ends-gone z = sym (ap named (v.same ∙ walk-gone (cell_of S.k ks ls) S.c (take S.k e) (16 - reads) reads reads at z))

    pub ends-out : ¬ (at ≡ 0) → S.c < at → Astray ≡ named (walk 16 (cell_of S.k ks ls) S.c 0 (take S.k e) 0 root)
    ends-out n h = sym (ap named (v.same ∙ walk-out (cell_of S.k ks ls) S.c (take S.k e) (16 - reads) reads reads at n h))

    pub ends-long : ¬ (at ≡ 0) → reads ≡ 16 → Astray ≡ named (walk 16 (cell_of S.k ks ls) S.c 0 (take S.k e) 0 root)
    ends-long n h = sym (ap named (v.same ∙ walk-long (cell_of S.k ks ls) S.c (take S.k e) (16 - reads) reads reads at n (omega arith)))

    module _ (o : Order) (ne : ¬ (at ≡ 0)) (h : at ≤ S.c) (l : ¬ (reads ≡ 16)) (w : EntryCompared S.k e ks at cut o) where
      few : reads < 16
      few = let a = v.low in omega (arith, l)

      pub ends_found : o ≡ Equal → Found at (reads + 1) ≡ named (walk 16 (cell_of S.k ks ls) S.c 0 (take S.k e) 0 root)
      ends_found q = sym (ap named (v.same ∙ walk_turn S.k S.c e ks ls at cut reads o ne h few v.depth w ∙ ap (λ x. by_order x (goes S.k S.c e ks ls at cut reads o ne h few v.depth w (left_at ls at)) (found at (reads + 1)) (goes S.k S.c e ks ls at cut reads o ne h few v.depth w (right_at ls at))) q))

      pub goes_left : (s d : ℕ) → o ≡ Less → s ≡ left_at ls at → Deeper S.k cut d → Walking S e ks ls root s d (reads + 1)
      goes_left s d q z k =
          let f = few in
          record {
            low = omega arith;
            cut_low = k.low;
            depth = (let n : reads + 1 ≡ suc reads = omega arith in rw n (k.at reads v.depth));
            same = v.same ∙ walk_turn S.k S.c e ks ls at cut reads o ne h few v.depth w ∙ rw (q, z) refl;
          }

      pub goes-right : (s d : ℕ) → o ≡ Greater → s ≡ right_at ls at → Deeper S.k cut d → Walking S e ks ls root s d (reads + 1)
      goes-right s d q z k =
          let f = few in
          record {
            low = omega arith;
            cut_low = k.low;
            depth = (let n : reads + 1 ≡ suc reads = omega arith in rw n (k.at reads v.depth));
            same = v.same ∙ walk_turn S.k S.c e ks ls at cut reads o ne h few v.depth w ∙ rw (q, z) refl;
          }

    -- where the cut field differs it tells the way
    module _ (ne : ¬ (at ≡ 0)) (h : at ≤ S.c) (l : ¬ (reads ≡ 16)) (room : Room S (length ks) (length ls)) (four : length e ≡ 4) (x y : ℤ) (ex : x ≡ get_or e cut (pos 0)) (ey : y ≡ get_or (numbers_of S.k ks at) cut (pos 0)) (other : x ≡ y → ⊥) where
      decided : EntryCompared S.k e ks at cut (orders.named (order x y))
      decided =
          let k = room.k_high in
          let n : length (take S.k e) ≡ S.k = length-take-le S.k e (omega arith) in
          let m : length (numbers_of S.k ks at) ≡ S.k = numbers-long S.k ks at (keyed-in S (length ks) (length ls) at room ne h) in
          let c = v.cut_low in
          let g : x ≡ get_or (take S.k e) cut (pos 0) = ex ∙ sym (get_or-take S.k e cut (pos 0) c) in
          record { at = λ t q. (λ i. orders.named (order (g i) (ey i))) ∙ sym (cut-decides (take S.k e) (numbers_of S.k ks at) cut t (omega arith) (n ∙ sym m) (ap (λ z. cut_field z t) n ∙ q) (λ w. other (g ∙ w ∙ sym ey))) }

      pub goes_on : (s d : ℕ) (right : Bool) (sl sr : ℕ) → right ≡ is_less (order y x) → s ≡ cond right sr sl → sl ≡ left_at ls at → sr ≡ right_at ls at → Deeper S.k cut d → Walking S e ks ls root s d (reads + 1)
      goes_on s d right sl sr r z zl zr k = go right (order x y) refl r z
        where
          flipped : order y x ≡ flip (order x y)
          flipped = order_flip x y

          go : (b : Bool) (o : Ordering) → order x y ≡ o → b ≡ is_less (order y x) → s ≡ cond b sr sl → Walking S e ks ls root s d (reads + 1)
          go true Ordering.lt w q c = absurd (true≢false (q ∙ ap is_less (flipped ∙ ap flip w)))
          go false Ordering.lt w q c = goes_left (orders.named (order x y)) ne h l decided s d (ap orders.named w) (c ∙ zl) k
          go b Ordering.eq w q c = absurd (other (order-eq x y w))
          go true Ordering.gt w q c = goes-right (orders.named (order x y)) ne h l decided s d (ap orders.named w) (c ∙ zr) k
          go false Ordering.gt w q c = absurd (true≢false (sym (q ∙ ap is_less (flipped ∙ ap flip w))))
