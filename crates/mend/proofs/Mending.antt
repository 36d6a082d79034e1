-- What `mend` needs: the node linked, its slots gathered and rebuilt, and the scratch put back to 0.
use mathlib.Core.Path.{◌≡◌, refl, sym, ap, ◌∙◌}
use mathlib.Core.Logic.{inl, ⊎_elim}
use mathlib.Core.Bool.{Bool, true, false}
use mathlib.Core.List.{List, [], ◌∷◌, ◌++◌}
use Prim.Native.Nat.{ℕ, suc, ◌+◌, ◌-◌, ◌*◌, ◌^◌, ◌≤◌, ◌<◌, max}
use native.Mathlib.Omega.{arith}
use lib.ListN.{length, take, drop, replicate, length-append, length-replicate, replicate-append-replicate}
use lib.Seq.{take_at, drop_at, length-take-le}
use lib.IntN.{ℤ}
use Rattle.std.proofs.lemmas.List.{drop-replicate}
use Rattle.model.specs.Add.{mend}
use Rattle.model.specs.Entry.{cut_field}
use Rattle.model.specs.Rebuild.{rebuild}
use Rattle.model.specs.Tree.{Item, Tree, node, height, items, even}
use Rattle.model.specs.declared.Shape.{Shape}
use Rattle.model.proofs.Lists.{every-join}
use Rattle.model.proofs.Crowd.{InPool}
use Rattle.model.proofs.Strikes.{slots, slots-append}
use Rattle.cells.specs.Slots.{tall, Room}
use Rattle.cells.specs.Memory.{Rep, In, Frame, Put}
use Rattle.cells.proofs.Reps.{tall-rep, rep-bound, unique, frame-trans, joined, in_right}
use Rattle.rank.specs.Ranking.{items_at}
use Rattle.build.specs.Rebuilding.{Fitting, Gathered, Chosen, Rebuilt}
use Rattle.build.proofs.Shapes.{items-held, Parts, parts}
use Rattle.mend.specs.Mends.{Mendable, Mended}
use Rattle.mend.specs.Listings.{Lying, Listed}
use Rattle.seek.specs.Sides.{item_in}
use Rattle.mend.proofs.Heights.{few, low-tree, rep-pool}

pub scratch-long : {C : ℕ} {sc : List ℕ} → sc ≡ replicate C 0 → length sc ≡ C
scratch-long {C} e = ap length e ∙ length-replicate C 0

-- a list of which the front was cleared, and which was 0 behind it
cleared : (C n : ℕ) (sc sc₁ z : List ℕ) → n ≤ C → drop n sc₁ ≡ drop n sc → sc ≡ replicate C 0 → z ≡ replicate n 0 → z ++ drop n sc₁ ≡ replicate C 0
cleared C n sc sc₁ z le same e₀ ez =
    let joins : n + (C - n) ≡ C = omega arith in
    rw (ez, same, e₀, drop-replicate) (replicate-append-replicate n (C - n) 0 ∙ ap (λ (x : ℕ). replicate x 0) joins)

mend-kept : (t : ℕ) (i : Item) (l r : Tree) → even (height l) (height r) ≡ true → mend t i l r ≡ node i l r
unfolding mend
mend-kept t i l r e = rw (e, mend) refl

mend-rebuilt : (t : ℕ) (i : Item) (l r : Tree) → even (height l) (height r) ≡ false → mend t i l r ≡ rebuild t (items l ++ (i ∷ items r))
unfolding mend
mend-rebuilt t i l r e = rw (e, mend) refl

module _ {S : Shape} {ks : List ℤ} {ls : List ℕ} {s l r : ℕ} (room : Room S (length ks) (length ls)) (m : Mendable S.k ks ls s l r) where
  abbrev whole : List ℕ
  whole = slots m.low ++ (s ∷ slots m.high)

  abbrev top : Tree
  top = node (item_in S.k ks s) m.low m.high

  chosen : Chosen S.c (slots m.low ++ (s ∷ slots m.high))
  chosen = record {
    each = every-join (InPool S.c) (slots m.low) (s ∷ slots m.high)
        (rep-pool S.k S.c ks ls room.long l m.low m.left)
        ((m.here.some, (let a : 3 * s ≤ length ls = m.here.fits in let b = room.long in omega arith)), rep-pool S.k S.c ks ls room.long r m.high m.right);
    once = m.once;
  }

  apart : Parts S.c (slots m.low) s (slots m.high)
  apart = parts S.c (slots m.low) s (slots m.high) chosen

  not-many : length (slots m.low ++ (s ∷ slots m.high)) ≤ S.c
  not-many = few S.c whole chosen.once chosen.each

  pub left-bound : 3 * l ≤ length ls
  left-bound = rep-bound S.k ks ls l m.low m.left

  pub right-bound : 3 * r ≤ length ls
  right-bound = rep-bound S.k ks ls r m.high m.right

  pub left-low : tall ls l < 4097
  left-low =
      let a = tall-rep S.k ks ls l m.low m.left in
      let b = low-tree m.low in
      let d = length-append (slots m.low) (s ∷ slots m.high) in
      let e = not-many in
      let f = room.c_high in
      omega arith

  pub right-low : tall ls r < 4097
  right-low =
      let a = tall-rep S.k ks ls r m.high m.right in
      let b = low-tree m.high in
      let d = length-append (slots m.low) (s ∷ slots m.high) in
      let e = not-many in
      let f = room.c_high in
      omega arith

  pub sum_fits : max (tall ls l) (tall ls r) < 2 ^ 63
  sum_fits = let a = left-low in let b = right-low in omega arith

  -- one tree lies at each child
  mended-of : (ls' : List ℕ) (c x : ℕ) → ((t : ℕ) → cut_field S.k t ≡ c → Rep S.k ks ls' x (mend t (item_in S.k ks s) m.low m.high)) → Frame S.k ks ks ls ls' (slots m.low ++ (s ∷ slots m.high)) → Mended S.k ks ls ls' c s l r x
  mended-of ls' c x here left = record {
    rep = λ t h u w a b. rw (unique S.k ks ls l u m.low a m.left, unique S.k ks ls r w m.high b m.right) (here t h);
    frame = λ u w a b. rw (unique S.k ks ls l u m.low a m.left, unique S.k ks ls r w m.high b m.right) left;
  }

  same-even : (o : Bool) → o ≡ even (tall ls l) (tall ls r) → even (height m.low) (height m.high) ≡ o
  same-even o e = rw (← tall-rep S.k ks ls l m.low m.left, ← tall-rep S.k ks ls r m.high m.right) (sym e)

  -- s was linked to l and r
  module _ {ls₁ : List ℕ} (e₁ : length ls₁ ≡ length ls) (p : Put ls ls₁ s l r (suc (max (tall ls l) (tall ls r)))) where
    linked : Rep S.k ks ls₁ s (node (item_in S.k ks s) m.low m.high)
    linked = joined S.k ks ls ls₁ (item_in S.k ks s) l r m.low m.high e₁ m.here refl p m.left m.right apart.not_left apart.not_right

    top-slots : slots (node (item_in S.k ks s) m.low m.high) ≡ slots m.low ++ (s ∷ slots m.high)
    top-slots = slots-append (items m.low) (item_in S.k ks s ∷ items m.high)

    only-top : (j : ℕ) → In j (s ∷ []) → In j (slots m.low ++ (s ∷ slots m.high))
    only-top j h = in_right j (slots m.low) (s ∷ slots m.high) (⊎_elim (λ e. inl e) absurd h)

    pub mended-even : (c : ℕ) → true ≡ even (tall ls l) (tall ls r) → Mended S.k ks ls ls₁ c s l r s
    mended-even c ev = mended-of ls₁ c s here (frame-trans S.k ks ks ks ls ls ls₁ [] (s ∷ []) (λ j q i. record { left = refl; right = refl; high = refl; numbers = refl }) (p.others S.k ks) whole (λ j. absurd) only-top)
      where
        here : (t : ℕ) → cut_field S.k t ≡ c → Rep S.k ks ls₁ s (mend t (item_in S.k ks s) m.low m.high)
        here t h = rw (mend-kept t (item_in S.k ks s) m.low m.high (same-even true ev)) linked

    pub mended-rebuilt : {ls₂ xs : List ℕ} {c x : ℕ} → xs ≡ slots m.low ++ (s ∷ slots m.high) → false ≡ even (tall ls l) (tall ls r) → Rebuilt S.k ks c ls₁ ls₂ xs x → Mended S.k ks ls ls₂ c s l r x
    mended-rebuilt {ls₂} {xs} {c} {x} all ev b = mended-of ls₂ c x here (frame-trans S.k ks ks ks ls ls₁ ls₂ (s ∷ []) xs (p.others S.k ks) b.frame whole only-top (λ j i. rw all at i))
      where
        same : items_at S.k ks xs ≡ items m.low ++ (item_in S.k ks s ∷ items m.high)
        same = ap (items_at S.k ks) (all ∙ sym top-slots) ∙ items-held S.k ks ls₁ s top linked

        here : (t : ℕ) → cut_field S.k t ≡ c → Rep S.k ks ls₂ x (mend t (item_in S.k ks s) m.low m.high)
        here t h = rw (mend-rebuilt t (item_in S.k ks s) m.low m.high (same-even false ev)) (rw same at (b.rep t h))

    pub lying : Lying ls₁ s
    lying = record { K = S.k; ks = ks; tree = top; rep = linked }

    -- three slots were read off the links
    module _ {x y z : ℕ} (f : Listed ls₁ s (x ∷ y ∷ z ∷ [])) where
      pub three-all : x ∷ y ∷ z ∷ [] ≡ slots m.low ++ (s ∷ slots m.high)
      three-all = sym (f.at S.k ks top linked) ∙ top-slots

      pub three-chosen : Chosen S.c (x ∷ y ∷ z ∷ [])
      three-chosen = rw three-all chosen

    pub fitting : (n : ℕ) → S.c ≤ n → Fitting ls₁ s n
    fitting n h = record { K = S.k; ks = ks; tree = top; rep = linked; enough = let a = ap length top-slots in let b = not-many in omega arith }

    -- the slots lie in front of the scratch
    module _ {sc sc₁ : List ℕ} {n : ℕ} (ns : length sc ≡ S.c) (g : Gathered ls₁ sc sc₁ s 0 n) where
      many : n ≡ length (slots m.low ++ (s ∷ slots m.high))
      many = let a : n ≡ 0 + length (slots top) = g.next S.k ks top linked in let b = ap length top-slots in omega arith

      pub in-scratch : n ≤ S.c
      in-scratch = let a = many in let b = not-many in omega arith

      filled : sc₁ ≡ (slots m.low ++ (s ∷ slots m.high)) ++ drop n sc
      filled =
          let a : 0 + length (slots top) ≡ n = sym (g.next S.k ks top linked) in
          rw a at (g.written S.k ks top linked) ∙ ap (λ (x : List ℕ). x ++ drop n sc) top-slots

      pub fits-scratch : n ≤ length sc₁
      fits-scratch = let a = ap length filled in let b = length-append whole (drop n sc) in let d = many in omega arith

      pub front : take n sc₁ ≡ slots m.low ++ (s ∷ slots m.high)
      front = ap (take n) filled ∙ take_at whole (drop n sc) n (sym many)

      pub front-long : length (take n sc₁) ≡ n
      front-long = length-take-le n sc₁ fits-scratch

      pub spare-front : (sp : List ℕ) → length sp ≡ S.c → length (take n sp) ≡ n
      spare-front sp e = let a = in-scratch in length-take-le n sp (omega arith)

      behind : drop n sc₁ ≡ drop n sc
      behind = ap (drop n) filled ∙ drop_at whole (drop n sc) n (sym many)

      pub chosen-front : Chosen S.c (take n sc₁)
      chosen-front = rw front chosen

      -- what the rebuild left in front is cleared; behind it all is 0 as before
      pub scratch-clear : (a z : List ℕ) → sc ≡ replicate S.c 0 → length a ≡ length (take n sc₁) → z ≡ replicate (length a) 0 → z ++ drop n sc₁ ≡ replicate S.c 0
      scratch-clear a z e₀ ea ez = cleared S.c n sc sc₁ z in-scratch behind e₀ (ez ∙ ap (λ (x : ℕ). replicate x 0) (ea ∙ front-long))
