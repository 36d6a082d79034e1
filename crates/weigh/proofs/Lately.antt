-- Whether an entry is there after some items of a tray: the last of them with that entry tells, where there is none the book before.
use mathlib.Core.Path.{◌≡◌, refl, sym, ap, ◌∙◌}
use mathlib.Core.Bool.{Bool, true, false, not, ◌&&◌, ◌||◌}
use mathlib.Core.List.{List, [], ◌∷◌}
use mathlib.Core.Option.{none}
use Prim.Native.Nat.{ℕ, suc, ◌+◌, ◌-◌, ◌*◌, ◌≤◌, ◌<◌, Ordering}
use native.Mathlib.Omega.{arith}
use lib.Dec.{compare_is_eq}
use lib.ListN.{length, drop, length-drop}
use lib.Seq.{length-take-le}
use lib.IntN.{ℤ}
use borrow.Author.Tests.{not-false}
use Rattle.model.specs.Answer.{inward, outward}
use Rattle.model.specs.Ask.{has}
use Rattle.model.specs.Book.{Book, struck}
use Rattle.model.specs.Entry.{Entry, cmp}
use Rattle.model.specs.Laws.{worked, wrong_rows, wrong_with}
use Rattle.model.specs.Plain.{within, without}
use Rattle.model.specs.Rebuild.{listing}
use Rattle.model.specs.Tray.{Work, adding, striking, begins, work_at}
use Rattle.model.specs.Tree.{size}
use Rattle.model.specs.declared.Entry.{Entry as Four}
use Rattle.model.proofs.Backs.{valid-size}
use Rattle.model.proofs.Books.{Valid}
use Rattle.model.proofs.Gates.{gate-none}
use Rattle.model.proofs.Goods.{within_by, within-length}
use Rattle.model.proofs.Items.{Wide, entry_of_work, worked-good}
use Rattle.model.proofs.Listings.{false-has, has-false, has-true, listing-all, listing-length, unlike-not}
use Rattle.model.proofs.Orders.{cmp-eq, cmp-refl}
use Rattle.model.proofs.Passes.{Fit}
use Rattle.model.proofs.Ranks.{Unlike}
use Rattle.model.proofs.Strikes.{strike-gone}
use Rattle.weigh.specs.Items.{entry_at, item_of, there_after, is_there_by, work_of}
use Rattle.weigh.proofs.Begun.{begins_item, entry-is, entry_item}
use Rattle.weigh.proofs.Inward.{back_in}

or-none : (a : Bool) → (a || false) ≡ false → a ≡ false
or-none true e = e
or-none false e = refl

or_swap : (a b c : Bool) → (b || (a || c)) ≡ (a || (b || c))
or_swap true true c = refl
or_swap true false c = refl
or_swap false b c = refl

or-again : (a c : Bool) → (a || c) ≡ (a || (a || c))
or-again true c = refl
or-again false c = refl

same-entry : (e : Entry) → compare_is_eq (cmp 0 e e) ≡ true
same-entry e = ap compare_is_eq (cmp-refl 0 e)

-- ---- the plain set after one entry more, one less

has_within : (e x : Entry) (es : List Entry) → has e (within x es) ≡ (compare_is_eq (cmp 0 e x) || has e es)
has_within e x [] = refl
has_within e x (y ∷ ys) =
    within_by (λ z. has e z ≡ (compare_is_eq (cmp 0 e x) || has e (y ∷ ys))) x y ys
    (λ q. refl)
    (λ q. or-again (compare_is_eq (cmp 0 e y)) (has e ys) ∙ ap (λ z. compare_is_eq (cmp 0 e z) || has e (y ∷ ys)) (sym q))
    (λ q. ap (λ z. compare_is_eq (cmp 0 e y) || z) (has_within e x ys) ∙ or_swap (compare_is_eq (cmp 0 e x)) (compare_is_eq (cmp 0 e y)) (has e ys))

has-without : (e x : Entry) (es : List Entry) → Unlike e x → has e (without x es) ≡ has e es
has-without e x [] u = refl
has-without e x (y ∷ ys) u = go (cmp 0 x y) refl (ap (λ z. compare_is_eq (cmp 0 e y) || z) (has-without e x ys u))
  where
    go : (o : Ordering) → cmp 0 x y ≡ o → has e (y ∷ without x ys) ≡ has e (y ∷ ys) → has e (without x (y ∷ ys)) ≡ has e (y ∷ ys)
    go Ordering.lt q h = rw (q, without) h
    go Ordering.eq q h = let d : compare_is_eq (cmp 0 e y) ≡ false = unlike-not e y (λ w. u (w ∙ sym (cmp-eq 0 x y q))) in rw (q, without) (rw d refl)
    go Ordering.gt q h = rw (q, without) h

-- ---- the book after an item that is not wrong

module _ (K C : ℕ) (fit : Fit K C) (b : Book) (v : Valid K C b) where
  pub has-worked : (w : Work) → Wide K w → wrong_with C w b ≡ none → (e : Entry) → has e (listing (worked w b).tree) ≡ there_after e w (has e (listing b.tree))
  unfolding struck
  has-worked (adding x) n g e = ap (has e) (worked-good K C fit b v (adding x) n g).1 ∙ has_within e x (listing b.tree)
  has-worked (striking x) n g e = go (cmp 0 e x) refl
    where
      gone : has x (listing (struck x b).tree) ≡ false
      gone =
          let f = gate-none (wrong_rows C (striking x) b) g in
          let q : has x (listing b.tree) ≡ true = not-false (has x (listing b.tree)) f.0 in
          false-has x (listing (struck x b).tree) (listing-all (Unlike x) (struck x b).tree (strike-gone 0 x b.tree v.ordered (λ a. has-true x (listing b.tree) q (listing-all (Unlike x) b.tree a))))

      kept : Unlike e x → has e (listing (struck x b).tree) ≡ (not (compare_is_eq (cmp 0 e x)) && has e (listing b.tree))
      kept u = ap (has e) (worked-good K C fit b v (striking x) n g).1 ∙ has-without e x (listing b.tree) u ∙ sym (ap (λ z. not z && has e (listing b.tree)) (unlike-not e x u))

      unlike : (o : Ordering) → compare_is_eq o ≡ false → cmp 0 e x ≡ o → Unlike e x
      unlike o z q w = let t : true ≡ false = sym (same-entry e) ∙ ap (λ y. compare_is_eq (cmp 0 e y)) w ∙ ap compare_is_eq q ∙ z in let m : ◌≡◌ {A = ℕ} 0 1 = cc in omega arith

      go : (o : Ordering) → cmp 0 e x ≡ o → has e (listing (struck x b).tree) ≡ (not (compare_is_eq (cmp 0 e x)) && has e (listing b.tree))
      go Ordering.lt q = kept (unlike Ordering.lt refl q)
      go Ordering.gt q = kept (unlike Ordering.gt refl q)
      go Ordering.eq q = let s : e ≡ x = cmp-eq 0 e x q in ap (λ z. has z (listing (struck x b).tree)) s ∙ gone ∙ sym (ap (λ z. not z && has e (listing b.tree)) (ap compare_is_eq q))

  pub size-added : (x : Entry) → length x ≡ K → wrong_with C (adding x) b ≡ none → size (worked (adding x) b).tree ≡ suc (size b.tree)
  size-added x n g =
      let u = has-false x (listing b.tree) (gate-none (wrong_rows C (adding x) b) g).0 in
      sym (listing-length (worked (adding x) b).tree) ∙ ap length (worked-good K C fit b v (adding x) n g).1 ∙ within-length x (listing b.tree) u ∙ ap suc (listing-length b.tree)

  pub size-struck : (x : Entry) → length x ≡ K → wrong_with C (striking x) b ≡ none → suc (size (worked (striking x) b).tree) ≡ size b.tree
  unfolding struck
  size-struck x n g =
      let y : size (worked (striking x) b).tree + suc (length b.chain) ≡ C = valid-size K C (struck x b) (worked-good K C fit b v (striking x) n g).0 in
      let z : size b.tree + length b.chain ≡ C = valid-size K C b v in
      omega arith

-- ---- looking back from an item

abbrev pub adds : Work → Bool
adds (adding x) = true
adds (striking x) = false

pub adds-is : (K : ℕ) (ys : List ℤ) → adds (work_at K ys) ≡ begins 1 ys
adds-is K ys = go (begins 1 ys) refl
  where
    go : (o : Bool) → begins 1 ys ≡ o → adds (work_at K ys) ≡ begins 1 ys
    go true q = rw (q, work_at) refl
    go false q = rw (q, work_at) refl

after_same : (e : Entry) (w : Work) (z : Bool) → entry_of_work w ≡ e → there_after e w z ≡ adds w
after_same e (adding x) z q = ap (λ y. y || z) (ap (λ y. compare_is_eq (cmp 0 e y)) q ∙ same-entry e)
after_same e (striking x) z q = ap (λ y. not y && z) (ap (λ y. compare_is_eq (cmp 0 e y)) q ∙ same-entry e)

after-other : (e : Entry) (w : Work) (z : Bool) → ¬ (entry_of_work w ≡ e) → there_after e w z ≡ z
after-other e (adding x) z n = ap (λ y. y || z) (unlike-not e x (λ q. n (sym q)))
after-other e (striking x) z n = ap (λ y. not y && z) (unlike-not e x (λ q. n (sym q)))

pub entry-long : (K : ℕ) (xs : List ℤ) (i : ℕ) → i * (K + 1) + (K + 1) ≤ length xs → length (entry_at K xs i) ≡ K
entry-long K xs i l = length-take-le K (drop (i * (K + 1) + 1) xs) (simp length-drop (omega arith))

-- the items from j to i say nothing of the entry
abbrev pub Silent : ℕ → List ℤ → Entry → Bool → ℕ → ℕ → Type 0
Silent K xs e z i j = (j ≤ i) × (is_there_by K xs e z i ≡ is_there_by K xs e z j)

-- where no item told, the pool does
pub pool-tells : (K : ℕ) (xs : List ℤ) (held : List Entry) (i j : ℕ) → i * (K + 1) + (K + 1) ≤ length xs → Silent K xs (entry_at K xs i) (has (entry_at K xs i) held) i j → j ≡ 0 → (x : Four) → x ≡ outward (drop 1 (item_of K xs i)) → (r : Bool) → r ≡ has (inward K x) held → r ≡ is_there_by K xs (entry_at K xs i) (has (entry_at K xs i) held) i
pool-tells K xs held i j f s q x o r h =
    let e : Entry = entry_at K xs i in
    h ∙ ap (λ y. has y held) (back_in K e x (entry-long K xs i f) (o ∙ ap outward (entry_item K i xs))) ∙ sym (s.1 ∙ ap (is_there_by K xs e (has e held)) q)

module _ (K : ℕ) (xs : List ℤ) (e : Entry) (z : Bool) (i j : ℕ) (s : Silent K xs e z i j) (l : 0 < j) where
  back_one : is_there_by K xs e z i ≡ there_after e (work_of K xs (j - 1)) (is_there_by K xs e z (j - 1))
  back_one = s.1 ∙ ap (is_there_by K xs e z) (let m : j ≡ suc (j - 1) = omega arith in m)

  pub tells : entry_at K xs (j - 1) ≡ e → (r : Bool) → r ≡ begins 1 (item_of K xs (j - 1)) → r ≡ is_there_by K xs e z i
  tells q r f = f ∙ begins_item 1 K (j - 1) xs ∙ sym (adds-is K (drop ((j - 1) * (K + 1)) xs)) ∙ sym (after_same e (work_of K xs (j - 1)) (is_there_by K xs e z (j - 1)) (entry-is K xs (j - 1) ∙ q)) ∙ sym back_one

  pub still-silent : ¬ (entry_at K xs (j - 1) ≡ e) → Silent K xs e z i (j - 1)
  still-silent n = (omega arith, back_one ∙ after-other e (work_of K xs (j - 1)) (is_there_by K xs e z (j - 1)) (λ q. n (sym (entry-is K xs (j - 1)) ∙ q)))
