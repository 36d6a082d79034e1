-- The items of a tray judged in turn: a verdict is what is wrong in the book by then, and the first wrong one is the tray's.
use mathlib.Core.Path.{◌≡◌, refl, sym, ap, ◌∙◌}
use mathlib.Core.Bool.{Bool, true, false}
use mathlib.Core.List.{List, [], ◌∷◌}
use mathlib.Core.Option.{Option, none, some}
use Rattle.std.specs.Prelude.{Result, Ok, Err}
use Rattle.std.specs.declared.option.Option.TheVariants.{Some, None}
use Prim.Native.Nat.{ℕ, zero, suc, ◌+◌, ◌-◌, ◌*◌, ◌/◌, ◌≤◌, ◌<◌}
use native.Mathlib.Omega.{arith}
use native.Mathlib.Nat.{suc-mul}
use native.Mathlib.Numerals.{add-one}
use lib.ListN.{length, drop}
use lib.Seq.{drop-drop}
use lib.IntN.{ℤ}
use Rattle.model.specs.Answer.{gate}
use Rattle.model.specs.Ask.{has}
use Rattle.model.specs.Book.{Book}
use Rattle.model.specs.Entry.{Entry}
use Rattle.model.specs.Laws.{first_wrong_item, worked, wrong_with}
use Rattle.model.specs.Pool.{book_of}
use Rattle.model.specs.Rebuild.{listing}
use Rattle.model.specs.Tray.{Work, adding, striking, begins, work_at, works, works_from}
use Rattle.model.specs.Tree.{size}
use Rattle.model.specs.declared.Head.{Head}
use Rattle.model.specs.declared.Refusal.{Refusal}
use Rattle.model.proofs.Backs.{valid-size}
use Rattle.model.proofs.Books.{Valid}
use Rattle.model.proofs.Items.{Wide, entry_of_work, worked-good}
use Rattle.model.proofs.Passes.{Fit}
use Rattle.weigh.specs.Items.{entry_at, item_of, there_after, is_there_by, work_of}
use Rattle.weigh.specs.Judging.{first_of, rows_of, verdict, verdict_on}
use Rattle.weigh.specs.Sounds.{Sound}
use Rattle.weigh.proofs.Begun.{begins_item, entry-is, item-fits}
use Rattle.weigh.proofs.Held.{its}
use Rattle.weigh.proofs.Lately.{adds, adds-is, entry-long, has-worked, size-added, size-struck}

right-none : (o : Option Refusal) → Ok tt ≡ verdict o → o ≡ none
right-none none e = refl
right-none (some r) e = let z : ◌≡◌ {A = ℕ} 0 1 = cc in absurd (omega arith)

wrong-some : (o : Option Refusal) (r : Refusal) → Err r ≡ verdict o → o ≡ some r
wrong-some none r e = let z : ◌≡◌ {A = ℕ} 0 1 = cc in absurd (omega arith)
wrong-some (some q) r e = let m : r ≡ q = cc in ap some (sym m)

wrong-is : (C : ℕ) (w : Work) (b : Book) → gate (rows_of (adds w) (has (entry_of_work w) (listing b.tree)) (size b.tree) C) ≡ wrong_with C w b
wrong-is C (adding e) b = refl
wrong-is C (striking e) b = refl

-- ---- the items of a tray, one behind the other

from_on : (K m : ℕ) (xs : List ℤ) (i : ℕ) → i < m → drop i (works_from K m xs) ≡ work_of K xs i ∷ drop (suc i) (works_from K m xs)
from_on K zero xs i l = absurd (omega arith)
from_on K (suc m) xs zero l = ap (λ j. work_at K (drop j xs) ∷ works_from K m (drop (suc K) xs)) (let z : 0 ≡ 0 * (K + 1) = omega arith in z)
from_on K (suc m) xs (suc i) l = from_on K m (drop (suc K) xs) i (omega arith) ∙ ap (λ y. work_at K y ∷ drop (suc i) (works_from K m (drop (suc K) xs))) (shift i)
  where
    shift : (i : ℕ) → drop (i * (K + 1)) (drop (suc K) xs) ≡ drop (suc i * (K + 1)) xs
    shift i =
        let a : suc i * (K + 1) ≡ i * (K + 1) + (K + 1) = suc-mul i (K + 1) in
        let b : suc K + i * (K + 1) ≡ suc i * (K + 1) = (let o = add-one K in omega arith) in
        drop-drop (i * (K + 1)) (suc K) xs ∙ ap (λ j. drop j xs) b

from_end : (K m : ℕ) (xs : List ℤ) (i : ℕ) → m ≤ i → drop i (works_from K m xs) ≡ []
from_end K zero xs zero l = refl
from_end K zero xs (suc i) l = refl
from_end K (suc m) xs zero l = absurd (omega arith)
from_end K (suc m) xs (suc i) l = from_end K m (drop (suc K) xs) i (omega arith)

module _ (K : ℕ) (xs : List ℤ) where
  abbrev many : ℕ
  many = length xs / (K + 1)

  works-are : works K xs ≡ works_from K many xs
  unfolding works
  works-are = rw (add-one K) refl

  pub works-on : (i : ℕ) → i < many → drop i (works K xs) ≡ work_of K xs i ∷ drop (i + 1) (works K xs)
  works-on i l = ap (drop i) works-are ∙ from_on K many xs i l ∙ ap (λ j. work_of K xs i ∷ drop j (works_from K many xs)) (sym (add-one i)) ∙ ap (λ y. work_of K xs i ∷ drop (i + 1) y) (sym works-are)

  pub works-end : (i : ℕ) → many ≤ i → drop i (works K xs) ≡ []
  works-end i l = ap (drop i) works-are ∙ from_end K many xs i l

  pub work-wide : (i : ℕ) → i < many → Wide K (work_of K xs i)
  work-wide i l = ap length (entry-is K xs i) ∙ entry-long K xs i (item-fits K (length xs) i l)

-- the first item is wrong, or it is worked and the others are judged
pub first-wrong : (C p : ℕ) (w : Work) (ws : List Work) (b : Book) (r : Refusal) → wrong_with C w b ≡ some r → first_wrong_item C p (w ∷ ws) b ≡ some (p, r)
first-wrong C p w ws b r q = rw (q, first_wrong_item) refl

pub first-right : (C p : ℕ) (w : Work) (ws : List Work) (b : Book) → wrong_with C w b ≡ none → first_wrong_item C p (w ∷ ws) b ≡ first_wrong_item C (suc p) ws (worked w b)
first-right C p w ws b q = rw (q, first_wrong_item) refl

-- ---- the book by then

pub record Judging (h : Head) (b : Book) (xs : List ℤ) (n i : ℕ) : Type 0 where
  pub book : Book
  pub low : i ≤ length xs / (h.k + 1)
  pub valid : Valid h.k h.c book
  pub count : size book.tree ≡ n
  pub there : (e : Entry) → has e (listing book.tree) ≡ is_there_by h.k xs e (has e (listing b.tree)) i
  pub goal : first_wrong_item h.c (i + 1) (drop i (works h.k xs)) book ≡ first_wrong_item h.c 1 (works h.k xs) b

module _ (h : Head) (ks : List ℤ) (ls : List ℕ) (p : Sound h ks ls) (xs : List ℤ) where
  abbrev b : Book
  b = book_of h ks ls

  abbrev K : ℕ
  K = h.k

  abbrev C : ℕ
  C = h.c

  fit : Fit K C
  fit = record { k_low = p.room.k_low; k_high = p.room.k_high; c_low = p.room.c_low; c_high = p.room.c_high }

  pub judges-first : Judging h b xs h.n 0
  judges-first = record { book = b; low = omega arith; valid = (its h ks ls p).valid; count = (its h ks ls p).count; there = λ e. refl; goal = refl }

  module _ (n i : ℕ) (v : Judging h b xs n i) where
    pub judges-end : length xs / (K + 1) ≤ i → None ≡ first_of (first_wrong_item C 1 (works K xs) b)
    judges-end l = ap first_of (ap (λ ws. first_wrong_item C (i + 1) ws v.book) (sym (works-end K xs i l)) ∙ v.goal)

    pub judges-low : n ≤ 4096
    judges-low = let a : size v.book.tree + length v.book.chain ≡ C = valid-size K C v.book v.valid in let e = v.count in let c = p.room.c_high in omega arith

    module _ (l : i < length xs / (K + 1)) (t : Bool) (ts : t ≡ is_there_by K xs (entry_at K xs i) (has (entry_at K xs i) (listing b.tree)) i) (a : Bool) (an : a ≡ begins 1 (item_of K xs i)) (z : Result (Unit {0}) Refusal) (zs : z ≡ verdict_on a t n C) where
      abbrev w : Work
      w = work_of K xs i

      entry-there : t ≡ has (entry_of_work w) (listing v.book.tree)
      entry-there = ts ∙ sym (v.there (entry_at K xs i)) ∙ ap (λ e. has e (listing v.book.tree)) (sym (entry-is K xs i))

      adds_then : a ≡ adds w
      adds_then = an ∙ begins_item 1 K i xs ∙ sym (adds-is K (drop (i * (K + 1)) xs))

      judged : z ≡ verdict (wrong_with C w v.book)
      judged = zs ∙ ap (λ y. verdict_on y t n C) adds_then ∙ ap (λ y. verdict_on (adds w) y n C) entry-there ∙ ap (λ y. verdict_on (adds w) (has (entry_of_work w) (listing v.book.tree)) y C) (sym v.count) ∙ ap verdict (wrong-is C w v.book)

      pub judges-wrong : (r : Refusal) → z ≡ Err r → Some (i + 1, r) ≡ first_of (first_wrong_item C 1 (works K xs) b)
      judges-wrong r q =
          let e : wrong_with C w v.book ≡ some r = wrong-some (wrong_with C w v.book) r (sym q ∙ judged) in
          ap first_of (sym (first-wrong C (i + 1) w (drop (i + 1) (works K xs)) v.book r e) ∙ ap (λ ws. first_wrong_item C (i + 1) ws v.book) (sym (works-on K xs i l)) ∙ v.goal)

      module _ (q : z ≡ Ok tt) where
        right : wrong_with C w v.book ≡ none
        right = right-none (wrong_with C w v.book) (sym q ∙ judged)

        pub strikes-some : a ≡ false → 1 ≤ n
        strikes-some f = go w adds_then (work-wide K xs i l) right
          where
            go : (x : Work) → a ≡ adds x → Wide K x → wrong_with C x v.book ≡ none → 1 ≤ n
            go (adding e) s m g = let y : true ≡ false = sym s ∙ f in let o : ◌≡◌ {A = ℕ} 0 1 = cc in absurd (omega arith)
            go (striking e) s m g = let y = size-struck K C fit v.book v.valid e m g in let o = v.count in omega arith

        judges-with : (n' : ℕ) → size (worked w v.book).tree ≡ n' → Judging h b xs n' (i + 1)
        judges-with n' s =
            record {
              book = worked w v.book;
              low = omega arith;
              valid = (worked-good K C fit v.book v.valid w (work-wide K xs i l) right).0;
              count = s;
              there = λ e. has-worked K C fit v.book v.valid w (work-wide K xs i l) right e ∙ ap (λ y. there_after e w y) (v.there e) ∙ ap (is_there_by K xs e (has e (listing b.tree))) (sym (add-one i));
              goal = ap (λ j. first_wrong_item C j (drop (i + 1) (works K xs)) (worked w v.book)) (add-one (i + 1)) ∙ sym (first-right C (i + 1) w (drop (i + 1) (works K xs)) v.book right) ∙ ap (λ ws. first_wrong_item C (i + 1) ws v.book) (sym (works-on K xs i l)) ∙ v.goal;
            }

        pub judges-added : a ≡ true → Judging h b xs (n + 1) (i + 1)
        judges-added f = judges-with (n + 1) (go w adds_then (work-wide K xs i l) right)
          where
            go : (x : Work) → a ≡ adds x → Wide K x → wrong_with C x v.book ≡ none → size (worked x v.book).tree ≡ n + 1
            go (adding e) s m g = let y = size-added K C fit v.book v.valid e m g in let o = v.count in omega arith
            go (striking e) s m g = let y : true ≡ false = sym f ∙ s in let o : ◌≡◌ {A = ℕ} 0 1 = cc in absurd (omega arith)

        pub judges-struck : a ≡ false → Judging h b xs (n - 1) (i + 1)
        judges-struck f = judges-with (n - 1) (go w adds_then (work-wide K xs i l) right)
          where
            go : (x : Work) → a ≡ adds x → Wide K x → wrong_with C x v.book ≡ none → size (worked x v.book).tree ≡ n - 1
            go (adding e) s m g = let y : true ≡ false = sym s ∙ f in let o : ◌≡◌ {A = ℕ} 0 1 = cc in absurd (omega arith)
            go (striking e) s m g = let y = size-struck K C fit v.book v.valid e m g in let o = v.count in omega arith
