-- The items of a tray worked in turn: one by its add or its strike, all of them from book to book.
use mathlib.Core.Path.{◌≡◌, refl, sym, ap, subst, ◌∙◌}
use mathlib.Core.Bool.{Bool, true, false}
use mathlib.Core.List.{List, ◌∷◌}
use mathlib.Core.Option.{Option, none, some}
use Prim.Native.Nat.{ℕ, ◌+◌, ◌*◌, ◌/◌, ◌≤◌, ◌<◌}
use native.Mathlib.Omega.{arith}
use native.Mathlib.Numerals.{add-one}
use lib.ListN.{length, drop}
use lib.IntN.{ℤ}
use borrow.Author.Tests.{eqb-false, not-false}
use Rattle.model.specs.Answer.{inward, outward}
use Rattle.model.specs.Ask.{has}
use Rattle.model.specs.Book.{Book, added, struck}
use Rattle.model.specs.Laws.{first_wrong_item, worked, worked_all, wrong_rows, wrong_with}
use Rattle.model.specs.Pool.{book_of}
use Rattle.model.specs.Rebuild.{listing}
use Rattle.model.specs.Tray.{Work, adding, striking, begins, works}
use Rattle.model.specs.Tree.{size}
use Rattle.model.specs.declared.Entry.{Entry as Four}
use Rattle.model.specs.declared.Head.{Head}
use Rattle.model.specs.declared.Refusal.{Refusal}
use Rattle.model.specs.declared.Shape.{Shape}
use Rattle.model.proofs.Backs.{is-sound}
use Rattle.model.proofs.Gates.{gate-none}
use Rattle.model.proofs.Items.{entry_of_work}
use Rattle.model.proofs.Sounds.{Is}
use Rattle.cells.specs.Slots.{Room}
use Rattle.weigh.specs.Items.{entry_at, item_of, work_of}
use Rattle.weigh.specs.Sounds.{Sound}
use Rattle.weigh.proofs.Begun.{begins_item, entry-is, entry_item, item-fits}
use Rattle.weigh.proofs.Held.{few-of, its, room-kept}
use Rattle.weigh.proofs.Inward.{back_in}
use Rattle.weigh.proofs.Judged.{first-right, first-wrong, works-end, works-on}
use Rattle.weigh.proofs.Lately.{adds, adds-is, entry-long}
use Rattle.mend.specs.Lists.{Blank, Kept}
use Rattle.mend.specs.declared.lists.Lists.{Lists}
use Rattle.mend.proofs.Lent.{kept-trans}
use Rattle.desk.specs.Changes.{Became}

-- ---- one item

an-add : (w : Work) → adds w ≡ true → w ≡ adding (entry_of_work w)
an-add (adding e) q = refl
an-add (striking e) q = let z : ◌≡◌ {A = ℕ} 0 1 = cc in absurd (omega arith)

a-strike : (w : Work) → adds w ≡ false → w ≡ striking (entry_of_work w)
a-strike (adding e) q = let z : ◌≡◌ {A = ℕ} 0 1 = cc in absurd (omega arith)
a-strike (striking e) q = refl

module _ (h : Head) (ks : List ℤ) (ls : List ℕ) (p : Sound h ks ls) (xs : List ℤ) (i : ℕ) (f : i * (h.k + 1) + (h.k + 1) ≤ length xs) (e : Four) (es : e ≡ outward (drop 1 (item_of h.k xs i))) where
  abbrev b : Book
  b = book_of h ks ls

  abbrev w : Work
  w = work_of h.k xs i

  enters : entry_of_work w ≡ inward h.k e
  enters = entry-is h.k xs i ∙ sym (back_in h.k (entry_at h.k xs i) e (entry-long h.k xs i f) (es ∙ ap outward (entry_item h.k i xs)))

  module _ (g : wrong_with h.c w b ≡ none) (a : Bool) (an : a ≡ begins 1 (item_of h.k xs i)) where
    adds-here : adds w ≡ a
    adds-here = adds-is h.k (drop (i * (h.k + 1)) xs) ∙ sym (begins_item 1 h.k i xs) ∙ sym an

    module _ (t : a ≡ true) where
      adds-this : w ≡ adding (inward h.k e)
      adds-this = an-add w (adds-here ∙ t) ∙ ap adding enters

      right-add : wrong_with h.c (adding (inward h.k e)) b ≡ none
      right-add = subst (λ (x : Work). wrong_with h.c x b ≡ none) adds-this g

      pub add-new : has (inward h.k e) (listing b.tree) ≡ false
      add-new = (gate-none (wrong_rows h.c (adding (inward h.k e)) b) right-add).0

      pub add-room : h.n < h.c
      add-room =
          let d : ¬ (size b.tree ≡ h.c) = eqb-false (size b.tree) h.c (gate-none (wrong_rows h.c (adding (inward h.k e)) b) right-add).1.0 in
          let m = (its h ks ls p).count in
          let l = few-of h ks ls p.good in
          omega (arith, d)

      pub work-added : (ks' : List ℤ) (ls' : List ℕ) (r : Head) → Became h ks' ls' (added (inward h.k e) b) r → Became h ks' ls' (worked w b) r
      work-added ks' ls' r y = subst (λ (x : Work). Became h ks' ls' (worked x b) r) (sym adds-this) y

    module _ (t : a ≡ false) where
      strikes-this : w ≡ striking (inward h.k e)
      strikes-this = a-strike w (adds-here ∙ t) ∙ ap striking enters

      pub strike-there : has (inward h.k e) (listing b.tree) ≡ true
      strike-there = not-false (has (inward h.k e) (listing b.tree)) (gate-none (wrong_rows h.c (striking (inward h.k e)) b) (subst (λ (x : Work). wrong_with h.c x b ≡ none) strikes-this g)).0

      pub work-struck : (ks' : List ℤ) (ls' : List ℕ) (r : Head) → Became h ks' ls' (struck (inward h.k e) b) r → Became h ks' ls' (worked w b) r
      work-struck ks' ls' r y = subst (λ (x : Work). Became h ks' ls' (worked x b) r) (sym strikes-this) y

-- ---- all items

first-only : (C p : ℕ) (w : Work) (ws : List Work) (b : Book) → first_wrong_item C p (w ∷ ws) b ≡ none → wrong_with C w b ≡ none
first-only C p w ws b q = go (wrong_with C w b) refl
  where
    go : (o : Option Refusal) → wrong_with C w b ≡ o → wrong_with C w b ≡ none
    go none e = e
    go (some r) e = let s : ◌≡◌ {A = Option (ℕ × Refusal)} (some (p, r)) none = sym (first-wrong C p w ws b r e) ∙ q in let z : ◌≡◌ {A = ℕ} 0 1 = cc in absurd (omega arith)

pub record Working (h : Head) (ks : List ℤ) (ls : List ℕ) (xs : List ℤ) (ks' : List ℤ) (ls' : List ℕ) (lt₀ lt : Lists) (after : Head) (i : ℕ) : Type 0 where
  pub low : i ≤ length xs / (h.k + 1)
  pub became : Became h ks' ls' (book_of after ks' ls') after
  pub goal : worked_all (drop i (works h.k xs)) (book_of after ks' ls') ≡ worked_all (works h.k xs) (book_of h ks ls)
  pub right : first_wrong_item h.c (i + 1) (drop i (works h.k xs)) (book_of after ks' ls') ≡ none
  pub lent : Kept h.c lt₀ lt
  pub wide : length ks' ≡ length ks
  pub long : length ls' ≡ length ls

module _ (h : Head) (ks : List ℤ) (ls : List ℕ) (p : Sound h ks ls) (xs : List ℤ) where
  pub works-first : (lt : Lists) → first_wrong_item h.c 1 (works h.k xs) (book_of h ks ls) ≡ none → Blank h.c lt → Working h ks ls xs ks ls lt lt h 0
  works-first lt g z = record { low = omega arith; became = record { is = its h ks ls p; k = refl; c = refl }; goal = refl; right = g; lent = record { blank = z; scratch = refl; spare = refl }; wide = refl; long = refl }

  module _ (ks' : List ℤ) (ls' : List ℕ) (lt₀ lt : Lists) (after : Head) (i : ℕ) (v : Working h ks ls xs ks' ls' lt₀ lt after i) where
    abbrev now : Book
    now = book_of after ks' ls'

    pub works-done : length xs / (h.k + 1) ≤ i → Became h ks' ls' (worked_all (works h.k xs) (book_of h ks ls)) after
    works-done l = subst (λ (x : Book). Became h ks' ls' x after) (ap (λ ws. worked_all ws now) (sym (works-end h.k xs i l)) ∙ v.goal) v.became

    module _ (l : i < length xs / (h.k + 1)) where
      abbrev others : List Work
      others = drop (i + 1) (works h.k xs)

      same-work : work_of after.k xs i ≡ work_of h.k xs i
      same-work = ap (λ k. work_of k xs i) v.became.k

      right-here : wrong_with h.c (work_of h.k xs i) now ≡ none
      right-here = first-only h.c (i + 1) (work_of h.k xs i) others now (ap (λ ws. first_wrong_item h.c (i + 1) ws now) (sym (works-on h.k xs i l)) ∙ v.right)

      pub works-sound : Sound after ks' ls'
      works-sound = record { room = subst (λ (x : Shape). Room x (length ks') (length ls')) (λ j. record { k = sym v.became.k j; c = sym v.became.c j }) (room-kept h (length ks) (length ls) (length ks') (length ls') p.room v.wide v.long); good = (is-sound after ks' ls' now v.became.is).0 }

      pub works-fit : i * (after.k + 1) + (after.k + 1) ≤ length xs
      works-fit = subst (λ k. i * (k + 1) + (k + 1) ≤ length xs) (sym v.became.k) (item-fits h.k (length xs) i l)

      pub works-right : wrong_with after.c (work_of after.k xs i) now ≡ none
      works-right = ap (λ c. wrong_with c (work_of after.k xs i) now) v.became.c ∙ ap (λ x. wrong_with h.c x now) same-work ∙ right-here

      pub works-next : (ks'' : List ℤ) (ls'' : List ℕ) (lt'' : Lists) (r : Head) → Became after ks'' ls'' (worked (work_of after.k xs i) now) r → Kept after.c lt lt'' → length ks'' ≡ length ks' → length ls'' ≡ length ls' → Working h ks ls xs ks'' ls'' lt₀ lt'' r (i + 1)
      works-next ks'' ls'' lt'' r y z wk wl =
          let w : Work = work_of h.k xs i in
          let m : book_of r ks'' ls'' ≡ worked (work_of after.k xs i) now = (is-sound r ks'' ls'' (worked (work_of after.k xs i) now) y.is).1 in
          let q : book_of r ks'' ls'' ≡ worked w now = m ∙ ap (λ x. worked x now) same-work in
          record {
            low = omega arith;
            became = record { is = subst (λ (x : Book). Is r ks'' ls'' x) (sym m) y.is; k = y.k ∙ v.became.k; c = y.c ∙ v.became.c };
            goal = ap (worked_all others) q ∙ ap (λ ws. worked_all ws now) (sym (works-on h.k xs i l)) ∙ v.goal;
            right = ap (first_wrong_item h.c (i + 1 + 1) others) q ∙ ap (λ j. first_wrong_item h.c j others (worked w now)) (add-one (i + 1)) ∙ sym (first-right h.c (i + 1) w others now right-here) ∙ ap (λ ws. first_wrong_item h.c (i + 1) ws now) (sym (works-on h.k xs i l)) ∙ v.right;
            lent = kept-trans v.lent (subst (λ c. Kept c lt lt'') v.became.c z);
            wide = wk ∙ v.wide;
            long = wl ∙ v.long;
          }
