-- Taking in as it is called: refused with nothing changed, the line with 9 alone; else what is new is added, and scratch is 0.
use mathlib.Core.Path.{◌≡◌, refl, sym, ap, subst, ◌∙◌}
use mathlib.Core.Bool.{Bool, true, false, not}
use mathlib.Core.Option.{some}
use mathlib.Core.List.{List, [], ◌∷◌, ◌++◌}
use Prim.Native.Nat.{ℕ, ◌+◌}
use native.Mathlib.Omega.{arith}
use lib.Dec.{eqb, ltb}
use lib.ListN.{length, replicate}
use lib.IntN.{ℤ}
use borrow.Author.Tests.{eq-eqb, ne_eqb}
use Rattle.model.specs.Answer.{Row, gate, line_in, plain, refused, outward}
use Rattle.model.specs.Ask.{new_of}
use Rattle.model.specs.Book.{Book}
use Rattle.model.specs.Calls.{take_in, added_all, broken_at, is_broken, fields_of_parsed, entries_in}
use Rattle.model.specs.Entry.{Entry}
use Rattle.model.specs.Gate.{leaving, writing, rows4s}
use Rattle.model.specs.Pool.{book_of}
use Rattle.model.specs.Rebuild.{listing}
use Rattle.model.specs.Text.{Parsed, broken, saved, parse}
use Rattle.model.specs.declared.Head.{Head}
use Rattle.model.specs.declared.Refusal.{Refusal}
use Rattle.model.specs.declared.Refusal.TheVariants.{Full, Text, Mismatch}
use Rattle.model.specs.declared.Outcome.TheVariants.{Done, Refused}
use Rattle.model.specs.declared.Answer.{Answer}
use Rattle.model.proofs.Gates.{gate-on, gate-off, checked-shut, checked-open}
use Rattle.model.proofs.Lists.{Every}
use Rattle.text.specs.Told.{summed}
use Rattle.std.proofs.Common.{Result, Ok, Err}
use Rattle.text.specs.declared.Broken.{Broken}
use Rattle.text.specs.declared.title.Title.{Title}
use Rattle.desk.specs.Changes.{Became}
use Rattle.reply.specs.Gates.{Gate, told, pooled}
use Rattle.reply.proofs.Pools.{behind-shut, pool-refuses}
use Rattle.book.proofs.Written.{Leaves, leaves-shut, leaves-done, rows-past}

-- a refusal that a table gives is one of its rows'
row_of : (P : Refusal → Type 0) (rows : List Row) (r : Refusal) → Every (λ (c : Row). P c.1) rows → gate rows ≡ some r → P r
row_of P [] r h e = let z : ◌≡◌ {A = ℕ} 0 1 = cc in absurd (omega arith)
row_of P ((c, q) ∷ rows) r (h, hs) e = go c e (row_of P rows r hs)
  where
    go : (o : Bool) → gate ((o, q) ∷ rows) ≡ some r → (gate rows ≡ some r → P r) → P r
    go true w f = let m : q ≡ r = cc in subst P m h
    go false w f = f w

-- what a verdict says of its text
text-broken : (p : Parsed) (l : Broken) → Err l ≡ summed p → (is_broken p ≡ true) × (broken_at p ≡ l.line)
text-broken (broken m) l e = let q : l ≡ record { line = m } = cc in (refl, sym (ap (λ (x : Broken). x.line) q))
text-broken (saved K es) l e = cc

text-whole : (p : Parsed) (t : Title) → Ok t ≡ summed p → (is_broken p ≡ false) × ((fields_of_parsed p ≡ t.fields) × ((p ≡ saved t.fields (entries_in p)) × (length (entries_in p) ≡ t.entries)))
text-whole (broken m) t e = cc
text-whole (saved K es) t e =
    let q : record { fields = K; entries = length es } ≡ t = cc in
    let a = ap (λ (x : Title). x.fields) q in
    (refl, (a, (ap (λ x. saved x es) a, ap (λ (x : Title). x.entries) q)))

module _ (h : Head) (ks : List ℤ) (ls sc text : List ℕ) (g : Gate) (is : g ≡ told (gate (pooled h ks ls (length sc)))) where
  abbrev p : Parsed
  p = parse text

  abbrev b : Book
  b = book_of h ks ls

  abbrev new : List Entry
  new = new_of (listing b.tree) (entries_in p)

  abbrev full_row : List Row
  full_row = (ltb h.c (h.n + length new), Full) ∷ []

  abbrev rows : List Row
  rows = (is_broken p, Text) ∷ (not (eqb (fields_of_parsed p) h.k), Mismatch) ∷ full_row

  take-refuses : (r : Refusal) → gate (rows4s h ks ls sc ++ rows) ≡ some r → (x : Answer) → x ≡ refused h (broken_at p) r → Leaves (take_in h ks ls sc text) x ks ls sc
  unfolding take_in
  take-refuses r q x f = leaves-shut (take_in h ks ls sc text) h (broken_at p) ks ls sc r x (checked-shut (rows4s h ks ls sc ++ rows) (λ r. leaving (refused h (broken_at p) r) ks ls sc) (writing h (added_all new b)) r q) f

  pub take-shut : (r : Refusal) → g ≡ Err r → (x : Answer) → x ≡ refused h 0 r → Leaves (take_in h ks ls sc text) x ks ls sc
  take-shut r q x f =
      let e = pool-refuses h ks ls (length sc) g is r q in
      let l : line_in r 0 ≡ line_in r (broken_at p) = row_of (λ y. line_in y 0 ≡ line_in y (broken_at p)) (rows4s h ks ls sc) r (refl, (refl, (refl, (refl, tt)))) e in
      take-refuses r (behind-shut (rows4s h ks ls sc) rows r e) x (f ∙ (λ i. record { outcome = Refused r; head = h; entry = outward []; slot = 0; reads = 0; distance = 0; count = 0; bytes = 0; line = l i; place = 0 }))

  module _ (o : g ≡ Ok tt) (t : Result Title Broken) (ts : t ≡ summed p) where
    pub take-broken : (l : Broken) → t ≡ Err l → (x : Answer) → x ≡ refused h l.line Text → Leaves (take_in h ks ls sc text) x ks ls sc
    take-broken l q x f =
        let w = text-broken p l (sym q ∙ ts) in
        take-refuses Text (rows-past h ks ls sc g is o rows ∙ gate-on (is_broken p) Text ((not (eqb (fields_of_parsed p) h.k), Mismatch) ∷ full_row) w.0) x (f ∙ ap (λ m. refused h m Text) (sym w.1))

    module _ (w : Title) (q : t ≡ Ok w) where
      abbrev k : ℕ
      k = w.fields

      abbrev n : ℕ
      n = w.entries

      whole : (is_broken p ≡ false) × ((fields_of_parsed p ≡ k) × ((p ≡ saved k (entries_in p)) × (length (entries_in p) ≡ n)))
      whole = text-whole p w (sym q ∙ ts)

      past-text : gate (rows4s h ks ls sc ++ rows) ≡ gate ((not (eqb (fields_of_parsed p) h.k), Mismatch) ∷ full_row)
      past-text = rows-past h ks ls sc g is o rows ∙ gate-off (is_broken p) Text ((not (eqb (fields_of_parsed p) h.k), Mismatch) ∷ full_row) whole.0

      pub take-mismatch : ¬ (k ≡ h.k) → (x : Answer) → x ≡ refused h 0 Mismatch → Leaves (take_in h ks ls sc text) x ks ls sc
      take-mismatch d x f = take-refuses Mismatch (past-text ∙ gate-on (not (eqb (fields_of_parsed p) h.k)) Mismatch full_row (ap not (ne_eqb (fields_of_parsed p) h.k (λ e. d (sym whole.1.0 ∙ e))))) x f

      module _ (same : k ≡ h.k) where
        past-fields : gate (rows4s h ks ls sc ++ rows) ≡ gate full_row
        past-fields = past-text ∙ gate-off (not (eqb (fields_of_parsed p) h.k)) Mismatch full_row (ap not (eq-eqb (fields_of_parsed p) h.k (whole.1.0 ∙ same)))

        module _ (z : Bool) (zs : z ≡ ltb h.c (h.n + length new)) where
          pub take-full : z ≡ true → (x : Answer) → x ≡ refused h 0 Full → Leaves (take_in h ks ls sc text) x ks ls sc
          take-full t x f = take-refuses Full (past-fields ∙ gate-on (ltb h.c (h.n + length new)) Full [] (sym zs ∙ t)) x f

          pub take_done : z ≡ false → (r : Head) (ks' : List ℤ) (ls' sc' : List ℕ) (x : Answer) → x ≡ plain Done r → sc' ≡ replicate h.c 0 → Became h ks' ls' (added_all new b) r → Leaves (take_in h ks ls sc text) x ks' ls' sc'
          unfolding take_in
          take_done t r ks' ls' sc' x xs ss w = leaves-done (take_in h ks ls sc text) h r (added_all new b) ks' ls' sc' x (checked-open (rows4s h ks ls sc ++ rows) (λ r. leaving (refused h (broken_at p) r) ks ls sc) (writing h (added_all new b)) (past-fields ∙ gate-off (ltb h.c (h.n + length new)) Full [] (sym zs ∙ t))) w xs ss
