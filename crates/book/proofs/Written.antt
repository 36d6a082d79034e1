-- Add and strike as they are called: each refusal leaves all as it was; else the pool is that of the new book and scratch is 0.
use mathlib.Core.Path.{◌≡◌, sym, ap, ◌∙◌}
use mathlib.Core.Bool.{Bool, true, false, not}
use mathlib.Core.Option.{some}
use mathlib.Core.List.{List, [], ◌∷◌, ◌++◌}
use Prim.Native.Nat.{ℕ, ◌≤◌, ◌<◌}
use native.Mathlib.Omega.{arith}
use lib.Dec.{eqb}
use lib.ListN.{length, replicate}
use lib.IntN.{ℤ}
use borrow.Author.Tests.{eq-eqb, ne_eqb}
use Rattle.model.specs.Answer.{Row, gate, inward, plain, refused}
use Rattle.model.specs.Ask.{has}
use Rattle.model.specs.Book.{Book, added, struck, head_of, keys, links}
use Rattle.model.specs.Calls.{add, strike_out}
use Rattle.model.specs.Gate.{After, leaving, writing, rows4s}
use Rattle.model.specs.Pool.{book_of}
use Rattle.model.specs.Rebuild.{listing}
use Rattle.model.specs.declared.Head.{Head}
use Rattle.model.specs.declared.Entry.{Entry as Four}
use Rattle.model.specs.declared.Refusal.{Refusal}
use Rattle.model.specs.declared.Refusal.TheVariants.{Present, Missing, Full}
use Rattle.model.specs.declared.Outcome.TheVariants.{Done}
use Rattle.model.specs.declared.Answer.{Answer}
use Rattle.model.proofs.Backs.{is-head}
use Rattle.model.proofs.Gates.{gate-on, gate-off, checked-shut, checked-open}
use Rattle.weigh.specs.Sounds.{Sound}
use Rattle.desk.specs.Changes.{Became}
use Rattle.std.specs.Prelude.{Ok, Err}
use Rattle.reply.specs.Gates.{Gate, told, pooled}
use Rattle.reply.proofs.Gates.{scratch-fits}
use Rattle.reply.proofs.Pools.{behind-shut, behind-open, all-open, pool-refuses, pool-held, front-open}

-- an answer and what is left in the three lent lists
abbrev pub Leaves : After → Answer → List ℤ → List ℕ → List ℕ → Type 0
Leaves a r ks ls sc = (r ≡ a.answer) × ((ks ≡ a.keys) × ((ls ≡ a.links) × (sc ≡ a.scratch)))

pub leaves_kept : (a : After) (y : Answer) (ks : List ℤ) (ls sc : List ℕ) (x : Answer) → a ≡ leaving y ks ls sc → x ≡ y → Leaves a x ks ls sc
leaves_kept a y ks ls sc x e f = (f ∙ sym (ap (λ (z : After). z.answer) e), (sym (ap (λ (z : After). z.keys) e), (sym (ap (λ (z : After). z.links) e), sym (ap (λ (z : After). z.scratch) e))))

pub leaves-shut : (a : After) (h : Head) (l : ℕ) (ks : List ℤ) (ls sc : List ℕ) (r : Refusal) (x : Answer) → a ≡ leaving (refused h l r) ks ls sc → x ≡ refused h l r → Leaves a x ks ls sc
leaves-shut a h l ks ls sc r x e f = leaves_kept a (refused h l r) ks ls sc x e f

pub leaves-done : (a : After) (h r : Head) (b : Book) (ks : List ℤ) (ls sc : List ℕ) (x : Answer) → a ≡ writing h b → Became h ks ls b r → x ≡ plain Done r → sc ≡ replicate h.c 0 → Leaves a x ks ls sc
leaves-done a h r b ks ls sc x e w f z =
    let m : head_of r.k r.c b ≡ head_of h.k h.c b = λ i. head_of (w.k i) (w.c i) b in
    let k : keys r.k r.c b ≡ keys h.k h.c b = λ i. keys (w.k i) (w.c i) b in
    let l : links r.k r.c b ≡ links h.k h.c b = λ i. links (w.k i) (w.c i) b in (
      f ∙ ap (plain Done) (is-head r ks ls b w.is ∙ m) ∙ sym (ap (λ (z : After). z.answer) e),
      (sym w.is.same_keys ∙ k ∙ sym (ap (λ (z : After). z.keys) e), (sym w.is.same_links ∙ l ∙ sym (ap (λ (z : After). z.links) e), z ∙ sym (ap (λ (z : After). z.scratch) e))),
    )

-- what an open gate tells
module _ (h : Head) (ks : List ℤ) (ls sc : List ℕ) (g : Gate) (is : g ≡ told (gate (pooled h ks ls (length sc)))) where
  pub sound-pool : g ≡ Ok tt → Sound h ks ls
  sound-pool o = pool-held h ks ls (length sc) g is o

  pub scratch-long : g ≡ Ok tt → length sc ≡ h.c
  scratch-long o = scratch-fits h.k h.c (length ks) (length ls) (length sc) (front-open h ks ls (length sc) g is o)

  pub rows-past : g ≡ Ok tt → (more : List Row) → gate (rows4s h ks ls sc ++ more) ≡ gate more
  rows-past o more = behind-open (rows4s h ks ls sc) more (all-open h ks ls (length sc) g is o)

module _ (h : Head) (ks : List ℤ) (ls sc : List ℕ) (e : Four) (g : Gate) (is : g ≡ told (gate (pooled h ks ls (length sc)))) where
  abbrev b : Book
  b = book_of h ks ls

  abbrev there : Bool
  there = has (inward h.k e) (listing b.tree)

  abbrev add_rows : List Row
  add_rows = (there, Present) ∷ (eqb h.n h.c, Full) ∷ []

  abbrev strike_rows : List Row
  strike_rows = (not there, Missing) ∷ []

  add-refuses : (r : Refusal) → gate (rows4s h ks ls sc ++ add_rows) ≡ some r → (x : Answer) → x ≡ refused h 0 r → Leaves (add h ks ls sc e) x ks ls sc
  unfolding add
  add-refuses r q x f = leaves-shut (add h ks ls sc e) h 0 ks ls sc r x (checked-shut (rows4s h ks ls sc ++ add_rows) (λ r. leaving (refused h 0 r) ks ls sc) (writing h (added (inward h.k e) b)) r q) f

  strike-refuses : (r : Refusal) → gate (rows4s h ks ls sc ++ strike_rows) ≡ some r → (x : Answer) → x ≡ refused h 0 r → Leaves (strike_out h ks ls sc e) x ks ls sc
  unfolding strike_out
  strike-refuses r q x f = leaves-shut (strike_out h ks ls sc e) h 0 ks ls sc r x (checked-shut (rows4s h ks ls sc ++ strike_rows) (λ r. leaving (refused h 0 r) ks ls sc) (writing h (struck (inward h.k e) b)) r q) f

  pub add-shut : (r : Refusal) → g ≡ Err r → (x : Answer) → x ≡ refused h 0 r → Leaves (add h ks ls sc e) x ks ls sc
  add-shut r q = add-refuses r (behind-shut (rows4s h ks ls sc) add_rows r (pool-refuses h ks ls (length sc) g is r q))

  pub strike-shut : (r : Refusal) → g ≡ Err r → (x : Answer) → x ≡ refused h 0 r → Leaves (strike_out h ks ls sc e) x ks ls sc
  strike-shut r q = strike-refuses r (behind-shut (rows4s h ks ls sc) strike_rows r (pool-refuses h ks ls (length sc) g is r q))

  module _ (o : g ≡ Ok tt) (z : Bool) (zs : z ≡ there) where
    past : (more : List Row) → gate (rows4s h ks ls sc ++ more) ≡ gate more
    past = rows-past h ks ls sc g is o

    pub add-present : z ≡ true → (x : Answer) → x ≡ refused h 0 Present → Leaves (add h ks ls sc e) x ks ls sc
    add-present t = add-refuses Present (past add_rows ∙ gate-on there Present ((eqb h.n h.c, Full) ∷ []) (sym zs ∙ t))

    pub add-full : z ≡ false → h.n ≡ h.c → (x : Answer) → x ≡ refused h 0 Full → Leaves (add h ks ls sc e) x ks ls sc
    add-full t n = add-refuses Full (past add_rows ∙ gate-off there Present ((eqb h.n h.c, Full) ∷ []) (sym zs ∙ t) ∙ gate-on (eqb h.n h.c) Full [] (eq-eqb h.n h.c n))

    pub strike-missing : z ≡ false → (x : Answer) → x ≡ refused h 0 Missing → Leaves (strike_out h ks ls sc e) x ks ls sc
    strike-missing t = strike-refuses Missing (past strike_rows ∙ gate-on (not there) Missing [] (ap not (sym zs ∙ t)))

    module _ (r : Head) (ks' : List ℤ) (ls' sc' : List ℕ) (x : Answer) (xs : x ≡ plain Done r) (ss : sc' ≡ replicate h.c 0) where
      pub add_done : z ≡ false → ¬ (h.n ≡ h.c) → Became h ks' ls' (added (inward h.k e) b) r → Leaves (add h ks ls sc e) x ks' ls' sc'
      unfolding add
      add_done t n w = leaves-done (add h ks ls sc e) h r (added (inward h.k e) b) ks' ls' sc' x (checked-open (rows4s h ks ls sc ++ add_rows) (λ r. leaving (refused h 0 r) ks ls sc) (writing h (added (inward h.k e) b)) (past add_rows ∙ gate-off there Present ((eqb h.n h.c, Full) ∷ []) (sym zs ∙ t) ∙ gate-off (eqb h.n h.c) Full [] (ne_eqb h.n h.c n))) w xs ss

      pub strike-done : z ≡ true → Became h ks' ls' (struck (inward h.k e) b) r → Leaves (strike_out h ks ls sc e) x ks' ls' sc'
      unfolding strike_out
      strike-done t w = leaves-done (strike_out h ks ls sc e) h r (struck (inward h.k e) b) ks' ls' sc' x (checked-open (rows4s h ks ls sc ++ strike_rows) (λ r. leaving (refused h 0 r) ks ls sc) (writing h (struck (inward h.k e) b)) (past strike_rows ∙ gate-off (not there) Missing [] (ap not (sym zs ∙ t)))) w xs ss

pub not_full : (n c : ℕ) → n ≤ c → ¬ (n ≡ c) → n < c
not_full n c l e = omega (arith, e)
