-- The gate with the pool judged: what an open pool is.
use mathlib.Core.Path.{◌≡◌, refl, sym, ap, ◌∙◌}
use mathlib.Core.Option.{Option, none, some}
use Rattle.std.specs.Prelude.{Ok, Err}
use mathlib.Core.Bool.{Bool, true, false, not}
use mathlib.Core.List.{List, [], ◌∷◌, ◌++◌}
use Prim.Native.Nat.{ℕ}
use native.Mathlib.Omega.{arith}
use lib.ListN.{length}
use lib.IntN.{ℤ}
use borrow.Author.Tests.{not-false}
use Rattle.model.specs.Tree.{items, ordered}
use Rattle.model.specs.Pool.{book_of, sound}
use Rattle.model.specs.Answer.{Row, gate}
use Rattle.model.specs.Gate.{rows3, rows4}
use Rattle.model.specs.declared.Head.{Head}
use Rattle.model.specs.declared.Refusal.{Refusal}
use Rattle.model.specs.declared.Refusal.TheVariants.{Unsound}
use Rattle.model.proofs.Ranks.{Distinct}
use Rattle.model.proofs.Adds.{ordered-distinct}
use Rattle.model.proofs.Sounds.{Is}
use Rattle.cells.specs.Slots.{Room}
use Rattle.cells.specs.Memory.{Rep}
use Rattle.ask.specs.Standing.{Stands, Standing}
use Rattle.sound.specs.Parts.{shape_of}
use Rattle.reply.specs.Gates.{Gate, told, fitting, judged, pooled}
use Rattle.reply.proofs.Gates.{told-open, told-shut, no-scratch, room}
use Rattle.weigh.specs.Sounds.{Sound}
use Rattle.weigh.proofs.Held.{its, its-rep, its-stands, its-standing, ordered_of}

-- rows behind rows
pub behind-shut : (rows more : List Row) (r : Refusal) → gate rows ≡ some r → gate (rows ++ more) ≡ some r
behind-shut [] more r e = let z : ◌≡◌ {A = ℕ} 0 1 = cc in absurd (omega arith)
behind-shut ((c, q) ∷ rows) more r e = go c e (behind-shut rows more r)
  where
    go : (o : Bool) → gate ((o, q) ∷ rows) ≡ some r → (gate rows ≡ some r → gate (rows ++ more) ≡ some r) → gate ((o, q) ∷ (rows ++ more)) ≡ some r
    go true h f = h
    go false h f = f h

pub behind-open : (rows more : List Row) → gate rows ≡ none → gate (rows ++ more) ≡ gate more
behind-open [] more e = refl
behind-open ((c, q) ∷ rows) more e = go c e (behind-open rows more)
  where
    go : (o : Bool) → gate ((o, q) ∷ rows) ≡ none → (gate rows ≡ none → gate (rows ++ more) ≡ gate more) → gate ((o, q) ∷ (rows ++ more)) ≡ gate more
    go true h f = let z : ◌≡◌ {A = ℕ} 0 1 = cc in absurd (omega arith)
    go false h f = f h

pub rows-open : (rows more : List Row) → gate (rows ++ more) ≡ none → gate rows ≡ none
rows-open rows more q = go (gate rows) refl
  where
    go : (x : Option Refusal) → gate rows ≡ x → gate rows ≡ none
    go none e = e
    go (some r) e = let s : some r ≡ none = sym (behind-shut rows more r e) ∙ q in let z : ◌≡◌ {A = ℕ} 0 1 = cc in absurd (omega arith)

module _ (h : Head) (ks : List ℤ) (ls : List ℕ) (ns : ℕ) where
  abbrev front : List Row
  front = rows3 h.k h.c (fitting h.k h.c (length ks) (length ls) ns)

  -- an open pool
  module _ (g : Gate) (is : g ≡ told (gate (pooled h ks ls ns))) (o : g ≡ Ok tt) where
    pub all-open : gate (pooled h ks ls ns) ≡ none
    all-open = told-open (gate (pooled h ks ls ns)) (sym is ∙ o)

    pub front-open : gate front ≡ none
    front-open = rows-open front (judged h ks ls) all-open

    pub is-sound : sound h ks ls ≡ true
    is-sound = not-false (sound h ks ls) (go (not (sound h ks ls)) (sym (behind-open front (judged h ks ls) front-open) ∙ all-open))
      where
        go : (x : Bool) → gate ((x, Unsound) ∷ []) ≡ none → x ≡ false
        go true e = let z : ◌≡◌ {A = ℕ} 0 1 = cc in absurd (omega arith)
        go false e = refl

    pub pool-room : Room (shape_of h) (length ks) (length ls)
    pool-room = room h.k h.c (length ks) (length ls) ns (Ok tt) (sym (ap told front-open)) refl

    pub pool-held : Sound h ks ls
    pool-held = record { room = pool-room; good = is-sound }

    pub pool-is : Is h ks ls (book_of h ks ls)
    pool-is = its h ks ls pool-held

    pub pool-rep : Rep h.k ks ls h.root (book_of h ks ls).tree
    pool-rep = its-rep h ks ls pool-held

    pub pool-distinct : Distinct (items (book_of h ks ls).tree)
    pool-distinct = ordered-distinct 0 (book_of h ks ls).tree pool-is.valid.ordered

    pub pool-ordered : ordered 0 (book_of h ks ls).tree ≡ true
    pool-ordered = ordered_of h ks ls pool-is

    pub pool-stands : Stands h.k ks ls h.root 0 (book_of h ks ls).tree
    pool-stands = its-stands h ks ls pool-held

    pub pool-standing : Standing h.k ks ls h.root 0 h.c
    pool-standing = its-standing h ks ls pool-held

  pub pool-refuses : (g : Gate) → g ≡ told (gate (pooled h ks ls ns)) → (r : Refusal) → g ≡ Err r → gate (pooled h ks ls ns) ≡ some r
  pool-refuses g is r e = told-shut (gate (pooled h ks ls ns)) r (sym is ∙ e)

-- the same rows where no scratch is lent
pub no-scratch-rows : (h : Head) (ks : List ℤ) (ls : List ℕ) → pooled h ks ls h.c ≡ rows4 h ks ls
no-scratch-rows h ks ls = ap (λ b. rows3 h.k h.c b ++ judged h ks ls) (no-scratch h.k h.c ks ls)
