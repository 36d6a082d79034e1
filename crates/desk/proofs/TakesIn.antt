-- The lines of a saved book, one after the other, put in where not yet there.
use mathlib.Core.Path.{◌≡◌, refl, sym, ap, subst, ◌∙◌}
use mathlib.Core.Bool.{Bool, true, false}
use mathlib.Core.List.{List, [], ◌∷◌}
use mathlib.Core.Option.{none}
use Prim.Native.Nat.{ℕ, ◌+◌, ◌≤◌, ◌<◌}
use native.Mathlib.Omega.{arith}
use lib.ListN.{length, get_or, drop}
use lib.IntN.{ℤ}
use Rattle.model.specs.Answer.{inward}
use Rattle.model.specs.Ask.{has, new_of}
use Rattle.model.specs.Book.{Book, added}
use Rattle.model.specs.Calls.{added_all, entries_in}
use Rattle.model.specs.Entry.{Entry}
use Rattle.model.specs.Laws.{added_each}
use Rattle.model.specs.Pool.{book_of}
use Rattle.model.specs.Rebuild.{listing}
use Rattle.model.specs.Text.{parse}
use Rattle.model.specs.Tree.{size}
use Rattle.model.specs.declared.Head.{Head}
use Rattle.model.specs.declared.Shape.{Shape}
use Rattle.model.proofs.Backs.{is-sound}
use Rattle.model.proofs.Books.{Valid}
use Rattle.model.proofs.Linewise.{each_first, each_fits, each-not, each-room, each_same, each-there}
use Rattle.model.proofs.Sounds.{Is}
use Rattle.model.proofs.Texts.{Taken, rise-once}
use Rattle.cells.specs.Slots.{Room}
use Rattle.text.specs.Told.{ReadBack, Stands}
use denote.Bor.{Bor}
use Rattle.model.specs.declared.Entry.{Entry as Four}
use Rattle.weigh.specs.Saved.{Saves}
use Rattle.weigh.specs.Sounds.{Sound}
use Rattle.weigh.proofs.Held.{its, room-kept}
use Rattle.weigh.proofs.Saved.{Reading, lines-gone, lines-on, once-at, read-in, reads_on, sized-at, taken}
use Rattle.mend.specs.Lists.{Blank, Kept}
use Rattle.mend.specs.declared.lists.Lists.{Lists}
use Rattle.mend.proofs.Lent.{kept-trans}
use Rattle.desk.specs.Changes.{Became}

module _ (h : Head) (ks : List ℤ) (ls : List ℕ) (e : Entry) (z : Bool) (zs : z ≡ has e (listing (book_of h ks ls).tree)) where
  abbrev b : Book
  b = book_of h ks ls

  pub stays : Sound h ks ls → z ≡ true → Became h ks ls (added_each (e ∷ []) b) h
  stays p t = rw (each-there e [] b (sym zs ∙ t)) (record { is = its h ks ls p; k = refl; c = refl })

  pub not_yet : z ≡ false → has e (listing b.tree) ≡ false
  not_yet t = sym zs ∙ t

  pub comes : z ≡ false → (ks' : List ℤ) (ls' : List ℕ) (r : Head) → Became h ks' ls' (added e b) r → Became h ks' ls' (added_each (e ∷ []) b) r
  comes t ks' ls' r w = rw (each-not e [] b (not_yet t)) w

pub record Putting (h : Head) (ks : List ℤ) (ls : List ℕ) (text : List ℕ) (n : ℕ) (ks' : List ℤ) (ls' : List ℕ) (lt₀ lt : Lists) (after : Head) (left : List ℕ) (i : ℕ) : Type 0 where
  pub reading : Reading text n left i
  pub became : Became h ks' ls' (book_of after ks' ls') after
  pub goal : added_each (drop i (entries_in (parse text))) (book_of after ks' ls') ≡ added_each (entries_in (parse text)) (book_of h ks ls)
  pub fits : size (book_of after ks' ls').tree + length (new_of (listing (book_of after ks' ls').tree) (drop i (entries_in (parse text)))) ≤ h.c
  pub lent : Kept h.c lt₀ lt
  pub wide : length ks' ≡ length ks
  pub long : length ls' ≡ length ls

module _ (h : Head) (ks : List ℤ) (ls : List ℕ) (p : Sound h ks ls) (text : List ℕ) (n : ℕ) (s : Saves text h.k n) where
  abbrev ts : List Entry
  ts = entries_in (parse text)

  abbrev new : List Entry
  new = new_of (listing (book_of h ks ls).tree) ts

  module _ (room : h.n + length new ≤ h.c) where
    fits-first : size (book_of h ks ls).tree + length new ≤ h.c
    fits-first = let a = (its h ks ls p).count in omega arith

    pub puts_first : (lt : Lists) (left : List ℕ) → Blank h.c lt → Reading text n left 0 → Putting h ks ls text n ks ls lt lt h left 0
    puts_first lt left z v = record { reading = v; became = record { is = its h ks ls p; k = refl; c = refl }; goal = refl; fits = fits-first; lent = record { blank = z; scratch = refl; spare = refl }; wide = refl; long = refl }

    pub puts-end : (ks' : List ℤ) (ls' : List ℕ) (lt₀ lt : Lists) (after : Head) (left : List ℕ) (i : ℕ) → Putting h ks ls text n ks' ls' lt₀ lt after left i → n ≤ i → Became h ks' ls' (added_all new (book_of h ks ls)) after
    puts-end ks' ls' lt₀ lt after left i v l =
        let a : added_each ts (book_of h ks ls) ≡ added_all new (book_of h ks ls) = sym (each_same h.k h.c ts (book_of h ks ls) (its h ks ls p).valid t.writable.sized (rise-once none ts t.writable.rising) fits-first) in
        let g : book_of after ks' ls' ≡ added_each ts (book_of h ks ls) = ap (λ (x : List Entry). added_each x (book_of after ks' ls')) (sym (lines-gone text h.k n s i l)) ∙ v.goal in
        subst (λ (b : Book). Became h ks' ls' b after) (g ∙ a) v.became
      where
        t : Taken text h.k ts
        t = taken text h.k n s

  module _ (ks' : List ℤ) (ls' : List ℕ) (lt₀ lt : Lists) (after : Head) (left : List ℕ) (i : ℕ) (v : Putting h ks ls text n ks' ls' lt₀ lt after left i) (l : i < n) where
    abbrev now : Book
    now = book_of after ks' ls'

    abbrev e : Entry
    e = get_or ts i []

    pub sound-on : Sound after ks' ls'
    sound-on = record { room = subst (λ (x : Shape). Room x (length ks') (length ls')) (λ j. record { k = sym v.became.k j; c = sym v.became.c j }) (room-kept h (length ks) (length ls) (length ks') (length ls') p.room v.wide v.long); good = (is-sound after ks' ls' now v.became.is).0 }

    fits_on : size now.tree + length (new_of (listing now.tree) (e ∷ drop (i + 1) ts)) ≤ h.c
    fits_on = subst (λ (x : List Entry). size now.tree + length (new_of (listing now.tree) x) ≤ h.c) (lines-on text h.k n s left i v.reading l) v.fits

    valid-on : Valid h.k h.c now
    valid-on = subst (λ c. Valid h.k c now) v.became.c (subst (λ k. Valid k after.c now) v.became.k v.became.is.valid)

    module _ (r : Four × Bor (List ℕ)) (f : (x : Entry) (rest : List ℕ) → Stands left h.k x rest → ReadBack r x rest) where
      its-entry : inward after.k r.0 ≡ e
      its-entry = ap (λ k. inward k r.0) v.became.k ∙ read-in text h.k n s left i v.reading l r f

      pub room-on : has (inward after.k r.0) (listing now.tree) ≡ false → after.n < after.c
      room-on q = let a = each-room h.c e (drop (i + 1) ts) now fits_on (ap (λ x. has x (listing now.tree)) (sym its-entry) ∙ q) in let d = v.became.is.count in let m = v.became.c in omega arith

      pub puts-on : (ks'' : List ℤ) (ls'' : List ℕ) (lt'' : Lists) (r'' : Head) → Became after ks'' ls'' (added_each (inward after.k r.0 ∷ []) now) r'' → Kept after.c lt lt'' → length ks'' ≡ length ks' → length ls'' ≡ length ls' → Putting h ks ls text n ks'' ls'' lt₀ lt'' r'' r.1.now (i + 1)
      puts-on ks'' ls'' lt'' r'' w z wk wl =
          let q : book_of r'' ks'' ls'' ≡ added_each (e ∷ []) now = (is-sound r'' ks'' ls'' (added_each (inward after.k r.0 ∷ []) now) w.is).1 ∙ ap (λ x. added_each (x ∷ []) now) its-entry in
          let m = (each_fits h.k h.c e (drop (i + 1) ts) now valid-on (sized-at text h.k n s left i v.reading l) (once-at text h.k n s left i v.reading l) fits_on).1 in
          record {
            reading = reads_on text h.k n s left i v.reading l r f;
            became = record { is = subst (λ (x : Book). Is r'' ks'' ls'' x) (sym (is-sound r'' ks'' ls'' (added_each (inward after.k r.0 ∷ []) now) w.is).1) w.is; k = w.k ∙ v.became.k; c = w.c ∙ v.became.c };
            goal = ap (added_each (drop (i + 1) ts)) q ∙ sym (each_first e (drop (i + 1) ts) now) ∙ ap (λ (x : List Entry). added_each x now) (sym (lines-on text h.k n s left i v.reading l)) ∙ v.goal;
            fits = subst (λ (x : Book). size x.tree + length (new_of (listing x.tree) (drop (i + 1) ts)) ≤ h.c) (sym q) m;
            lent = kept-trans v.lent (subst (λ c. Kept c lt lt'') v.became.c z);
            wide = wk ∙ v.wide;
            long = wl ∙ v.long;
          }
