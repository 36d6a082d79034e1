-- Save as it is called: its refusals, and what the room then holds.
use mathlib.Core.Path.{◌≡◌, sym, ap, ◌∙◌}
use mathlib.Core.Option.{some}
use mathlib.Core.List.{List, [], ◌∷◌, ◌++◌}
use Prim.Native.Nat.{ℕ}
use lib.Dec.{ltb}
use lib.ListN.{length, drop}
use lib.IntN.{ℤ}
use borrow.Author.Tests.{lt-ltb, le-ltb}
use Rattle.model.specs.Answer.{Row, gate, refused, wrote}
use Rattle.model.specs.Tree.{Tree}
use Rattle.model.specs.Rebuild.{listing}
use Rattle.model.specs.Text.{text_of}
use Rattle.model.specs.Gate.{After, rows4}
use Rattle.model.specs.Calls.{save}
use Rattle.model.specs.Pool.{book_of}
use Rattle.model.specs.declared.Head.{Head}
use Rattle.model.specs.declared.Refusal.{Refusal}
use Rattle.model.specs.declared.Refusal.TheVariants.{Room}
use Rattle.model.specs.declared.Answer.{Answer}
use Rattle.model.proofs.Gates.{gate-on, gate-off, checked-shut, checked-open}
use Rattle.std.specs.Prelude.{Ok, Err}
use Rattle.reply.specs.Gates.{Gate, told, pooled}
use Rattle.sheet.specs.Saving.{Measured, PrintedWith}
use Rattle.std.specs.declared.option.Option.{Option}
use Rattle.std.specs.declared.option.Option.TheVariants.{Some, None}
use Rattle.book.proofs.Counts.{reads-shut, reads-open}
use Rattle.reply.proofs.Pools.{behind-shut, behind-open, pool-stands}

module _ (h : Head) (ks : List ℤ) (ls : List ℕ) (g : Gate) (is : g ≡ told (gate (pooled h ks ls h.c))) (room : List ℕ) where
  abbrev u : Tree
  u = (book_of h ks ls).tree

  abbrev text : List ℕ
  text = text_of h.k (listing u)

  abbrev last : List Row
  last = (ltb (length room) (length text), Room) ∷ []

  abbrev no : Refusal → After
  no r = record { answer = refused h 0 r; keys = ks; links = ls; scratch = []; room = []; page = room }

  abbrev yes : After
  yes = record { answer = wrote h (length text); keys = ks; links = ls; scratch = []; room = []; page = text ++ drop (length text) room }

  refuses : (r : Refusal) → gate (rows4 h ks ls ++ last) ≡ some r → (a : Answer) → a ≡ refused h 0 r → (a ≡ (save h ks ls room).answer) × (room ≡ (save h ks ls room).page)
  unfolding save
  refuses r e a q = let z = checked-shut (rows4 h ks ls ++ last) no yes r e in (q ∙ sym (ap (λ (x : After). x.answer) z), sym (ap (λ (x : After). x.page) z))

  pub save-shut : (r : Refusal) → g ≡ Err r → (a : Answer) → a ≡ refused h 0 r → (a ≡ (save h ks ls room).answer) × (room ≡ (save h ks ls room).page)
  save-shut r e = refuses r (behind-shut (rows4 h ks ls) last r (reads-shut h ks ls g is r e))

  module _ (o : g ≡ Ok tt) (room' : List ℕ) (p : Option ℕ) (w : PrintedWith h.k ks ls h.root room room' p) where
    measured : Measured text (length room) p
    measured = w.measured u (pool-stands h ks ls h.c g is o)

    pub save-short : p ≡ None → (a : Answer) → a ≡ refused h 0 Room → (a ≡ (save h ks ls room).answer) × (room' ≡ (save h ks ls room).page)
    save-short e a q =
        let z = refuses Room (behind-open (rows4 h ks ls) last (reads-open h ks ls g is o) ∙ gate-on (ltb (length room) (length text)) Room [] (lt-ltb (length room) (length text) (measured.short e))) a q in
        (z.0, w.kept e ∙ z.1)

    pub save-done : (n : ℕ) → p ≡ Some n → (a : Answer) → a ≡ wrote h n → (a ≡ (save h ks ls room).answer) × (room' ≡ (save h ks ls room).page)
    unfolding save
    save-done n e a q =
        let z = checked-open (rows4 h ks ls ++ last) no yes (behind-open (rows4 h ks ls) last (reads-open h ks ls g is o) ∙ gate-off (ltb (length room) (length text)) Room [] (le-ltb (length room) (length text) (measured.long n e))) in
        (q ∙ ap (wrote h) (measured.bytes n e) ∙ sym (ap (λ (x : After). x.answer) z), w.written n e u (pool-stands h ks ls h.c g is o) ∙ sym (ap (λ (x : After). x.page) z))
