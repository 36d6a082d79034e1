-- A tray as it is called: refused with nothing changed, the place with an item's refusal alone; else every item is worked, and scratch is 0.
use mathlib.Core.Path.{◌≡◌, refl, sym, ap, ◌∙◌}
use mathlib.Core.Option.{Option, none, some}
use mathlib.Core.List.{List}
use Prim.Native.Nat.{ℕ}
use native.Mathlib.Omega.{arith}
use lib.ListN.{length, replicate}
use lib.IntN.{ℤ}
use Rattle.model.specs.Answer.{gate, plain, refused, refused_at}
use Rattle.model.specs.Laws.{first_wrong_item, worked_all}
use Rattle.model.specs.Pool.{book_of}
use Rattle.model.specs.Tray.{tray, works}
use Rattle.model.specs.declared.Answer.{Answer}
use Rattle.model.specs.declared.Head.{Head}
use Rattle.model.specs.declared.Outcome.TheVariants.{Done}
use Rattle.model.specs.declared.Refusal.{Refusal}
use Rattle.model.proofs.Trays.{tray-books}
use Rattle.desk.specs.Changes.{Became}
use Rattle.weigh.specs.Judging.{first_of}
use Rattle.std.specs.declared.option.Option.{Option as Maybe}
use Rattle.std.specs.declared.option.Option.TheVariants.{Some, None}
use Rattle.std.specs.Prelude.{Ok, Err}
use Rattle.reply.specs.Gates.{Gate, told, handed}
use Rattle.reply.proofs.Gates.{told-open, told-shut}
use Rattle.book.proofs.Written.{Leaves, leaves_kept, leaves-done}

first_some : (o : Option (ℕ × Refusal)) (p : ℕ) (r : Refusal) → Some (p, r) ≡ first_of o → o ≡ some (p, r)
first_some none p r e = let z : ◌≡◌ {A = ℕ} 0 1 = cc in absurd (omega arith)
first_some (some w) p r e = let a : (p, r) ≡ w = cc in ap some (sym a)

first-none : (o : Option (ℕ × Refusal)) → None ≡ first_of o → o ≡ none
first-none none e = refl
first-none (some w) e = let z : ◌≡◌ {A = ℕ} 0 1 = cc in absurd (omega arith)

-- ---- behind the gate

module _ (h : Head) (ks : List ℤ) (ls sc : List ℕ) (xs : List ℤ) (g : Gate) (is : g ≡ told (gate (handed h ks ls (length sc) xs))) where
  pub tray-shut : (r : Refusal) → g ≡ Err r → (x : Answer) → x ≡ refused h 0 r → Leaves (tray h ks ls sc xs) x ks ls sc
  tray-shut r q x f = leaves_kept (tray h ks ls sc xs) (refused h 0 r) ks ls sc x ((tray-books h ks ls sc xs).shut r (told-shut (gate (handed h ks ls (length sc) xs)) r (sym is ∙ q))) f

  module _ (o : g ≡ Ok tt) where
    opened : gate (handed h ks ls (length sc) xs) ≡ none
    opened = told-open (gate (handed h ks ls (length sc) xs)) (sym is ∙ o)

    module _ (w : Maybe (ℕ × Refusal)) (ws : w ≡ first_of (first_wrong_item h.c 1 (works h.k xs) (book_of h ks ls))) where
      pub tray-wrong : (p : ℕ) (r : Refusal) → w ≡ Some (p, r) → (x : Answer) → x ≡ refused_at h p r → Leaves (tray h ks ls sc xs) x ks ls sc
      tray-wrong p r q x f = leaves_kept (tray h ks ls sc xs) (refused_at h p r) ks ls sc x ((tray-books h ks ls sc xs).wrong p r opened (first_some (first_wrong_item h.c 1 (works h.k xs) (book_of h ks ls)) p r (sym q ∙ ws))) f

      module _ (q : w ≡ None) where
        pub tray-right : first_wrong_item h.c 1 (works h.k xs) (book_of h ks ls) ≡ none
        tray-right = first-none (first_wrong_item h.c 1 (works h.k xs) (book_of h ks ls)) (sym q ∙ ws)

        pub tray-done : (r : Head) (ks' : List ℤ) (ls' sc' : List ℕ) (x : Answer) → x ≡ plain Done r → sc' ≡ replicate h.c 0 → Became h ks' ls' (worked_all (works h.k xs) (book_of h ks ls)) r → Leaves (tray h ks ls sc xs) x ks' ls' sc'
        tray-done r ks' ls' sc' x f s y = leaves-done (tray h ks ls sc xs) h r (worked_all (works h.k xs) (book_of h ks ls)) ks' ls' sc' x ((tray-books h ks ls sc xs).right opened tray-right) y f s
