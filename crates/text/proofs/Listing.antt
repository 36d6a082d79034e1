-- Listing order: at depth 0 by the first field that differs.
use mathlib.Core.Path.{◌≡◌, refl, sym, ap, ap₂, ◌∙◌}
use mathlib.Core.List.{List, append-nil}
use Prim.Native.Nat.{ℕ, ◌%◌, Ordering}
use native.Mathlib.Nat.{zero-mod}
use lib.IntN.{ℤ}
use lib.ListN.{length, take}
use Rattle.model.specs.Entry.{Entry, cmp, cut_field, lex, super_key}
use Rattle.model.specs.Text.{rises}
use Rattle.model.specs.Tree.{is_less}
use Rattle.cells.specs.Orders.{named}
use Rattle.std.specs.Ordering.{is_lt}
use Rattle.std.specs.declared.cmp.Ordering.{Ordering as Order}
use Rattle.std.proofs.Common.{Option, Some}
use Rattle.text.specs.Told.{last_of}

key-first : (e : Entry) → super_key 0 e ≡ e
unfolding super_key cut_field
key-first e =
    let z : 0 % length e ≡ 0 = zero-mod (length e) in
    rw z (append-nil e)

cmp-first : (a b : Entry) → cmp 0 a b ≡ lex a b
unfolding cmp
cmp-first a b = ap₂ lex (key-first a) (key-first b)

less-named : (x : Ordering) → is_lt (named x) ≡ is_less x
less-named Ordering.lt = refl
less-named Ordering.eq = refl
less-named Ordering.gt = refl

-- an entry behind the last one
pub later-rises : (k : ℕ) (last : Option (List ℤ)) (f next : List ℤ) → last ≡ Some f → (o : Order) → o ≡ named (lex (take k f) (take k next)) → is_lt o ≡ rises (last_of k last) (take k next)
later-rises k last f next h o e =
    ap is_lt e
    ∙ less-named (lex (take k f) (take k next))
    ∙ ap is_less (sym (cmp-first (take k f) (take k next)))
    ∙ ap (λ l. rises (last_of k l) (take k next)) (sym h)
