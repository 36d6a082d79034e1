-- An entry on its way out and in again.
use mathlib.Core.Path.{◌≡◌, refl, sym, ap, ◌∙◌}
use mathlib.Core.List.{List, [], ◌∷◌, ◌++◌}
use Prim.Native.Nat.{ℕ, ◌-◌}
use lib.ListN.{length, take, replicate}
use lib.IntN.{ℤ, pos}
use Rattle.model.specs.Answer.{inward, outward}
use Rattle.model.specs.Entry.{Entry}
use Rattle.model.specs.declared.Entry.{Entry as Four}

pub back_in : (K : ℕ) (e : Entry) (x : Four) → length e ≡ K → x ≡ outward e → inward K x ≡ e
back_in K e x n q = ap (inward K) q ∙ ap (λ m. take m (e ++ replicate (4 - length e) (pos 0))) (sym n) ∙ go e (replicate (4 - length e) (pos 0))
  where
    go : (a b : List ℤ) → take (length a) (a ++ b) ≡ a
    go [] b = refl
    go (x ∷ a) b = ap (λ z. x ∷ z) (go a b)
