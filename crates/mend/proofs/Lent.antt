-- The lent lists over two calls.
use mathlib.Core.Path.{◌∙◌}
use Prim.Native.Nat.{ℕ}
use Rattle.mend.specs.Lists.{Kept}
use Rattle.mend.specs.declared.lists.Lists.{Lists}

pub kept-trans : {C : ℕ} {a b c : Lists} → Kept C a b → Kept C b c → Kept C a c
kept-trans p q = record { blank = q.blank; scratch = q.scratch ∙ p.scratch; spare = q.spare ∙ p.spare }
