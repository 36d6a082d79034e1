-- Each pair has three bytes and its number's print, and at most 24.
use mathlib.Core.Path.{◌≡◌, ap, ◌∙◌}
use Prim.Native.Nat.{◌≤◌, ◌<◌, ◌+◌, ◌^◌}
use native.Mathlib.Omega.{arith}
use borrow.Author.Rules.{rules}
use lib.IntN.{pos}
use lib.ListN.{length, get_or}
use lib.Signed.{mag}
use Rattle.model.specs.Text.{signed}
use Rattle.print.proofs.Rows as laws
use Rattle.model.proofs.Machine.{back}
use Rattle.print.proofs.Signs.{signed-short}
use Rattle.print.proofs.size.line_length.Goals as goal
use Rattle.print.proofs.size.line_length.Goals.{After-signed_length}

-- what was had for the number at hand is its print's length
printed : (c : After-signed_length) → let x = get_or c.args.part.now c.loop-x.x-index (pos 0) in (c.signed_length.result ≡ length (signed x)) × (length (signed x) ≤ 21)
printed c =
    let x = get_or c.args.part.now c.loop-x.x-index (pos 0) in
    let g : mag x < 2 ^ 63 = search rules in
    (c.signed_length.ensures ∙ ap (λ y. length (signed y)) (back x g), signed-short x g)

pub overflow_add-count : goal.overflow_add-count
overflow_add-count c = let p = printed c in omega arith

pub overflow_add-count-in-loop-x : goal.overflow_add-count-in-loop-x
overflow_add-count-in-loop-x c = let p = printed c in omega arith

pub loop-x-preserved : goal.loop-x-preserved
loop-x-preserved c =
    let part = c.args.part.now in
    let p = printed c in
    omega (arith, laws.row_on part c.loop-x.x-index (omega arith))

pub returns : goal.returns
returns c =
    let part = c.args.part.now in
    omega (arith, laws.row-end part c.loop-x.x-index (97 + c.loop-x.x-index) (omega arith), laws.row-size part (λ z. grind (arith, z)))
