-- The pairs that are left, printed behind what is there, make the row.
use mathlib.Core.Path.{refl, ap}
use mathlib.Core.List.{[], ◌∷◌}
use Prim.Native.Nat.{◌≤◌, ◌<◌, ◌+◌, ◌^◌}
use native.Mathlib.Omega.{arith}
use borrow.Author.Rules.{rules}
use lib.IntN.{pos}
use lib.ListN.{length, get_or, length-append}
use lib.Signed.{mag}
use Rattle.model.specs.Text.{pairs}
use Rattle.print.specs.Line.{ended}
use Rattle.print.proofs.Places.{written_one}
use Rattle.print.proofs.Rows as laws
use Rattle.model.proofs.Machine.{back}
use Rattle.print.proofs.write.put_line.Goals as goal

pub returns-then-is_empty : goal.returns-then-is_empty
returns-then-is_empty c =
    let s = c.args in
    let e = laws.row-none s.part.now (grind arith) in
    rw e (written_one s.out.now s.at 10 (omega (arith, length-append (pairs 97 s.part.now) (10 ∷ []))), refl)

pub put_pair-to-requires : goal.put_pair-to-requires
put_pair-to-requires c =
    let s = c.args in
    let l = c.loop-i in
    let x = get_or s.part.now l.i (pos 0) in
    let g : mag x < 2 ^ 63 = search rules in
    let room : s.at + length (ended 97 s.part.now) ≤ length s.out.now = omega (arith, ap length (laws.line_row s.part.now (λ z. grind (arith, z)))) in
    laws.pair_fits s.out.now l.out s.part.now s.at l.to l.i _ _ (omega arith) l.invariant.kept room l.invariant.left l.invariant.row (back x g) c.end_byte.ensures

pub loop-i-preserved : goal.loop-i-preserved
loop-i-preserved c =
    let s = c.args in
    let l = c.loop-i in
    let x = get_or s.part.now l.i (pos 0) in
    let g : mag x < 2 ^ 63 = search rules in
    let room : s.at + length (ended 97 s.part.now) ≤ length s.out.now = omega (arith, ap length (laws.line_row s.part.now (λ z. grind (arith, z)))) in
    let e = c.put_pair-to.ensures in
    record {
      kept = omega (arith, c.put_pair-to.auto.out);
      left = laws.pair_left s.out.now l.out s.part.now s.at l.to l.i _ _ (omega arith) l.invariant.kept room l.invariant.left l.invariant.row (back x g) c.end_byte.ensures _ e.1;
      row = laws.pair-all s.out.now l.out s.part.now s.at l.to l.i _ _ (omega arith) l.invariant.kept room l.invariant.left l.invariant.row (back x g) c.end_byte.ensures _ _ e.0 e.1;
    }

pub returns : goal.returns
returns c =
    let s = c.args in
    let e = laws.line_row s.part.now (λ z. grind (arith, z)) in
    laws.row_done s.out.now c.loop-i.out s.part.now s.at c.loop-i.to c.loop-i.i _ (omega arith) e c.loop-i.invariant.left c.loop-i.invariant.row
