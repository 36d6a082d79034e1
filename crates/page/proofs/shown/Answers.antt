use mathlib.Core.Path.{refl}
use Prim.Native.Nat.{◌*◌, ◌≤◌}
use native.Mathlib.Omega.{arith}
use lib.ListN.{length}
use Rattle.page.proofs.Shows as laws
use Rattle.page.proofs.shown.Goals as goal

pub returns-then-input-gt32768 : goal.returns-then-input-gt32768
returns-then-input-gt32768 c =
    let B = c.put_bytes in
    laws.shown_by c.args.input.now c.args.room.now B.new.out B.result (laws.long-put c.args.input.now c.args.room.now B.new.out B.result c.if-input-gt32768.true B.ensures)

pub overflow_mul-z : goal.overflow_mul-z
overflow_mul-z c =
    let T = c.take_apart in
    let k = laws.few-keys c.args.input.now T.result T.ensures _ c.in-Ok.is in
    record { fits = omega arith }

pub slice_bounds-keys-end : goal.slice_bounds-keys-end
slice_bounds-keys-end c =
    let T = c.take_apart in
    laws.few-keys c.args.input.now T.result T.ensures _ c.in-Ok.is

pub slice_bounds-put_taken-end : goal.slice_bounds-put_taken-end
slice_bounds-put_taken-end c =
    let T = c.take_apart in
    laws.front_long (c.in-Ok.title.fields * 512) _ (laws.few-keys c.args.input.now T.result T.ensures _ c.in-Ok.is)

pub put_taken-requires-clause-keys_value : goal.put_taken-requires-clause-keys_value
put_taken-requires-clause-keys_value c =
    let T = c.take_apart in
    (laws.front-zero (c.in-Ok.title.fields * 512) 2048 (laws.few-keys c.args.input.now T.result T.ensures _ c.in-Ok.is), (refl, refl))

pub returns-in-Err : goal.returns-in-Err
returns-in-Err c =
    let T = c.take_apart in
    let R = c.put_refusal in
    let h : length c.args.input.now ≤ 32768 = c.if-input-gt32768.false in
    laws.shown_by c.args.input.now c.args.room.now R.new.room R.result
    (laws.text-put c.args.input.now c.args.room.now R.new.room R.result h (laws.broken-put c.args.input.now T.result T.ensures _ c.in-Err.is c.args.room.now R.new.room R.result R.ensures))

pub returns-in-Ok : goal.returns-in-Ok
returns-in-Ok c =
    let P = c.put_taken in
    let h : length c.args.input.now ≤ 32768 = c.if-input-gt32768.false in
    laws.shown_by c.args.input.now c.args.room.now P.new.room P.result (laws.text-put c.args.input.now c.args.room.now P.new.room P.result h P.ensures)
