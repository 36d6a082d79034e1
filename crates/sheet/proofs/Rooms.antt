-- Entries written one behind another: what is left to write gives the whole.
use mathlib.Core.Path.{◌≡◌, refl, sym, ◌∙◌}
use mathlib.Core.List.{List}
use Prim.Native.Nat.{ℕ, suc, ◌+◌, ◌-◌, ◌*◌, ◌<◌}
use native.Mathlib.Omega.{arith}
use native.Mathlib.Nat.{mul-suc}
use native.Mathlib.Numerals.{add-one}
use lib.ListN.{length, get_or, take, drop}
use lib.Seq.{sets, drop-cons}
use lib.IntN.{ℤ}
use Rattle.model.specs.Answer.{outward}
use Rattle.model.specs.declared.Entry.{Entry as Four}
use Rattle.cells.specs.Slots.{numbers_of, address_of}
use Rattle.cells.specs.Memory.{Wrote}
use Rattle.cells.proofs.Slots.{numbers-long}
use Rattle.cells.proofs.Writes.{sets-append}
use Rattle.rank.specs.Ranking.{InTables}
use Rattle.rank.proofs.Merging.{row_in}
use Rattle.weigh.proofs.Inward.{back_in}
use Rattle.sheet.specs.Listing.{numbers_in}

pub rooms-on : (K : ℕ) (ks : List ℤ) (ss : List ℕ) (room room' whole : List ℤ) (i : ℕ) (e : Four) → InTables K (length ks) ss → i < length ss → e ≡ outward (numbers_of K ks (get_or ss i 0)) → Wrote K room room' (i + 1) (take K e.f)
    → sets room (K * i) (numbers_in K ks (drop i ss)) ≡ whole → sets room' (K * (i + 1)) (numbers_in K ks (drop (i + 1) ss)) ≡ whole
unfolding address_of
rooms-on K ks ss room room' whole i e t h q w f =
    let s : ℕ = get_or ss i 0 in
    let n : length (numbers_of K ks s) ≡ K = numbers-long K ks s (row_in K (length ks) ss i t h).keyed in
    let z : take K e.f ≡ numbers_of K ks s = back_in K (numbers_of K ks s) e n q in
    let a : room' ≡ sets room (K * i) (numbers_of K ks s) = w.exactly ∙ (let m : i + 1 - 1 ≡ i = omega arith in rw (m, z) refl) in
    let p : K * (i + 1) ≡ K * i + length (numbers_of K ks s) = rw (add-one, mul-suc, n) (omega arith) in
    rw (a, p, add-one) (sym (sets-append room (K * i) (numbers_of K ks s) (numbers_in K ks (drop (suc i) ss))) ∙ rw (drop-cons ss i 0) at f)
