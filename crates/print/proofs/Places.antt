-- Writing at a place, one piece behind the other.
use mathlib.Core.Path.{◌≡◌, refl, sym, ap, ◌∙◌}
use mathlib.Core.List.{List, [], ◌∷◌, ◌++◌, append_assoc}
use Prim.Native.Nat.{ℕ, suc, ◌+◌, ◌≤◌, ◌<◌}
use native.Mathlib.Omega.{arith}
use lib.ListN.{length, set, take, drop, length-append, take-append-drop}
use lib.Seq.{sets, sets-eq, length-sets}
use Rattle.print.specs.Place.{written}

-- a run of stores is a write at a place
pub sets-written : (out : List ℕ) (at : ℕ) (bs : List ℕ) → at + length bs ≤ length out → sets out at bs ≡ written out at bs
sets-written out at bs h = sets-eq bs out at h ∙ append_assoc (take at out) bs (drop (at + length bs) out)

sets-join : (a b out : List ℕ) (i : ℕ) → sets (sets out i a) (i + length a) b ≡ sets out i (a ++ b)
sets-join [] b out i = let e : i + 0 ≡ i = omega arith in rw e refl
sets-join (x ∷ a) b out i =
    let e : i + suc (length a) ≡ suc i + length a = omega arith in
    rw e (sets-join a b (set out i x) (suc i))

pub written-length : (out : List ℕ) (at : ℕ) (bs : List ℕ) → at + length bs ≤ length out → length (written out at bs) ≡ length out
written-length out at bs h = ap length (sym (sets-written out at bs h)) ∙ length-sets out at bs

pub written_none : (out : List ℕ) (at : ℕ) → written out at [] ≡ out
written_none out at = let e : at + 0 ≡ at = omega arith in rw e (take-append-drop at out)

-- one piece, then the next one behind it
pub written-join : (out : List ℕ) (at : ℕ) (a b : List ℕ) → at + length (a ++ b) ≤ length out → written (written out at a) (at + length a) b ≡ written out at (a ++ b)
written-join out at a b h =
    let l = length-append a b in
    let w : written out at a ≡ sets out at a = sym (sets-written out at a (omega arith)) in
    let n = length-sets out at a in
    ap (λ o. written o (at + length a) b) w
    ∙ sym (sets-written (sets out at a) (at + length a) b (omega arith))
    ∙ sets-join a b out at
    ∙ sets-written out at (a ++ b) h

pub written_one : (out : List ℕ) (at x : ℕ) → at < length out → set out at x ≡ written out at (x ∷ [])
written_one out at x h = sets-written out at (x ∷ []) (omega arith)

-- one byte behind a piece
pub written-more : (out : List ℕ) (at : ℕ) (a : List ℕ) (x : ℕ) → at + length a < length out → set (written out at a) (at + length a) x ≡ written out at (a ++ (x ∷ []))
written-more out at a x h =
    let l = length-append a (x ∷ []) in
    let n = written-length out at a (omega arith) in
    written_one (written out at a) (at + length a) x (omega arith) ∙ written-join out at a (x ∷ []) (omega arith)
