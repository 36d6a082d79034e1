-- Pieces written one behind another: where each begins, and what they come to together.
use mathlib.Core.Path.{◌≡◌, sym, ap, ◌∙◌}
use mathlib.Core.List.{List, [], ◌∷◌, ◌++◌}
use Prim.Native.Nat.{ℕ, ◌+◌, ◌≤◌, ◌<◌}
use native.Mathlib.Omega.{arith}
use lib.ListN.{length, set, length-append, length-set}
use Rattle.print.specs.Place.{written, Puts}
use Rattle.print.proofs.Places.{written_none, written-join, written-length, written_one}

-- the first of two pieces has room, and so has the second behind it
pub first_fits : (room : List ℕ) (at : ℕ) (a b : List ℕ) → at + length (a ++ b) ≤ length room → at + length a ≤ length room
first_fits room at a b f = let l = length-append a b in omega arith

pub long : (room : List ℕ) (at : ℕ) (a o : List ℕ) (p : ℕ) → at + length a ≤ length room → Puts room at a o p → length o ≡ length room
long room at a o p f w = ap length w.0 ∙ written-length room at a f

pub next_fits : (room : List ℕ) (at : ℕ) (a b o : List ℕ) (p : ℕ) → at + length (a ++ b) ≤ length room → Puts room at a o p → p + length b ≤ length o
next_fits room at a b o p f w = let l = length-append a b in let n = long room at a o p (first_fits room at a b f) w in let q = w.1 in omega arith

pub join : (room : List ℕ) (at : ℕ) (a b o : List ℕ) (p : ℕ) (o' : List ℕ) (p' : ℕ) → at + length (a ++ b) ≤ length room → Puts room at a o p → Puts o p b o' p' → Puts room at (a ++ b) o' p'
join room at a b o p o' p' f v w =
    let l = length-append a b in
    let q = v.1 in
    let r = w.1 in
    (w.0 ∙ (λ i. written (v.0 i) (v.1 i) b) ∙ written-join room at a b f, omega arith)

pub nothing : (room : List ℕ) (at : ℕ) → Puts room at [] room at
nothing room at = (sym (written_none room at), omega arith)

-- one byte, and two
pub one : (room : List ℕ) (at x : ℕ) → at < length room → Puts room at (x ∷ []) (set room at x) (at + 1)
one room at x h = (written_one room at x h, omega arith)

pub two : (room : List ℕ) (at x y : ℕ) → at + 2 ≤ length room → Puts room at (x ∷ y ∷ []) (set (set room at x) (at + 1) y) (at + 2)
two room at x y h =
    let n = length-set room at x in
    let w = join room at (x ∷ []) (y ∷ []) (set room at x) (at + 1) (set (set room at x) (at + 1) y) (at + 1 + 1) (omega arith) (one room at x (omega arith)) (one (set room at x) (at + 1) y (omega arith)) in
    (w.0, omega arith)
