-- Writing at a place.
use Rattle.std.specs.Prelude.{◌≡◌, List, ◌++◌, ℕ, ◌+◌, length, take, drop}

-- The list with `bs` in place of as many of its elements, from place `at` on.
abbrev pub written : List ℕ → ℕ → List ℕ → List ℕ
written out at bs = take at out ++ (bs ++ drop (at + length bs) out)

-- `bs` stands at place `at` of what was `out`, and `r` is the place behind it.
abbrev pub Puts : List ℕ → ℕ → List ℕ → List ℕ → ℕ → Type 0
Puts out at bs after r = (after ≡ written out at bs) × (r ≡ at + length bs)
