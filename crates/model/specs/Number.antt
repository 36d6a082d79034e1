-- Numbers: their order, their difference, the distance of a field.
-- No value is special; both ends of the signed 64-bit range are ordinary numbers.
use Rattle.std.specs.Prelude.{Bool, ltb, ℤ, pos, negsuc}
use Prim.Native.Nat.{ℕ, suc, ◌+◌, ◌-◌, ◌/◌, ◌%◌, min, max, compare, Ordering}

-- Which of two numbers is the greater. `pos a` is a, `negsuc a` is -(a + 1). (Rules of the tree, Super key: how one field is compared.)
abbrev pub order : ℤ → ℤ → Ordering
order (pos a) (pos b) = compare a b
order (pos a) (negsuc b) = Ordering.gt
order (negsuc a) (pos b) = Ordering.lt
order (negsuc a) (negsuc b) = compare b a

-- The larger less the smaller, exact from one end of the range to the other. (Questions, Nearest; B8.)
unfoldable pub difference : ℤ → ℤ → ℕ
difference (pos a) (pos b) = max a b - min a b
difference (pos a) (negsuc b) = a + suc b
difference (negsuc a) (pos b) = b + suc a
difference (negsuc a) (negsuc b) = max a b - min a b

-- The distance of one field: the difference divided by the step, and one more where something is left over; exact equality alone is 0.
-- (Questions, Nearest; B9; as changed by M-102: rounded up.)
unfoldable pub distance_of_field : ℕ → ℤ → ℤ → ℕ
distance_of_field step x y = difference x y / step + min 1 (difference x y % step)

-- A number that 64 signed bits can hold. (Saved book: any other number is malformed.)
abbrev pub in_range : ℤ → Bool
in_range (pos a) = ltb a 9223372036854775808
in_range (negsuc a) = ltb a 9223372036854775808
