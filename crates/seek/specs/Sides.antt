-- The declared side, and the definition's; what a slot holds.
use Rattle.std.specs.Prelude.{List, true, false, ℕ, ltb, ℤ}
use Rattle.model.specs.Tree.{Item}
use Rattle.model.specs.Strike.{left, right, Side as Way}
use Rattle.cells.specs.Slots.{left_at, right_at, numbers_of}
use Rattle.seek.specs.declared.side.Side.{Side}
use Rattle.seek.specs.declared.side.Side.TheVariants.{Left, Right}

abbrev pub way_of : Side → Way
way_of Left = left
way_of Right = right

abbrev pub other_of : Side → Side
other_of Left = Right
other_of Right = Left

abbrev pub child_at : List ℕ → ℕ → Side → ℕ
child_at ls s Left = left_at ls s
child_at ls s Right = right_at ls s

-- of two trees the one on a side, and the two with the one on a side in front
abbrev pub on_side : {A : Type 0} → Side → A → A → A
on_side Left a b = a
on_side Right a b = b

-- of two heights the side of the higher, the right one where they are equal
abbrev pub higher_of : ℕ → ℕ → Side
higher_of l r = elim (ltb r l) [ true ↦ Left | false ↦ Right ]

-- a slot with its entry
abbrev pub item_in : ℕ → List ℤ → ℕ → Item
item_in K ks s = record { slot = s; entry = numbers_of K ks s }
