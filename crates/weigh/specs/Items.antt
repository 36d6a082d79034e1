-- Item i of a tray, counted from 0: its work and its entry; and whether an entry is there after some of the items.
use Rattle.std.specs.Prelude.{Bool, not, ◌&&◌, ◌||◌, List, ℕ, zero, suc, ◌+◌, ◌*◌, take, drop, ℤ}
use Rattle.std.proofs.Math.Dec.{compare_is_eq}
use Rattle.model.specs.Entry.{Entry, cmp}
use Rattle.model.specs.Tray.{Work, adding, striking, work_at}

-- the K+1 numbers of item i
abbrev pub item_of : ℕ → List ℤ → ℕ → List ℤ
item_of K xs i = take (K + 1) (drop (i * (K + 1)) xs)

abbrev pub work_of : ℕ → List ℤ → ℕ → Work
work_of K xs i = work_at K (drop (i * (K + 1)) xs)

abbrev pub entry_at : ℕ → List ℤ → ℕ → Entry
entry_at K xs i = take K (drop (i * (K + 1) + 1) xs)

-- whether e is there after an item, where z says whether it was there before
abbrev pub there_after : Entry → Work → Bool → Bool
there_after e (adding x) z = compare_is_eq (cmp 0 e x) || z
there_after e (striking x) z = not (compare_is_eq (cmp 0 e x)) && z

-- after the first j items
abbrev pub is_there_by : ℕ → List ℤ → Entry → Bool → ℕ → Bool
is_there_by K xs e z zero = z
is_there_by K xs e z (suc j) = there_after e (work_of K xs j) (is_there_by K xs e z j)
