-- One slot of lent memory: its three links and its K numbers.
use Rattle.std.specs.Prelude.{◌≡◌, List, ℕ, zero, suc, ◌+◌, ◌-◌, ◌*◌, ◌≤◌, get_or, take, drop, ℤ}
use Rattle.model.specs.Entry.{Entry, cut_field, cmp}
use Rattle.model.specs.declared.Shape.{Shape}
use Rattle.cells.specs.Orders.{named}
use Rattle.std.specs.declared.cmp.Ordering.{Ordering as Order}

unfoldable pub left_at : List ℕ → ℕ → ℕ
left_at ls s = get_or ls (3 * (s - 1)) 0

unfoldable pub right_at : List ℕ → ℕ → ℕ
right_at ls s = get_or ls (3 * (s - 1) + 1) 0

unfoldable pub height_at : List ℕ → ℕ → ℕ
height_at ls s = get_or ls (3 * (s - 1) + 2) 0

-- the height of what hangs at s, where 0 is no slot
unfoldable pub tall : List ℕ → ℕ → ℕ
tall ls zero = 0
tall ls (suc n) = height_at ls (suc n)

-- the address of slot s in the key table, and its numbers
unfoldable pub address_of : ℕ → ℕ → ℕ
address_of K s = K * (s - 1)

unfoldable pub numbers_of : ℕ → List ℤ → ℕ → Entry
numbers_of K ks s = take K (drop (address_of K s) ks)

-- s is a slot of a link table of n numbers
pub record Slot (n s : ℕ) : Type 0 where
  pub some : 1 ≤ s
  pub fits : 3 * s ≤ n

-- s is a slot of a key table of n numbers
pub record Keyed (K n s : ℕ) : Type 0 where
  pub some : 1 ≤ s
  pub fits : K * s ≤ n

-- the tables have the lengths that the shape asks
pub record Room (S : Shape) (nk nl : ℕ) : Type 0 where
  pub k_low : 1 ≤ S.k
  pub k_high : S.k ≤ 4
  pub c_low : 1 ≤ S.c
  pub c_high : S.c ≤ 4096
  pub wide : nk ≡ S.k * S.c
  pub long : nl ≡ 3 * S.c

-- how slot a stands to slot b, and an entry's first K numbers to slot b, at every depth that is cut at field c
pub record SlotsCompared (K : ℕ) (ks : List ℤ) (a b c : ℕ) (o : Order) : Type 0 where
  pub at : (t : ℕ) → cut_field K t ≡ c → o ≡ named (cmp t (numbers_of K ks a) (numbers_of K ks b))

pub record EntryCompared (K : ℕ) (e : List ℤ) (ks : List ℤ) (b c : ℕ) (o : Order) : Type 0 where
  pub at : (t : ℕ) → cut_field K t ≡ c → o ≡ named (cmp t (take K e) (numbers_of K ks b))
