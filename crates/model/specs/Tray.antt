-- A tray in one go: a list of adds and strikes, taken in order, whole or not at all. (02, M-100.)
use Rattle.std.specs.Prelude.{List, [], ◌∷◌, ◌++◌, Bool, true, false, not, ◌&&◌, ◌||◌, ℕ, zero, suc, ◌/◌, ◌%◌, leb, eqb, length, take, drop, replicate, ℤ, pos}
use Rattle.std.proofs.Math.Option.{none, some}
use Rattle.std.proofs.Math.Dec.{compare_is_eq}
use Rattle.model.specs.Number.{order}
use Rattle.model.specs.Entry.{Entry}
use Rattle.model.specs.Pool.{sound}
use Rattle.model.specs.Answer.{Row, checked, refusal_of, outward, plain, refused, refused_at}
use Rattle.model.specs.Gate.{After, leaving, rows3, sized}
use Rattle.model.specs.Calls.{add, strike_out}
use Rattle.model.specs.declared.Head.{Head}
use Rattle.model.specs.declared.Refusal.{Refusal}
use Rattle.model.specs.declared.Refusal.TheVariants.{Unsound, Tray}
use Rattle.model.specs.declared.Outcome.TheVariants.{Done}

-- An item: an entry to be added, or one to be struck. (02, M-100: adds and strikes.)
pub data Work : Type 0 where
  adding : Entry → Work
  striking : Entry → Work

abbrev pub begins : ℕ → List ℤ → Bool
begins n [] = false
begins n (x ∷ xs) = compare_is_eq (order x (pos n))

-- The item that K+1 numbers are: the entry behind a 1 is to be added, behind a 2 to be struck. (02, M-100: an item.)
abbrev pub work_at : ℕ → List ℤ → Work
work_at K xs = elim (begins 1 xs) [ true ↦ adding (take K (drop 1 xs)) | false ↦ striking (take K (drop 1 xs)) ]

-- The next m items, K+1 numbers each; and whether each begins with 1 or 2.
abbrev pub works_from : ℕ → ℕ → List ℤ → List Work
works_from K zero xs = []
works_from K (suc m) xs = work_at K xs ∷ works_from K m (drop (suc K) xs)

abbrev pub begun : ℕ → ℕ → List ℤ → Bool
begun K zero xs = true
begun K (suc m) xs = (begins 1 xs || begins 2 xs) && begun K m (drop (suc K) xs)

-- The items of a list of numbers. (02, M-100: an item is K+1 numbers.)
unfoldable pub works : ℕ → List ℤ → List Work
works K xs = works_from K (length xs / suc K) xs

-- At most 256 items, a length that is a multiple of K+1, and no other first number than 1 and 2. (02, M-100: else refusal 12.)
unfoldable pub trayed : ℕ → List ℤ → Bool
trayed K xs = leb (length xs / suc K) 256 && (eqb (length xs % suc K) 0 && begun K (length xs / suc K) xs)

-- The single call of an item, on what the calls before it left. (02, M-100: as single calls would leave it.)
abbrev pub one : After → Work → After
one a (adding e) = add a.answer.head a.keys a.links a.scratch (outward e)
one a (striking e) = strike_out a.answer.head a.keys a.links a.scratch (outward e)

pub data Ran : Type 0 where
  whole : After → Ran
  stopped : ℕ → Refusal → Ran

-- The single calls in order, the first of them at place p; the first that is refused stops all. (02, M-100: number and place.)
abbrev pub tray_from : ℕ → After → List Work → Ran
tray_from p a [] = whole a
tray_from p a (w ∷ ws) = elim (refusal_of (one a w).answer.outcome) [ some r ↦ stopped p r | none ↦ tray_from (suc p) (one a w) ws ]

-- A stopped tray has written nothing at all, scratch included. (02, M-100: the batch is refused.)
abbrev pub tray_end : Head → List ℤ → List ℕ → List ℕ → Ran → After
tray_end h ks ls sc (whole a) = a
tray_end h ks ls sc (stopped p r) = leaving (refused_at h p r) ks ls sc

-- Rows 1 to 3, then 12, then 4. (02, M-100: 12 after 3 and before 4.)
abbrev pub tray_rows : Head → List ℤ → List ℕ → List ℕ → List ℤ → List Row
tray_rows h ks ls sc xs =
    rows3 h.k h.c (sized h.k h.c ks ls && eqb (length sc) h.c)
    ++ ((not (trayed h.k xs), Tray) ∷ (not (sound h ks ls), Unsound) ∷ [])

-- Tray: the single calls from place 1 on, behind a scratch made all 0, which is all that an empty list does. (02, M-100.)
unfoldable pub tray : Head → List ℤ → List ℕ → List ℕ → List ℤ → After
tray h ks ls sc xs =
    checked (tray_rows h ks ls sc xs) (λ r. leaving (refused h 0 r) ks ls sc)
    (tray_end h ks ls sc (tray_from 1 (leaving (plain Done h) ks ls (replicate h.c 0)) (works h.k xs)))
