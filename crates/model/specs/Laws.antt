-- What is claimed of the tree, the nearest and the text, in the words of the definitions alone; each record is proved for all its arguments.
use Rattle.std.specs.Prelude.{◌≡◌, true, false, not, ℕ, suc, ◌+◌, ◌*◌, ◌≤◌, ◌<◌, eqb, length, take, ℤ}
use mathlib.Core.List.{List, [], ◌∷◌, Permᴰ}
use Rattle.std.proofs.Math.Option.{Option, none, some}
use Prim.Native.Nat.{Ordering}
use Rattle.model.specs.Number.{difference, distance_of_field}
use Rattle.model.specs.Entry.{Entry, cmp, distance}
use Rattle.model.specs.Tree.{Item, Tree, items, entries_of, slots_of, height, size, balanced, ordered}
use Rattle.model.specs.Rebuild.{rank, rebuild, listing}
use Rattle.model.specs.Strike.{freed}
use Rattle.model.specs.Ask.{has, new_of, nearest, fewest, tallest}
use Rattle.model.specs.Book.{Book, fresh, added, struck}
use Rattle.model.specs.Pool.{book_of}
use Rattle.model.specs.Text.{broken, saved, ranged, text_of, parse}
use Rattle.model.specs.Lines.{right_line}
use Rattle.model.specs.Answer.{Row, gate, refused, refused_at}
use Rattle.model.specs.Gate.{leaving, writing}
use Rattle.model.specs.Calls.{any_zero, added_all}
use Rattle.model.specs.Tray.{Work, adding, striking, works, tray_rows, tray}
use Rattle.model.specs.Show.{book_lines, program}
use Rattle.model.specs.Demands.{InOrder, rising}
use Rattle.model.specs.declared.Head.{Head}
use Rattle.model.specs.declared.Refusal.{Refusal}
use Rattle.model.specs.declared.Refusal.TheVariants.{Present, Missing, Full}

-- An add changes the entries by exactly the one named and the slots by exactly the first free one; order and balance stay.
pub record Adds (K C : ℕ) (b : Book) (e : Entry) (s : ℕ) (ss : List ℕ) : Type 0 where
  pub once : InOrder K C b → length e ≡ K → has e (listing b.tree) ≡ false → b.chain ≡ s ∷ ss
      → InOrder K C (added e b) × Permᴰ (entries_of (items (added e b).tree)) (e ∷ entries_of (items b.tree)) × Permᴰ (slots_of (items (added e b).tree)) (s ∷ slots_of (items b.tree)) × ((added e b).chain ≡ ss)

-- A strike takes away exactly the entry named and gives up exactly one slot, to the front of the chain; order and balance stay.
pub record Strikes (K C : ℕ) (b : Book) (e : Entry) : Type 0 where
  pub once : InOrder K C b → has e (listing b.tree) ≡ true
      → InOrder K C (struck e b) × Permᴰ (entries_of (items b.tree)) (e ∷ entries_of (items (struck e b).tree)) × Permᴰ (slots_of (items b.tree)) (freed 0 e b.tree ∷ slots_of (items (struck e b).tree)) × ((struck e b).chain ≡ freed 0 e b.tree ∷ b.chain)

-- A rebuilt tree holds the same items, is in order where no two entries are the same, is balanced, and no tree of as many is lower.
pub record Rebuilds (t : ℕ) (is : List Item) : Type 0 where
  pub same : Permᴰ (items (rebuild t is)) is
  pub order : rising none (entries_of (rank 0 is)) ≡ true → ordered t (rebuild t is) ≡ true
  pub balance : balanced (rebuild t is) ≡ true
  pub least : (u : Tree) → size u ≡ length is → height (rebuild t is) ≤ height u

-- A balanced tree of a height has at least the fewest entries; the greatest height is passed by no balanced tree, and attained by one in
-- order; up to 4,096 entries it is at most 16.
pub record Heights (n : ℕ) : Type 0 where
  pub fewest_of : (u : Tree) → balanced u ≡ true → fewest (height u) ≤ size u
  pub passed : (u : Tree) → balanced u ≡ true → size u ≡ n → height u ≤ tallest n
  pub attained : (u : Tree) × (size u ≡ n) × (height u ≡ tallest n) × (balanced u ≡ true) × (ordered 0 u ≡ true)
  pub sixteen : n ≤ 4096 → tallest n ≤ 16

-- By a step of 1 or more, a field's distance is the least number of steps that covers the difference; it is 0 for equal numbers alone. (M-102.)
pub record Distances (step : ℕ) (x y : ℤ) : Type 0 where
  pub covers : 1 ≤ step → difference x y ≤ distance_of_field step x y * step
  pub least : 1 ≤ step → (m : ℕ) → difference x y ≤ m * step → distance_of_field step x y ≤ m
  pub equal : x ≡ y → distance_of_field step x y ≡ 0
  pub alone : 1 ≤ step → distance_of_field step x y ≡ 0 → x ≡ y

-- Where no step of the K fields is 0, an entry is at distance 0 from itself alone. (M-102: any departure is at least one step.)
pub record Perfect (K : ℕ) (steps : List ℕ) (q e : Entry) : Type 0 where
  pub equal : q ≡ e → distance steps q e ≡ 0
  pub alone : length q ≡ K → length e ≡ K → K ≤ length steps → any_zero (take K steps) ≡ false → distance steps q e ≡ 0 → q ≡ e

-- The nearest is one of the entries, none is nearer, and of those as near none comes before it in listing order.
pub record Nearest (steps : List ℕ) (q : Entry) (es : List Entry) : Type 0 where
  pub empty : nearest steps q es ≡ none → es ≡ []
  pub best : (e : Entry) → nearest steps q es ≡ some e
      → (has e es ≡ true) × ((x : Entry) → has x es ≡ true → (distance steps q e ≤ distance steps q x) × (distance steps q e ≡ distance steps q x → ¬ (cmp 0 x e ≡ Ordering.lt)))

-- What save prints, taking apart gives back; every accepted text is the print of its entries; the line of a refusal is the first bad one.
pub record Texts (text : List ℕ) : Type 0 where
  pub back : (K : ℕ) (es : List Entry) → 1 ≤ K → K ≤ 4 → length es ≤ 4096 → ((e : Entry) → has e es ≡ true → (length e ≡ K) × (ranged e ≡ true)) → rising none es ≡ true → parse (text_of K es) ≡ saved K es
  pub only : (K : ℕ) (es : List Entry) → parse text ≡ saved K es → text ≡ text_of K es
  pub line : (l : ℕ) → parse text ≡ broken l → (j : ℕ) × (l ≡ suc j) × (right_line text j ≡ false) × ((i : ℕ) → i < j → right_line text i ≡ true)
  pub whole : (K : ℕ) (es : List Entry) → parse text ≡ saved K es → (i : ℕ) → right_line text i ≡ true

-- Line by line: an entry is added where it is not there by then. (Saved book: what is not yet there, in text order.)
abbrev pub added_each : List Entry → Book → Book
added_each [] b = b
added_each (e ∷ es) b = elim (has e (listing b.tree)) [ true ↦ added_each es b | false ↦ added_each es (added e b) ]

-- For a text, which rises, that is the same as adding what was not there before the call.
pub record Linewise (K C : ℕ) (b : Book) (es : List Entry) : Type 0 where
  pub same : InOrder K C b → ((e : Entry) → has e es ≡ true → length e ≡ K) → rising none es ≡ true → size b.tree + length (new_of (listing b.tree) es) ≤ C
      → added_all (new_of (listing b.tree) es) b ≡ added_each es b

-- The program prints the tree of the text's entries added one by one to a fresh pool of 512.
pub record Shows (text : List ℕ) : Type 0 where
  pub tree : (K : ℕ) (es : List Entry) → parse text ≡ saved K es → length text ≤ 32768 → length es ≤ 512 → program text ≡ book_lines K (added_all es (fresh 512))

-- What is wrong with an item in a book of C slots: an add of what is there or without a free slot, a strike of what is not there. (5, 7, 6.)
abbrev pub wrong_rows : ℕ → Work → Book → List Row
wrong_rows C (adding e) b = (has e (listing b.tree), Present) ∷ (eqb (size b.tree) C, Full) ∷ []
wrong_rows C (striking e) b = (not (has e (listing b.tree)), Missing) ∷ []

abbrev pub wrong_with : ℕ → Work → Book → Option Refusal
wrong_with C w b = gate (wrong_rows C w b)

-- The book after an item, after all items.
abbrev pub worked : Work → Book → Book
worked (adding e) b = added e b
worked (striking e) b = struck e b

abbrev pub worked_all : List Work → Book → Book
worked_all [] b = b
worked_all (w ∷ ws) b = worked_all ws (worked w b)

-- The first item that is wrong in the book as the items before it leave it: its place, where the first has place p, and its refusal.
abbrev pub first_wrong_item : ℕ → ℕ → List Work → Book → Option (ℕ × Refusal)
first_wrong_item C p [] b = none
first_wrong_item C p (w ∷ ws) b = elim (wrong_with C w b) [ some r ↦ some (p, r) | none ↦ first_wrong_item C (suc p) ws (worked w b) ]

-- A tray in terms of books: behind its rows the first wrong item refuses it with its place; where none is wrong every item is worked.
pub record Trays (h : Head) (ks : List ℤ) (ls sc : List ℕ) (xs : List ℤ) : Type 0 where
  pub shut : (r : Refusal) → gate (tray_rows h ks ls sc xs) ≡ some r → tray h ks ls sc xs ≡ leaving (refused h 0 r) ks ls sc
  pub wrong : (p : ℕ) (r : Refusal) → gate (tray_rows h ks ls sc xs) ≡ none → first_wrong_item h.c 1 (works h.k xs) (book_of h ks ls) ≡ some (p, r)
      → tray h ks ls sc xs ≡ leaving (refused_at h p r) ks ls sc
  pub right : gate (tray_rows h ks ls sc xs) ≡ none → first_wrong_item h.c 1 (works h.k xs) (book_of h ks ls) ≡ none
      → tray h ks ls sc xs ≡ writing h (worked_all (works h.k xs) (book_of h ks ls))
