-- The bench cases B1 to B12, as one list. (Bench cases.)
use Rattle.std.specs.Prelude.{◌≡◌, List, [], ◌∷◌, ℕ, ℤ, pos, negsuc}
use Prim.Native.Nat.{Ordering}
use Rattle.model.specs.Number.{difference, distance_of_field}
use Rattle.model.specs.Entry.{Entry, super_key, cmp}
use Rattle.model.specs.Tree.{Item, nil, node}
use Rattle.model.specs.Rebuild.{rebuild}
use Rattle.model.specs.Ask.{fewest, tallest}
use Rattle.model.specs.Pool.{book_of}
use Rattle.model.specs.Answer.{refusal_in, plain, refused, met, close}
use Rattle.model.specs.Gate.{After, reading, leaving}
use Rattle.model.specs.Calls.{start}
use Rattle.model.specs.Runs.{Call, State, perform}
use Rattle.model.specs.declared.Head.{Head}
use Rattle.model.specs.declared.Entry.{Entry as Four}
use Rattle.model.specs.declared.Bound.TheVariants.{Free, Between}
use Rattle.model.specs.declared.Refusal.TheVariants.{Present, Full}
use Rattle.model.specs.declared.Outcome.TheVariants.{Absent, Done}

-- An entry of two fields on the way in, with numbers beyond them that are ignored.
abbrev pub given : ℕ → ℕ → Four
given a b = record { f = pos a ∷ pos b ∷ pos 77 ∷ negsuc 5 ∷ [] }

abbrev pub two : ℕ → ℕ → Entry
two a b = pos a ∷ pos b ∷ []

abbrev pub item : ℕ → Entry → Item
item s e = record { slot = s; entry = e }

-- A scratch that is not clean.
abbrev pub dirty : List ℕ
dirty = 9 ∷ 8 ∷ 7 ∷ []

-- A pool of K 2, C 3: root, first free, count; six numbers; nine links.
abbrev pub head_is : ℕ → ℕ → ℕ → Head
head_is root free n = record { k = 2; c = 3; root = root; free = free; n = n }

abbrev pub six : ℕ → ℕ → ℕ → ℕ → ℕ → ℕ → List ℤ
six a b c d e f = pos a ∷ pos b ∷ pos c ∷ pos d ∷ pos e ∷ pos f ∷ []

abbrev pub nine : ℕ → ℕ → ℕ → ℕ → ℕ → ℕ → ℕ → ℕ → ℕ → List ℕ
nine a b c d e f g h i = a ∷ b ∷ c ∷ d ∷ e ∷ f ∷ g ∷ h ∷ i ∷ []

-- Fresh; with (1,9); with (2,4) too; with all three: slot 2 is the root, 1 its left, 3 its right.
abbrev pub none : State
none = record { head = head_is 0 1 0; keys = six 0 0 0 0 0 0; links = nine 2 0 0 3 0 0 0 0 0 }

abbrev pub one : State
one = record { head = head_is 1 2 1; keys = six 1 9 0 0 0 0; links = nine 0 0 1 3 0 0 0 0 0 }

abbrev pub both : State
both = record { head = head_is 1 3 2; keys = six 1 9 2 4 0 0; links = nine 0 2 2 0 0 1 0 0 0 }

abbrev pub three : State
three = record { head = head_is 2 0 3; keys = six 1 9 2 4 3 7; links = nine 0 0 1 1 3 2 0 0 1 }

-- Then (2,4) struck: (3,7) has moved to slot 2, slot 3 is free. Then (1,9) struck: slot 1 in front of 3. Then (8,8) added: in slot 1.
abbrev pub less : State
less = record { head = head_is 2 3 2; keys = six 1 9 3 7 0 0; links = nine 0 0 1 1 0 2 0 0 0 }

abbrev pub last : State
last = record { head = head_is 2 1 1; keys = six 0 0 3 7 0 0; links = nine 3 0 0 0 0 1 0 0 0 }

abbrev pub again : State
again = record { head = head_is 2 3 2; keys = six 8 8 3 7 0 0; links = nine 0 0 1 0 1 2 0 0 0 }

-- (5,1) in slot 1 and (5,2) in slot 2; (0,0) in slot 1 and (10,0) in slot 2.
abbrev pub fives : State
fives = record { head = head_is 1 3 2; keys = six 5 1 5 2 0 0; links = nine 0 2 2 0 0 1 0 0 0 }

abbrev pub tens : State
tens = record { head = head_is 1 3 2; keys = six 0 0 10 0 0 0; links = nine 0 2 2 0 0 1 0 0 0 }

-- What an accepted writing call leaves; what a refused one leaves; what a reading call leaves.
abbrev pub accepted : State → After
accepted s = leaving (plain Done s.head) s.keys s.links (0 ∷ 0 ∷ 0 ∷ [])

abbrev pub adding : ℕ → ℕ → State → After
adding a b s = perform (Call.add dirty (given a b)) s

abbrev pub striking : ℕ → ℕ → State → After
striking a b s = perform (Call.strike dirty (given a b)) s

abbrev pub looking : ℕ → ℕ → State → After
looking a b s = perform (Call.look_up (given a b)) s

pub record Bench : Type 0 where
  pub B1 : (start 2 3 (six 1 2 3 4 5 6) (nine 9 8 7 6 5 4 3 2 1) ≡ reading (plain Done none.head) none.keys none.links)
      × (looking 0 0 none ≡ reading (plain Absent none.head) none.keys none.links)
  pub B2 : (adding 1 9 none ≡ accepted one) × (adding 2 4 one ≡ accepted both) × (adding 3 7 both ≡ accepted three)
      × (looking 3 7 three ≡ reading (met three.head (two 3 7) 3 2) three.keys three.links)
  pub B3 : (adding 5 5 three ≡ leaving (refused three.head 0 Full) three.keys three.links dirty)
      × (adding 1 9 three ≡ leaving (refused three.head 0 Present) three.keys three.links dirty)
      × (refusal_in (adding 5 5 three).answer.outcome ≡ 7) × (refusal_in (adding 1 9 three).answer.outcome ≡ 5)
  pub B4 : (striking 2 4 three ≡ accepted less)
      × (looking 3 7 less ≡ reading (met less.head (two 3 7) 2 1) less.keys less.links)
  pub B5 : (striking 1 9 less ≡ accepted last) × ((book_of last.head last.keys last.links).chain ≡ 1 ∷ 3 ∷ [])
      × (adding 8 8 last ≡ accepted again)
  pub B6 : ((adding 5 1 none).keys ≡ six 5 1 0 0 0 0) × (perform (Call.add dirty (given 5 2)) (record { head = head_is 1 2 1; keys = six 5 1 0 0 0 0; links = nine 0 0 1 3 0 0 0 0 0 }) ≡ accepted fives)
      × ((perform (Call.count (Between (pos 5) (pos 5) ∷ Free ∷ Free ∷ Free ∷ [])) fives).answer.count ≡ 2)
  pub B7 : perform (Call.nearest (given 5 0) (1 ∷ 1 ∷ 0 ∷ 0 ∷ [])) tens ≡ reading (close tens.head (two 0 0) 1 5) tens.keys tens.links
  pub B8 : difference (negsuc 9223372036854775807) (pos 9223372036854775807) ≡ 18446744073709551615
  pub B9 : (distance_of_field 50 (pos 0) (pos 49) ≡ 1) × (distance_of_field 50 (pos 0) (pos 50) ≡ 1)
  pub B10 : (tallest 3 ≡ 2) × (tallest 4 ≡ 3) × (tallest 6 ≡ 3) × (tallest 7 ≡ 4) × (tallest 4096 ≡ 16)
      × (fewest 2 ≡ 2) × (fewest 3 ≡ 4) × (fewest 4 ≡ 7) × (fewest 5 ≡ 12) × (fewest 6 ≡ 20) × (fewest 16 ≡ 2583) × (fewest 17 ≡ 4180)
  pub B11 : rebuild 0 (item 1 (two 1 1) ∷ item 2 (two 2 2) ∷ []) ≡ node (item 2 (two 2 2)) (node (item 1 (two 1 1)) nil nil) nil
  pub B12 : (super_key 2 (pos 9 ∷ pos 2 ∷ pos 1 ∷ []) ≡ pos 1 ∷ pos 9 ∷ pos 2 ∷ [])
      × (super_key 2 (pos 8 ∷ pos 3 ∷ pos 2 ∷ []) ≡ pos 2 ∷ pos 8 ∷ pos 3 ∷ [])
      × (super_key 2 (pos 8 ∷ pos 1 ∷ pos 5 ∷ []) ≡ pos 5 ∷ pos 8 ∷ pos 1 ∷ [])
      × (cmp 2 (pos 9 ∷ pos 2 ∷ pos 1 ∷ []) (pos 8 ∷ pos 3 ∷ pos 2 ∷ []) ≡ Ordering.lt)
      × (cmp 2 (pos 8 ∷ pos 3 ∷ pos 2 ∷ []) (pos 8 ∷ pos 1 ∷ pos 5 ∷ []) ≡ Ordering.lt)
      × (rebuild 2 (item 1 (pos 8 ∷ pos 1 ∷ pos 5 ∷ []) ∷ item 2 (pos 8 ∷ pos 3 ∷ pos 2 ∷ []) ∷ item 3 (pos 9 ∷ pos 2 ∷ pos 1 ∷ []) ∷ [])
      ≡ node (item 2 (pos 8 ∷ pos 3 ∷ pos 2 ∷ [])) (node (item 3 (pos 9 ∷ pos 2 ∷ pos 1 ∷ [])) nil nil) (node (item 1 (pos 8 ∷ pos 1 ∷ pos 5 ∷ [])) nil nil))
