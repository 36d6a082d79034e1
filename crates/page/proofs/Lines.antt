-- The lines of a print from their pieces.
use mathlib.Core.Path.{◌≡◌, refl, sym, ap, subst, ◌∙◌}
use mathlib.Core.List.{List, [], ◌∷◌, ◌++◌}
use Prim.Native.Nat.{ℕ, ◌+◌, ◌%◌, ◌≤◌, ◌<◌}
use native.Mathlib.Omega.{arith}
use lib.ListN.{length, set}
use Rattle.model.specs.Entry.{Entry, cut_field}
use Rattle.model.specs.Text.{decimal, pairs}
use Rattle.model.specs.Answer.{number_of}
use Rattle.model.specs.Show.{entries_is, height_is, free_is, slot_is, depth_is, cut_is, refused_is, line_is, refusal_line}
use Rattle.model.specs.declared.Refusal.{Refusal}
use Rattle.print.specs.Place.{Puts}
use Rattle.page.specs.Trees.{entry_line, totals}
use Rattle.page.proofs.Pieces.{first_fits, next_fits, join, one}

-- the line of an entry: slot, depth, cut, pairs
module _ (K t s : ℕ) (e : Entry) (room : List ℕ) (at : ℕ) (f : at + length (entry_line K t s e) ≤ length room) where
  abbrev pub slot_piece : List ℕ
  slot_piece = slot_is ++ decimal s

  abbrev pub depth_piece : List ℕ
  depth_piece = depth_is ++ decimal t

  abbrev pub cut_piece : List ℕ
  cut_piece = cut_is ++ ((97 + t % K) ∷ 32 ∷ [])

  abbrev pub pairs_piece : List ℕ
  pairs_piece = pairs 97 e ++ (10 ∷ [])

  pieces : entry_line K t s e ≡ slot_piece ++ (depth_piece ++ (cut_piece ++ pairs_piece))
  unfolding entry_line cut_field
  pieces = refl

  room1 : at + length (slot_piece ++ (depth_piece ++ (cut_piece ++ pairs_piece))) ≤ length room
  room1 = subst (λ (x : List ℕ). at + length x ≤ length room) pieces f

  pub slot-fits : at + length slot_piece ≤ length room
  slot-fits = first_fits room at slot_piece (depth_piece ++ (cut_piece ++ pairs_piece)) room1

  module _ (o₁ : List ℕ) (p₁ : ℕ) (w₁ : Puts room at slot_piece o₁ p₁) where
    room2 : p₁ + length (depth_piece ++ (cut_piece ++ pairs_piece)) ≤ length o₁
    room2 = next_fits room at slot_piece (depth_piece ++ (cut_piece ++ pairs_piece)) o₁ p₁ room1 w₁

    pub depth-fits : p₁ + length depth_piece ≤ length o₁
    depth-fits = first_fits o₁ p₁ depth_piece (cut_piece ++ pairs_piece) room2

    module _ (o₂ : List ℕ) (p₂ : ℕ) (w₂ : Puts o₁ p₁ depth_piece o₂ p₂) where
      room3 : p₂ + length (cut_piece ++ pairs_piece) ≤ length o₂
      room3 = next_fits o₁ p₁ depth_piece (cut_piece ++ pairs_piece) o₂ p₂ room2 w₂

      pub cut_fits : p₂ + length cut_piece ≤ length o₂
      cut_fits = first_fits o₂ p₂ cut_piece pairs_piece room3

      module _ (o₃ : List ℕ) (p₃ : ℕ) (w₃ : Puts o₂ p₂ cut_piece o₃ p₃) where
        pub pairs-fit : p₃ + length pairs_piece ≤ length o₃
        pairs-fit = next_fits o₂ p₂ cut_piece pairs_piece o₃ p₃ room3 w₃

        pub entry-put : (o₄ : List ℕ) (p₄ : ℕ) → Puts o₃ p₃ pairs_piece o₄ p₄ → Puts room at (entry_line K t s e) o₄ p₄
        entry-put o₄ p₄ w₄ = subst (λ (x : List ℕ). Puts room at x o₄ p₄) (sym pieces)
            (join room at slot_piece (depth_piece ++ (cut_piece ++ pairs_piece)) o₁ p₁ o₄ p₄ room1 w₁
            (join o₁ p₁ depth_piece (cut_piece ++ pairs_piece) o₂ p₂ o₄ p₄ room2 w₂
            (join o₂ p₂ cut_piece pairs_piece o₃ p₃ o₄ p₄ room3 w₃ w₄)))

-- the first line: entries, height, free
module _ (n h f : ℕ) (room : List ℕ) (fits : length (totals n h f) ≤ length room) where
  abbrev entries_piece : List ℕ
  entries_piece = entries_is ++ decimal n

  abbrev height_piece : List ℕ
  height_piece = height_is ++ decimal h

  abbrev free_piece : List ℕ
  free_piece = free_is ++ decimal f

  abbrev last : List ℕ
  last = 10 ∷ []

  whole : totals n h f ≡ entries_piece ++ (height_piece ++ (free_piece ++ last))
  unfolding totals
  whole = refl

  space1 : 0 + length (entries_piece ++ (height_piece ++ (free_piece ++ last))) ≤ length room
  space1 = subst (λ (x : List ℕ). 0 + length x ≤ length room) whole (omega arith)

  pub entries_fit : 0 + length entries_piece ≤ length room
  entries_fit = first_fits room 0 entries_piece (height_piece ++ (free_piece ++ last)) space1

  module _ (o₁ : List ℕ) (p₁ : ℕ) (w₁ : Puts room 0 entries_piece o₁ p₁) where
    space2 : p₁ + length (height_piece ++ (free_piece ++ last)) ≤ length o₁
    space2 = next_fits room 0 entries_piece (height_piece ++ (free_piece ++ last)) o₁ p₁ space1 w₁

    pub height-fits : p₁ + length height_piece ≤ length o₁
    height-fits = first_fits o₁ p₁ height_piece (free_piece ++ last) space2

    module _ (o₂ : List ℕ) (p₂ : ℕ) (w₂ : Puts o₁ p₁ height_piece o₂ p₂) where
      space3 : p₂ + length (free_piece ++ last) ≤ length o₂
      space3 = next_fits o₁ p₁ height_piece (free_piece ++ last) o₂ p₂ space2 w₂

      pub free-fits : p₂ + length free_piece ≤ length o₂
      free-fits = first_fits o₂ p₂ free_piece last space3

      module _ (o₃ : List ℕ) (p₃ : ℕ) (w₃ : Puts o₂ p₂ free_piece o₃ p₃) where
        pub end_fits : p₃ < length o₃
        end_fits = let a = next_fits o₂ p₂ free_piece last o₃ p₃ space3 w₃ in omega arith

        pub totals-put : Puts room 0 (totals n h f) (set o₃ p₃ 10) (p₃ + 1)
        totals-put = subst (λ (x : List ℕ). Puts room 0 x (set o₃ p₃ 10) (p₃ + 1)) (sym whole)
            (join room 0 entries_piece (height_piece ++ (free_piece ++ last)) o₁ p₁ (set o₃ p₃ 10) (p₃ + 1) space1 w₁
            (join o₁ p₁ height_piece (free_piece ++ last) o₂ p₂ (set o₃ p₃ 10) (p₃ + 1) space2 w₂
            (join o₂ p₂ free_piece last o₃ p₃ (set o₃ p₃ 10) (p₃ + 1) space3 w₃ (one o₃ p₃ 10 end_fits))))

-- the line of a refusal: number, line
module _ (r : Refusal) (l n : ℕ) (en : n ≡ number_of r) (room : List ℕ) (fits : length (refusal_line r l) ≤ length room) where
  abbrev number_piece : List ℕ
  number_piece = refused_is ++ decimal n

  abbrev line_piece : List ℕ
  line_piece = line_is ++ decimal l

  all : refusal_line r l ≡ number_piece ++ (line_piece ++ (10 ∷ []))
  all = told (decimal (number_of r)) (decimal l) ∙ ap (λ (m : ℕ). (refused_is ++ decimal m) ++ (line_piece ++ (10 ∷ []))) (sym en)
    where
      told : (x y : List ℕ) → refused_is ++ (x ++ (line_is ++ (y ++ (10 ∷ [])))) ≡ (refused_is ++ x) ++ ((line_is ++ y) ++ (10 ∷ []))
      told x y = refl

  place1 : 0 + length (number_piece ++ (line_piece ++ (10 ∷ []))) ≤ length room
  place1 = go (length (refusal_line r l)) (length (number_piece ++ (line_piece ++ (10 ∷ [])))) (ap length all) fits
    where
      go : (x y : ℕ) → x ≡ y → x ≤ length room → 0 + y ≤ length room
      go x y e h = omega arith

  module _ (o₁ : List ℕ) (p₁ : ℕ) (w₁ : Puts room 0 number_piece o₁ p₁) where
    place2 : p₁ + length (line_piece ++ (10 ∷ [])) ≤ length o₁
    place2 = next_fits room 0 number_piece (line_piece ++ (10 ∷ [])) o₁ p₁ place1 w₁

    pub line-fits : p₁ + length line_piece ≤ length o₁
    line-fits = first_fits o₁ p₁ line_piece (10 ∷ []) place2

    module _ (o₂ : List ℕ) (p₂ : ℕ) (w₂ : Puts o₁ p₁ line_piece o₂ p₂) where
      pub last_fits : p₂ < length o₂
      last_fits = let a = next_fits o₁ p₁ line_piece (10 ∷ []) o₂ p₂ place2 w₂ in omega arith

      pub refusal-put : Puts room 0 (refusal_line r l) (set o₂ p₂ 10) (p₂ + 1)
      refusal-put = subst (λ (x : List ℕ). Puts room 0 x (set o₂ p₂ 10) (p₂ + 1)) (sym all)
          (join room 0 number_piece (line_piece ++ (10 ∷ [])) o₁ p₁ (set o₂ p₂ 10) (p₂ + 1) place1 w₁
          (join o₁ p₁ line_piece (10 ∷ []) o₂ p₂ (set o₂ p₂ 10) (p₂ + 1) place2 w₂ (one o₂ p₂ 10 last_fits)))
