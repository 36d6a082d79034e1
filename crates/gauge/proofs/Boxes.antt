-- Distances and boxes, field by field from the front.
use Rattle.std.proofs.Common.{◌≡◌, ℕ, ◌^◌, ◌<◌, max, true, ◌&&◌, List, [], ◌∷◌, length, take, ℤ, pos, negsuc, sym, refl, ap, ◌∙◌, arith, w64, to_z, of_z}
use lib.Dec.{is_le}
use lib.Signed.{mag, le_z}
use Rattle.model.specs.Number.{order, distance_of_field}
use Rattle.model.specs.Entry.{Entry, distance}
use Rattle.model.specs.Ask.{holds, in_box}
use Rattle.model.specs.declared.Bound.{Bound}
use Rattle.model.proofs.Machine.{back}

-- one field and the rest; past the last of the steps, of the one entry and of the other nothing is far
pub dist-cons : (s : ℕ) (ss : List ℕ) (x : ℤ) (f : Entry) (y : ℤ) (p : Entry) → distance (s ∷ ss) (x ∷ f) (y ∷ p) ≡ max (distance_of_field s x y) (distance ss f p)
unfolding distance
dist-cons s ss x f y p = refl

pub no-step : (ss : List ℕ) (f p : Entry) → length ss ≡ 0 → distance ss f p ≡ 0
unfolding distance
no-step [] [] p h = refl
no-step [] (x ∷ f) p h = refl
no-step (s ∷ ss) f p h = absurd (omega arith)

pub no-field : (ss : List ℕ) (f p : Entry) → length f ≡ 0 → distance ss f p ≡ 0
unfolding distance
no-field [] [] p h = refl
no-field (s ∷ ss) [] p h = refl
no-field ss (x ∷ f) p h = absurd (omega arith)

pub no-number : (ss : List ℕ) (f p : Entry) → length p ≡ 0 → distance ss f p ≡ 0
unfolding distance
no-number [] [] [] h = refl
no-number [] (x ∷ f) [] h = refl
no-number (s ∷ ss) [] [] h = refl
no-number (s ∷ ss) (x ∷ f) [] h = refl
no-number ss f (y ∷ p) h = absurd (omega arith)

-- numbers beyond the part do not count
pub dist-front : (ss : List ℕ) (f p : Entry) → distance ss (take (length p) f) p ≡ distance ss f p
unfolding distance
dist-front ss f [] = no-number ss (take 0 f) [] refl ∙ sym (no-number ss f [] refl)
dist-front [] [] (y ∷ p) = refl
dist-front [] (x ∷ f) (y ∷ p) = refl
dist-front (s ∷ ss) [] (y ∷ p) = refl
dist-front (s ∷ ss) (x ∷ f) (y ∷ p) = ap (max (distance_of_field s x y)) (dist-front ss f p)

-- bounds: the machine's test is the definition's
le_order : (x y : ℤ) → le_z x y ≡ is_le (order x y)
le_order (pos a) (pos b) = refl
le_order (pos a) (negsuc b) = refl
le_order (negsuc a) (pos b) = refl
le_order (negsuc a) (negsuc b) = refl

pub le_back : (x y : ℤ) → mag x < 2 ^ 63 → mag y < 2 ^ 63 → le_z (to_z w64 (of_z w64 x)) (to_z w64 (of_z w64 y)) ≡ is_le (order x y)
le_back x y p q = rw (back x p, back y q) (le_order x y)

-- one number and the rest; past the last bound and past the last number nothing is shut out
pub box-cons : (b : Bound) (bs : List Bound) (x : ℤ) (p : Entry) → in_box (b ∷ bs) (x ∷ p) ≡ (holds b x && in_box bs p)
unfolding in_box
box-cons b bs x p = refl

pub no-bound : (bs : List Bound) (p : Entry) → length bs ≡ 0 → in_box bs p ≡ true
unfolding in_box
no-bound [] [] h = refl
no-bound [] (x ∷ p) h = refl
no-bound (b ∷ bs) p h = absurd (omega arith)

pub no-more : (bs : List Bound) (p : Entry) → length p ≡ 0 → in_box bs p ≡ true
unfolding in_box
no-more [] [] h = refl
no-more (b ∷ bs) [] h = refl
no-more bs (x ∷ p) h = absurd (omega arith)
