-- The edges: what is amid them is inside the bounds, and one set with its bound.
use mathlib.Core.Path.{◌≡◌, refl, sym, ◌∙◌}
use mathlib.Core.Bool.{Bool, true}
use mathlib.Core.List.{List}
use Prim.Native.Nat.{Ordering}
use Prim.Native.Nat.{ℕ, ◌≤◌, ◌<◌}
use native.Mathlib.Omega.{arith}
use lib.ListN.{length, get_or, set, length-set, replicate}
use lib.Seq.{drop-cons, get_or-set_same, get_or-set_other}
use lib.IntN.{ℤ, pos}
use Rattle.model.specs.Entry.{Entry, cmp, cut_field, lex, super_key}
use Rattle.model.specs.Number.{order}
use Rattle.model.specs.declared.Shape.{Shape}
use Rattle.cells.specs.Slots.{Room, Slot, numbers_of}
use Rattle.cells.proofs.Slots.{numbers-long}
use Rattle.sound.specs.Parts.{Tells}
use Rattle.sound.specs.Tree.{Side, low, high, place, Beyond, Within, Inside, BoundsIn, Amid, Edged}
use Rattle.sound.proofs.Marks.{cut_below, is-keyed, slot-long, tells-yes}
use Rattle.sound.proofs.Bounds.{place_in, place-one, same, zeros-at}

-- the cut field decides where it differs
ahead : (a b : Entry) (c t : ℕ) → c < length a → length a ≡ length b → cut_field (length a) t ≡ c → order (get_or a c (pos 0)) (get_or b c (pos 0)) ≡ Ordering.lt → cmp t a b ≡ Ordering.lt
unfolding cmp super_key
ahead a b c t h n q e = let k : c < length b = omega arith in rw (← n, q, drop-cons a c (pos 0), drop-cons b c (pos 0), e, lex) refl

-- ---- `enclosed`: amid the edges is inside the bounds

module _ (S : Shape) (ks : List ℤ) (nl s : ℕ) (bs : List ℕ) (es : List ℤ) (room : Room S (length ks) nl) (slot : Slot nl s) (fits : BoundsIn S.c bs) (edged : Edged S.k ks bs es) where
  abbrev K : ℕ
  K = S.k

  abbrev E : Entry
  E = numbers_of K ks s

  long : length E ≡ K
  long = slot-long S ks nl s room slot

  abbrev bound : Side → ℕ → ℕ
  bound d t = get_or bs (place d (cut_field K t)) 0

  held : Amid K es E → (d : Side) (t : ℕ) → Within K ks bs E d t
  held x d t n = go d n
    where
      below : cut_field K t < K
      below = cut_below K t room.k_low

      len : (d : Side) → ¬ (bound d t ≡ 0) → length (numbers_of K ks (bound d t)) ≡ K
      len d n = numbers-long K ks (bound d t) (is-keyed S (length ks) nl room (bound d t) n (fits.fits (place d (cut_field K t))))

      go : (d : Side) → ¬ (bound d t ≡ 0) → Beyond d t (numbers_of K ks (bound d t)) E
      go low n = ahead (numbers_of K ks (bound low t)) E (cut_field K t) t (rw (len low n) below) (len low n ∙ sym long) (rw (len low n) refl) (rw (edged.edge low (cut_field K t) below n) at (x.between (cut_field K t) below).0)
      go high n = ahead E (numbers_of K ks (bound high t)) (cut_field K t) t (rw long below) (long ∙ sym (len high n)) (rw long refl) (rw (edged.edge high (cut_field K t) below n) at (x.between (cut_field K t) below).1)

  pub amid-inside : (o : Bool) → Tells (Amid K es E) o → o ≡ true → Tells (Inside K ks bs E) true
  amid-inside o v e = tells-yes (Inside K ks bs E) (record { long = long; within = held (v.good e) })

-- ---- one edge set with its bound

pub edged-set : (d : Side) (K : ℕ) (ks : List ℤ) (bs : List ℕ) (es : List ℤ) (c s : ℕ) (x : ℤ) → K ≤ 4 → c < K → length bs ≡ 8 → x ≡ get_or (numbers_of K ks s) c (pos 0) → Edged K ks bs es → Edged K ks (set bs (place d c) s) (set es (place d c) x)
edged-set d K ks bs es c s x four lt eight ex h = record { eight = length-set es (place d c) x ∙ h.eight; edge = λ e i l n. go e i l (same (place e i) (place d c)) n }
  where
    in_b : place d c < length bs
    in_b = let p : place d c < 8 = place_in d c (omega arith) in omega arith

    in_e : place d c < length es
    in_e = let p : place d c < 8 = place_in d c (omega arith) in let q = h.eight in omega arith

    go : (e : Side) (i : ℕ) → i < K → Dec (place e i ≡ place d c) → ¬ (get_or (set bs (place d c) s) (place e i) 0 ≡ 0) → get_or (set es (place d c) x) (place e i) (pos 0) ≡ get_or (numbers_of K ks (get_or (set bs (place d c) s) (place e i) 0)) i (pos 0)
    go e i l (yes q) n =
        let w = place-one e d i c (omega arith) (omega arith) q in
        rw (q, w.1, get_or-set_same es (place d c) x (pos 0) in_e, get_or-set_same bs (place d c) s 0 in_b) ex
    go e i l (no q) n =
        let b = get_or-set_other bs (place d c) (place e i) s 0 q in
        rw (get_or-set_other es (place d c) (place e i) x (pos 0) q, b) (h.edge e i l (λ z. n (b ∙ z)))

pub open-edged : (K : ℕ) (ks es : List ℤ) → length es ≡ 8 → Edged K ks (replicate 8 0) es
open-edged K ks es h = record { eight = h; edge = λ d c l n. absurd (n (zeros-at (place d c) 8)) }
