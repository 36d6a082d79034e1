-- The memory of a book in order passes rows 1 to 4.
use mathlib.Core.Path.{◌≡◌, refl, sym, ap, ◌∙◌}
use mathlib.Core.List.{List, [], ◌∷◌, ◌++◌}
use mathlib.Core.Bool.{Bool, true, false, not, ◌&&◌}
use Prim.Native.Nat.{ℕ, suc, ◌+◌, ◌*◌, ◌≤◌}
use native.Mathlib.Omega.{arith}
use native.Mathlib.Nat.{mul-suc, mul-zero}
use lib.Dec.{leb, eqb}
use lib.ListN.{length, length-append}
use borrow.Author.Tests.{eq-eqb, le-leb}
use Rattle.model.specs.Answer.{Row, gate}
use Rattle.model.specs.Book.{Book, cell, head_of, key_cells, keys, link_cells, links, up_from}
use Rattle.model.specs.Gate.{rows3, rows4, rows4s, sized}
use Rattle.model.specs.Pool.{sound}
use Rattle.model.proofs.Backs.{image-sound}
use Rattle.model.proofs.Books.{Valid}
use Rattle.model.proofs.Crowd.{up-length}
use Rattle.model.proofs.Gates.{gate-off, gate-under}
use Rattle.model.proofs.Images.{cell-size}
use Rattle.model.proofs.Trees.{All, pair}
use Rattle.model.specs.declared.Refusal.TheVariants.{Capacity, Fields, Lengths, Unsound}

links-long : (K : ℕ) (b : Book) (ss : List ℕ) → length (link_cells K b ss) ≡ 3 * length ss
links-long K b [] = refl
links-long K b (s ∷ ss) = let e : length (link_cells K b ss) ≡ 3 * length ss = links-long K b ss in omega arith

pub links-length : (K C : ℕ) (b : Book) → length (links K C b) ≡ 3 * C
unfolding links
links-length K C b = links-long K b (up_from C 1) ∙ ap (λ n. 3 * n) (up-length C 1)

keys-long : (K : ℕ) (b : Book) → ((s : ℕ) → length (cell K b s).key ≡ K) → (ss : List ℕ) → length (key_cells K b ss) ≡ K * length ss
keys-long K b w [] = sym (mul-zero K)
keys-long K b w (s ∷ ss) =
    let e : length (key_cells K b ss) ≡ K * length ss = keys-long K b w ss in
    let m : K * suc (length ss) ≡ K + K * length ss = mul-suc K (length ss) ∙ omega arith in
    let n : length (cell K b s).key ≡ K = w s in
    rw (length-append (cell K b s).key (key_cells K b ss), m) (omega arith)

pub keys_length : (K C : ℕ) (b : Book) → All (λ e. length e ≡ K) b.tree → length (keys K C b) ≡ K * C
unfolding keys
keys_length K C b a = keys-long K b (cell-size K b a) (up_from C 1) ∙ ap (λ n. K * n) (up-length C 1)

-- the fields and the capacity that a book may have
pub record Fit (K C : ℕ) : Type 0 where
  pub k_low : 1 ≤ K
  pub k_high : K ≤ 4
  pub c_low : 1 ≤ C
  pub c_high : C ≤ 4096

pub pass3 : (K C : ℕ) → Fit K C → (ok : Bool) (cs : List Row) → gate (rows3 K C ok ++ cs) ≡ gate ((not ok, Lengths) ∷ cs)
pass3 K C fit ok cs =
    let r3 : List Row = (not ok, Lengths) ∷ cs in
    let r2 : List Row = (not (leb 1 C && leb C 4096), Capacity) ∷ r3 in
    gate-off (not (leb 1 K && leb K 4)) Fields r2 (ap not (pair (le-leb 1 K fit.k_low) (le-leb K 4 fit.k_high)))
    ∙ gate-off (not (leb 1 C && leb C 4096)) Capacity r3 (ap not (pair (le-leb 1 C fit.c_low) (le-leb C 4096 fit.c_high)))

module _ (K C : ℕ) (b : Book) (fit : Fit K C) (v : Valid K C b) where
  pub image-sized : sized K C (keys K C b) (links K C b) ≡ true
  image-sized = pair (eq-eqb (length (keys K C b)) (K * C) (keys_length K C b v.sized)) (eq-eqb (length (links K C b)) (3 * C) (links-length K C b))

  pub pass-sized : (cs : List Row) → gate (rows3 K C (sized K C (keys K C b) (links K C b)) ++ cs) ≡ gate cs
  pass-sized cs = pass3 K C fit (sized K C (keys K C b) (links K C b)) cs ∙ gate-off (not (sized K C (keys K C b) (links K C b))) Lengths cs (ap not image-sized)

  is-sound4 : not (sound (head_of K C b) (keys K C b) (links K C b)) ≡ false
  is-sound4 = ap not (image-sound K C b v)

  pub pass4 : (cs : List Row) → gate (rows4 (head_of K C b) (keys K C b) (links K C b) ++ cs) ≡ gate cs
  unfolding head_of
  pass4 cs =
      let s : Bool = not (sound (head_of K C b) (keys K C b) (links K C b)) in
      pass-sized ((s, Unsound) ∷ cs) ∙ gate-off s Unsound cs is-sound4

  -- with a scratch, its length alone is left to be checked
  pub pass4s : (sc : List ℕ) (cs : List Row) → gate (rows4s (head_of K C b) (keys K C b) (links K C b) sc ++ cs) ≡ gate ((not (eqb (length sc) C), Lengths) ∷ cs)
  unfolding head_of
  pass4s sc cs =
      let s : Bool = not (sound (head_of K C b) (keys K C b) (links K C b)) in
      let t : Bool = sized K C (keys K C b) (links K C b) && eqb (length sc) C in
      pass3 K C fit t ((s, Unsound) ∷ cs)
      ∙ gate-under (not t) Lengths ((s, Unsound) ∷ cs) cs (gate-off s Unsound cs is-sound4)
      ∙ ap (λ x. gate ((not (x && eqb (length sc) C), Lengths) ∷ cs)) image-sized
