-- An entry line that is read strictly was so written, and what is written is read strictly; so it is the model's entry line.
use mathlib.Core.Path.{◌≡◌, refl, sym, ap, ap₂, ◌∙◌}
use mathlib.Core.List.{List, [], ◌∷◌, ◌++◌, append_assoc}
use mathlib.Core.Option.{none, some}
use mathlib.Core.Bool.{Bool, true, false, ◌&&◌}
use Prim.Native.Nat.{ℕ, zero, suc, ◌-◌, ◌≤◌, ◌<◌}
use native.Mathlib.Omega.{arith}
use lib.Dec.{eqb}
use lib.IntN.{ℤ, pos}
use lib.ListN.{length, take, replicate}
use borrow.Author.Tests.{eqb-false, eqb-true}
use Rattle.model.specs.Entry.{Entry}
use Rattle.model.specs.declared.Entry.{Entry as Four}
use Rattle.model.specs.Number.{in_range}
use Rattle.model.specs.Text.{ranged, signed}
use Rattle.model.proofs.Trees.{both, pair}
use Rattle.print.specs.Line.{end_byte_of, ended, pair_of}
use Rattle.text.specs.Strict.{Entirely, Signedly, closed, consed, line_at, number_at, pair_at}
use denote.Bor.{Bor}
use Rattle.std.proofs.Common.{Option as Maybe, Some, None}
use Rattle.std.specs.Option.{IfSome, IsSome, option_map}
use Rattle.text.specs.Told.{Filled, ReadBack, Standing, Stands, told}
use Rattle.text.proofs.Pairs.{closed_at, line_step, line-stop, open_at, right-at, wrong-at}
use Rattle.text.proofs.NumberBack.{number-complete, number-sound}
use Rattle.text.proofs.Readings.{not_none, unsome}
use Rattle.print.proofs.Rows.{ended-pairs}

-- a pair
closed-sound : (end : ℕ) (o : Signedly) (x : ℤ) (r : List ℕ) → closed end o ≡ some (x, r) → o ≡ some (x, end ∷ r)
unfolding closed
closed-sound end none x r e = not_none e
closed-sound end (some (y, [])) x r e = not_none e
closed-sound end (some (y, b ∷ s)) x r e = go (eqb b end) refl
  where
    go : (t : Bool) → eqb b end ≡ t → ◌≡◌ {A = Signedly} (some (y, b ∷ s)) (some (x, end ∷ r))
    go true q =
        let m = eqb-true b end q in
        let w : ◌≡◌ {A = ℤ × List ℕ} (y, s) (x, r) = unsome (sym (closed_at end y b s m) ∙ e) in
        ap {B = Signedly} (λ (d : ℤ × List ℕ). some (d.0, b ∷ d.1)) w ∙ ap {B = Signedly} (λ h. some (x, h ∷ r)) m
    go false q = not_none (sym (open_at end y b s (eqb-false b end q)) ∙ e)

pub pair-sound : (name end : ℕ) (bs : List ℕ) (x : ℤ) (r : List ℕ) → pair_at name end bs ≡ some (x, r) → (bs ≡ pair_of name x end ++ r) × (in_range x ≡ true)
unfolding pair_at
pair-sound name end [] x r e = not_none e
pair-sound name end (a ∷ []) x r e = not_none e
pair-sound name end (a ∷ b ∷ bs) x r e = go (eqb a name && eqb b 61) refl
  where
    go : (o : Bool) → (eqb a name && eqb b 61) ≡ o → (a ∷ b ∷ bs ≡ pair_of name x end ++ r) × (in_range x ≡ true)
    go true q =
        let t = both (eqb a name) (eqb b 61) q in
        let m = eqb-true a name t.0 in
        let n = eqb-true b 61 t.1 in
        let c = closed-sound end (number_at bs) x r (sym (right-at name end a b bs m n) ∙ e) in
        let w = number-sound bs x (end ∷ r) c in
        (rw (m, n) (ap (λ l. name ∷ 61 ∷ l) (w.0 ∙ sym (append_assoc (signed x) (end ∷ []) r))), w.1)
    go false q = not_none (sym (wrong-at name end a b bs q) ∙ e)

pub pair-complete : (name end : ℕ) (x : ℤ) (r : List ℕ) → end < 48 → in_range x ≡ true → pair_at name end (pair_of name x end ++ r) ≡ some (x, r)
pair-complete name end x r l h =
    ap (pair_at name end) (ap (λ s. name ∷ 61 ∷ s) (append_assoc (signed x) (end ∷ []) r))
    ∙ right-at name end name 61 (signed x ++ (end ∷ r)) refl refl
    ∙ ap (closed end) (number-complete x (end ∷ r) h l)
    ∙ closed_at end x end r refl

-- a line
end-stops : (n : ℕ) → end_byte_of (suc n) < 48
unfolding end_byte_of
end-stops zero = omega arith
end-stops (suc n) = omega arith

pub record Printed (k name : ℕ) (bs : List ℕ) (e : Entry) (r : List ℕ) : Type 0 where
  pub sized : length e ≡ k
  pub in_range : ranged e ≡ true
  pub is : bs ≡ ended name e ++ r

pub line-sound : (k name : ℕ) (bs : List ℕ) (e : Entry) (r : List ℕ) → line_at k name bs ≡ some (e, r) → Printed k name bs e r
unfolding line_at ended
line-sound zero name bs e r q =
    let w : ◌≡◌ {A = Entry × List ℕ} ([], bs) (e, r) = unsome q in
    let a : [] ≡ e = ap (λ (d : Entry × List ℕ). d.0) w in
    let b : bs ≡ r = ap (λ (d : Entry × List ℕ). d.1) w in
    rw (← a) record { sized = refl; in_range = refl; is = b }
line-sound (suc k) name bs e r q = go (pair_at name (end_byte_of (suc k)) bs) refl (line-sound k (suc name))
  where
    fit : (x : ℤ) (s : List ℕ) → pair_at name (end_byte_of (suc k)) bs ≡ some (x, s) → (o : Entirely) → consed x o ≡ some (e, r)
        → ((d : Entry) (t : List ℕ) → o ≡ some (d, t) → Printed k (suc name) s d t) → Printed (suc k) name bs e r
    fit x s p none z ih = not_none z
    fit x s p (some (d, t)) z ih =
        let w : ◌≡◌ {A = Entry × List ℕ} (x ∷ d, t) (e, r) = unsome z in
        let a : x ∷ d ≡ e = ap (λ (y : Entry × List ℕ). y.0) w in
        let b : t ≡ r = ap (λ (y : Entry × List ℕ). y.1) w in
        let i = ih d t refl in
        let u = pair-sound name (end_byte_of (suc k)) bs x s p in
        rw (← a, ← b)
        record {
          sized = ap suc i.sized;
          in_range = pair u.1 i.in_range;
          is = u.0 ∙ rw i.sized (ap (λ l. pair_of name x (end_byte_of (suc k)) ++ l) i.is ∙ sym (append_assoc (pair_of name x (end_byte_of (suc k))) (ended (suc name) d) t));
        }

    go : (o : Signedly) → pair_at name (end_byte_of (suc k)) bs ≡ o → ((cs : List ℕ) (d : Entry) (t : List ℕ) → line_at k (suc name) cs ≡ some (d, t) → Printed k (suc name) cs d t) → Printed (suc k) name bs e r
    go none p ih = not_none (sym (line-stop k name bs p) ∙ q)
    go (some (x, s)) p ih = fit x s p (line_at k (suc name) s) (sym (line_step k name bs x s p) ∙ q) (ih s)

pub line-complete : (e : Entry) (name : ℕ) (r : List ℕ) → ranged e ≡ true → line_at (length e) name (ended name e ++ r) ≡ some (e, r)
unfolding line_at ended
line-complete [] name r h = refl
line-complete (x ∷ xs) name r h =
    let t = both (in_range x) (ranged xs) h in
    let end = end_byte_of (suc (length xs)) in
    let rest = ended (suc name) xs ++ r in
    let p : pair_at name end ((pair_of name x end ++ ended (suc name) xs) ++ r) ≡ some (x, rest) =
    ap (pair_at name end) (append_assoc (pair_of name x end) (ended (suc name) xs) r) ∙ pair-complete name end x rest (end-stops (length xs)) t.0 in
    line_step (length xs) name ((pair_of name x end ++ ended (suc name) xs) ++ r) x rest p ∙ ap (consed x) (line-complete xs (suc name) r t.1)

-- the same by the model's print
pub stands-line : (k : ℕ) (bs : List ℕ) (e : Entry) (rest : List ℕ) → 1 ≤ k → Stands bs k e rest → line_at k 97 bs ≡ some (e, rest)
stands-line k bs [] rest h s = let n : 0 ≡ k = s.sized in absurd (omega arith)
stands-line k bs (x ∷ xs) rest h s =
    rw (← s.sized, s.printed) (ap (line_at (suc (length xs)) 97) (ended-pairs 97 x xs rest) ∙ line-complete (x ∷ xs) 97 rest s.in_range)

pub line-stands : (k : ℕ) (bs : List ℕ) (e : Entry) (rest : List ℕ) → 1 ≤ k → line_at k 97 bs ≡ some (e, rest) → Stands bs k e rest
line-stands k bs e rest h q = go e (line-sound k 97 bs e rest q)
  where
    go : (d : Entry) → Printed k 97 bs d rest → Stands bs k d rest
    go [] p = let n : 0 ≡ k = p.sized in absurd (omega arith)
    go (x ∷ xs) p = record { printed = p.is ∙ sym (ended-pairs 97 x xs rest); sized = p.sized; in_range = p.in_range }

abbrev four : List ℤ → Four
four f = record { f = f }

-- reading where a line stands gives its entry
module _ (text : List ℕ) (k : ℕ) (h : 1 ≤ k) where
  pub read_some : (r : Maybe (List ℤ × Bor (List ℕ))) → told (option_map (λ l. (take k l.0, l.1)) r) ≡ line_at k 97 text → Standing text k → IsSome r
  read_some None l s = not_none (l ∙ stands-line k text s.entry s.rest h s.stands)
  read_some (Some x) l s = refl

  pub entry_read : (r : Maybe (List ℤ × Bor (List ℕ))) (x : List ℤ × Bor (List ℕ)) → r ≡ Some x
      → told (option_map (λ l. (take k l.0, l.1)) r) ≡ line_at k 97 text → IfSome r (λ l. Filled k l.0)
      → (e : Entry) (rest : List ℕ) → Stands text k e rest → ReadBack (four x.0, x.1) e rest
  entry_read None x z l g e rest s = cc
  entry_read (Some y) x z l g e rest s =
      let w : ◌≡◌ {A = Entry × List ℕ} (take k y.0, y.1.now) (e, rest) = unsome (l ∙ stands-line k text e rest h s) in
      let q : y ≡ x = cc in
      rw (← q) record {
        entry = ap four (g.zeros ∙ ap₂ (λ a n. a ++ replicate (4 - n) (pos 0)) (ap (λ (d : Entry × List ℕ). d.0) w) (sym s.sized));
        left = ap (λ (d : Entry × List ℕ). d.1) w;
      }
