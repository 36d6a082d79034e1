-- The laws of the tree, the nearest and the text, as claimed.
use mathlib.Core.Path.{◌≡◌, refl}
use mathlib.Core.List.{List, [], ◌∷◌}
use mathlib.Core.Option.{none, some}
use mathlib.Core.Bool.{true}
use Prim.Native.Nat.{Ordering}
use Prim.Native.Nat.{ℕ, ◌≤◌}
use native.Mathlib.Omega.{arith}
use lib.ListN.{length}
use Rattle.model.specs.Ask.{has}
use Rattle.model.specs.Book.{Book, added, struck}
use Rattle.model.specs.Entry.{Entry, cmp, distance}
use Rattle.model.specs.Laws.{Adds, Heights, Nearest, Rebuilds, Strikes, Texts}
use Rattle.model.specs.Rebuild.{listing, rank, rebuild}
use Rattle.model.specs.Text.{ranged}
use Rattle.model.specs.Tree.{Item, entries_of}
use Rattle.model.proofs.Adds.{insert-perm, item_at}
use Rattle.model.proofs.Books.{add-valid, strike-valid}
use Rattle.model.proofs.Exactly.{has-every, in_order-valid, valid-in_order}
use Rattle.model.proofs.FirstBad.{broken-first, saved-right}
use Rattle.model.proofs.Heights.{balanced-height, balanced-size, rebuild-balanced}
use Rattle.model.proofs.Listings.{all-listing, every-has, has-false, has-true, listing-all, true-has}
use Rattle.model.proofs.Lists.{OnceEach}
use Rattle.model.proofs.Nears.{AsGood, nearest-by}
use Rattle.model.proofs.Ranks.{Distinct, Unlike, perm-distinct, rank-perm, rebuild-ordered, rebuild-perm}
use Rattle.model.proofs.Returning.{rise-of}
use Rattle.model.proofs.Sides.{There}
use Rattle.model.proofs.Strikes.{entries-perm, of-entries, slots-perm, strike-entries, strike-slots}
use Rattle.model.proofs.Tallest.{attained, rebuild-least, tallest-16}
use Rattle.model.proofs.Texts.{RiseFrom, only-saved, rise-once, saved-back}
use Rattle.model.proofs.Trees.{balanced-true, true-balanced, true-ordered}

pub add_once : (K C : ℕ) (b : Book) (e : Entry) (s : ℕ) (ss : List ℕ) → Adds K C b e s ss
unfolding added
add_once K C b e s ss =
    record {
      once = λ o n h c.
          let v = in_order-valid K C b o in
          let a = all-listing (Unlike e) b.tree (has-false e (listing b.tree) h) in
          let p = insert-perm 0 (item_at s e) b.tree a in (
            valid-in_order K C (added e b) (add-valid K C e b s ss v n a c),
            rw c (entries-perm p),
            rw c (slots-perm p),
            rw c refl,
          );
    }

pub strike-once : (K C : ℕ) (b : Book) (e : Entry) → Strikes K C b e
unfolding struck
strike-once K C b e =
    record {
      once = λ o h.
          let v = in_order-valid K C b o in
          let t : There e b.tree = λ a. has-true e (listing b.tree) h (listing-all (Unlike e) b.tree a) in (
            valid-in_order K C (struck e b) (strike-valid K C e b v t),
            strike-entries 0 e b.tree v.ordered t,
            strike-slots 0 e b.tree v.ordered t,
            refl,
          );
    }

-- items whose entries rise, once ranked, are all different
rise-distinct : (is : List Item) → RiseFrom none (entries_of (rank 0 is)) → Distinct is
rise-distinct is r = perm-distinct (rank-perm 0 is) (once-distinct (rank 0 is) (rise-once none (entries_of (rank 0 is)) r))
  where
    once-distinct : (js : List Item) → OnceEach (entries_of js) → Distinct js
    once-distinct [] h = tt
    once-distinct (j ∷ js) (h, hs) = (of-entries (Unlike j.entry) js h, once-distinct js hs)

pub rebuilds : (t : ℕ) (is : List Item) → Rebuilds t is
rebuilds t is = record { same = rebuild-perm t is; order = λ r. true-ordered t (rebuild t is) (rebuild-ordered t is (rise-distinct is (rise-of none (entries_of (rank 0 is)) r))); balance = true-balanced (rebuild t is) (rebuild-balanced t is); least = rebuild-least t is }

pub heights : (n : ℕ) → Heights n
heights n =
    record {
      fewest_of = λ u b. balanced-size u (balanced-true u b);
      passed = λ u b e. rw e at (balanced-height u (balanced-true u b));
      attained = (let a = attained n in (a.tree, a.many, a.high, true-balanced a.tree a.balanced, true-ordered 0 a.tree a.ordered));
      sixteen = tallest-16 n;
    }

pub nearest-best : (steps : List ℕ) (q : Entry) (es : List Entry) → Nearest steps q es
nearest-best steps q es =
    record {
      empty = nearest-by (λ o. o ≡ none → es ≡ []) steps q es (λ z e. z) (λ e b o. let z : ◌≡◌ {A = ℕ} 0 1 = cc in absurd (omega arith));
      best = λ e. nearest-by (λ o. o ≡ some e → (has e es ≡ true) × ((x : Entry) → has x es ≡ true → (distance steps q e ≤ distance steps q x) × (distance steps q e ≡ distance steps q x → ¬ (cmp 0 x e ≡ Ordering.lt)))) steps q es
          (λ z o. let n : ◌≡◌ {A = ℕ} 0 1 = cc in absurd (omega arith))
          (λ d b o.
          let w : d ≡ e = cc in
          rw (← w) (true-has d es b.0, λ x h. (let g = every-has (AsGood steps q d) x es b.1 h in (g.near, g.tie))));
    }

pub texts : (text : List ℕ) → Texts text
texts text =
    record {
      back = λ K es a b c f r.
          saved-back K es a b c
          (record { sized = has-every (λ e. length e ≡ K) es (λ e h. (f e h).0); ranged = has-every (λ e. ranged e ≡ true) es (λ e h. (f e h).1); rising = rise-of none es r });
      only = λ K es e. (only-saved text K es e).printed;
      line = broken-first text;
      whole = λ K es e. saved-right text K es e;
    }
