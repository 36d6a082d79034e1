-- Adding what was not there before the call is adding line by line what is not yet there.
use mathlib.Core.Path.{◌≡◌, refl, sym, ap, ◌∙◌}
use mathlib.Core.List.{List, [], ◌∷◌}
use mathlib.Core.Option.{none}
use mathlib.Core.Bool.{Bool, true, false}
use Prim.Native.Nat.{ℕ, suc, ◌+◌, ◌≤◌, ◌<◌}
use native.Mathlib.Omega.{arith}
use lib.ListN.{length}
use Rattle.model.specs.Ask.{has, new_of}
use Rattle.model.specs.Book.{Book, added}
use Rattle.model.specs.Calls.{added_all}
use Rattle.model.specs.Entry.{Entry}
use Rattle.model.specs.Laws.{Linewise, added_each}
use Rattle.model.specs.Plain.{within}
use Rattle.model.specs.Rebuild.{listing}
use Rattle.model.specs.Tree.{size}
use Rattle.model.proofs.Books.{Valid}
use Rattle.model.proofs.Exactly.{has-every, in_order-valid}
use Rattle.model.proofs.Goods.{every-within, more, within-length}
use Rattle.model.proofs.Listings.{false-has, has-false, has-true, listing-length, true-has}
use Rattle.model.proofs.Lists.{Every, OnceEach, every_map}
use Rattle.model.proofs.Ranks.{Unlike}
use Rattle.model.proofs.Returned.{within-less}
use Rattle.model.proofs.Returning.{rise-of}
use Rattle.model.proofs.Texts.{rise-once}

-- another entry is there or not, whatever is put in
has_other : (x e : Entry) (es : List Entry) → Unlike x e → has x (within e es) ≡ has x es
has_other x e es u = go (has x es) refl
  where
    go : (o : Bool) → has x es ≡ o → has x (within e es) ≡ has x es
    go true q = true-has x (within e es) (λ k. has-true x es q (within-less (Unlike x) e es k)) ∙ sym q
    go false q = false-has x (within e es) (every-within (Unlike x) e es u (has-false x es q)) ∙ sym q

new-same : (a b es : List Entry) → Every (λ x. has x a ≡ has x b) es → new_of a es ≡ new_of b es
new-same a b [] h = refl
new-same a b (e ∷ es) (h, hs) = go (has e b) refl (new-same a b es hs)
  where
    go : (o : Bool) → has e b ≡ o → new_of a es ≡ new_of b es → new_of a (e ∷ es) ≡ new_of b (e ∷ es)
    go true q ih = rw (h, q, new_of) ih
    go false q ih = rw (h, q, new_of) (ap (λ y. e ∷ y) ih)

pub new-there : (held : List Entry) (e : Entry) (es : List Entry) → has e held ≡ true → new_of held (e ∷ es) ≡ new_of held es
new-there held e es q = rw (q, new_of) refl

pub new-not : (held : List Entry) (e : Entry) (es : List Entry) → has e held ≡ false → new_of held (e ∷ es) ≡ e ∷ new_of held es
new-not held e es q = rw (q, new_of) refl

pub each-there : (e : Entry) (es : List Entry) (b : Book) → has e (listing b.tree) ≡ true → added_each (e ∷ es) b ≡ added_each es b
each-there e es b q = rw (q, added_each) refl

pub each-not : (e : Entry) (es : List Entry) (b : Book) → has e (listing b.tree) ≡ false → added_each (e ∷ es) b ≡ added_each es (added e b)
each-not e es b q = rw (q, added_each) refl

-- an entry that is put in is new no more, and leaves the others as they were
put-new : (K C : ℕ) (e : Entry) (es : List Entry) (b : Book) → Valid K C b → length e ≡ K → Every (λ y. ¬ (e ≡ y)) es → has e (listing b.tree) ≡ false → size b.tree < C
    → Valid K C (added e b) × (new_of (listing (added e b).tree) es ≡ new_of (listing b.tree) es) × (size (added e b).tree ≡ suc (size b.tree))
put-new K C e es b v n o q h =
    let u = has-false e (listing b.tree) q in
    let x = more K C b e v n u h in
    let l0 : length (listing b.tree) ≡ size b.tree = listing-length b.tree in
    let l1 : length (listing (added e b).tree) ≡ size (added e b).tree = listing-length (added e b).tree in
    let l2 : length (listing (added e b).tree) ≡ suc (length (listing b.tree)) = ap length x.1 ∙ within-length e (listing b.tree) u in (
      x.0,
      new-same (listing (added e b).tree) (listing b.tree) es (every_map (λ y. ¬ (e ≡ y)) (λ y. has y (listing (added e b).tree) ≡ has y (listing b.tree)) (λ y z. rw x.1 (has_other y e (listing b.tree) (λ w. z (sym w)))) es o),
      (let r : size (added e b).tree ≡ suc (size b.tree) = omega arith in r),
    )

-- the first line, and then the others: they still fit
pub each_first : (e : Entry) (es : List Entry) (b : Book) → added_each (e ∷ es) b ≡ added_each es (added_each (e ∷ []) b)
each_first e es b = go (has e (listing b.tree)) refl
  where
    go : (x : Bool) → has e (listing b.tree) ≡ x → added_each (e ∷ es) b ≡ added_each es (added_each (e ∷ []) b)
    go true q = each-there e es b q ∙ ap (added_each es) (sym (each-there e [] b q))
    go false q = each-not e es b q ∙ ap (added_each es) (sym (each-not e [] b q))

pub each_fits : (K C : ℕ) (e : Entry) (es : List Entry) (b : Book) → Valid K C b → length e ≡ K → Every (λ y. ¬ (e ≡ y)) es → size b.tree + length (new_of (listing b.tree) (e ∷ es)) ≤ C
    → Valid K C (added_each (e ∷ []) b) × (size (added_each (e ∷ []) b).tree + length (new_of (listing (added_each (e ∷ []) b).tree) es) ≤ C)
each_fits K C e es b v n o h = go (has e (listing b.tree)) refl
  where
    go : (x : Bool) → has e (listing b.tree) ≡ x → Valid K C (added_each (e ∷ []) b) × (size (added_each (e ∷ []) b).tree + length (new_of (listing (added_each (e ∷ []) b).tree) es) ≤ C)
    go true q = rw (each-there e [] b q) (v, (rw (new-there (listing b.tree) e es q) at h))
    go false q =
        let k : size b.tree + suc (length (new_of (listing b.tree) es)) ≤ C = rw (new-not (listing b.tree) e es q) at h in
        let x = put-new K C e es b v n o q (omega arith) in
        let s = ap length x.1 in
        let l = x.2 in
        rw (each-not e [] b q) (x.0, (let r : size (added e b).tree + length (new_of (listing (added e b).tree) es) ≤ C = omega arith in r))

-- an entry that is new finds a free slot
pub each-room : (C : ℕ) (e : Entry) (es : List Entry) (b : Book) → size b.tree + length (new_of (listing b.tree) (e ∷ es)) ≤ C → has e (listing b.tree) ≡ false → size b.tree < C
each-room C e es b h q = let k : size b.tree + suc (length (new_of (listing b.tree) es)) ≤ C = rw (new-not (listing b.tree) e es q) at h in omega arith

pub each_same : (K C : ℕ) (es : List Entry) (b : Book) → Valid K C b → Every (λ e. length e ≡ K) es → OnceEach es → size b.tree + length (new_of (listing b.tree) es) ≤ C → added_all (new_of (listing b.tree) es) b ≡ added_each es b
each_same K C [] b v n o h = refl
each_same K C (e ∷ es) b v (n, ns) (o, os) h = go (has e (listing b.tree)) refl (each_same K C es b v ns os) (λ w k. each_same K C es (added e b) w ns os k)
  where
    go : (x : Bool) → has e (listing b.tree) ≡ x
        → (size b.tree + length (new_of (listing b.tree) es) ≤ C → added_all (new_of (listing b.tree) es) b ≡ added_each es b)
        → (Valid K C (added e b) → size (added e b).tree + length (new_of (listing (added e b).tree) es) ≤ C → added_all (new_of (listing (added e b).tree) es) (added e b) ≡ added_each es (added e b))
        → added_all (new_of (listing b.tree) (e ∷ es)) b ≡ added_each (e ∷ es) b
    go true q f g =
        let t = new-there (listing b.tree) e es q in
        ap (λ x. added_all x b) t ∙ f (rw t at h) ∙ sym (each-there e es b q)
    go false q f g =
        let t = new-not (listing b.tree) e es q in
        let k : size b.tree + suc (length (new_of (listing b.tree) es)) ≤ C = rw t at h in
        let x = put-new K C e es b v n o q (omega arith) in
        let s = x.1 in
        let l = x.2 in
        let m = ap length s in
        ap (λ y. added_all y b) t ∙ ap (λ y. added_all y (added e b)) (sym s) ∙ g x.0 (omega arith) ∙ sym (each-not e es b q)

pub linewise : (K C : ℕ) (b : Book) (es : List Entry) → Linewise K C b es
linewise K C b es = record { same = λ o n r h. each_same K C es b (in_order-valid K C b o) (has-every (λ e. length e ≡ K) es n) (rise-once none es (rise-of none es r)) h }
