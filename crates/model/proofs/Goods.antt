-- States that a run can reach: the memory of a book in order which holds the plain set; one entry more, one less, many more.
use mathlib.Core.Path.{◌≡◌, refl, sym, ap, ◌∙◌}
use mathlib.Core.List.{List, [], ◌∷◌}
use mathlib.Core.Bool.{Bool, true, false}
use Prim.Native.Nat.{ℕ, suc, ◌+◌, ◌≤◌, ◌<◌, Ordering}
use native.Mathlib.Omega.{arith}
use lib.ListN.{length}
use Rattle.model.specs.Ask.{has, new_of}
use Rattle.model.specs.Book.{Book, added, first, head_of, keys, links, struck}
use Rattle.model.specs.Calls.{added_all}
use Rattle.model.specs.Entry.{Entry, cmp}
use Rattle.model.specs.Plain.{within, within_all, without}
use Rattle.model.specs.Rebuild.{listing}
use Rattle.model.specs.Runs.{State}
use Rattle.model.specs.Tree.{size}
use Rattle.model.proofs.Backs.{valid-size}
use Rattle.model.proofs.Books.{Valid, add-valid, strike-valid}
use Rattle.model.proofs.Listings.{all-listing, has-false, listing-insert, listing-length, listing-strike}
use Rattle.model.proofs.Lists.{Every, OnceEach, every-both}
use Rattle.model.proofs.Orders.{cmp-eq}
use Rattle.model.proofs.Ranks.{Unlike, gt→lt}
use Rattle.model.proofs.Sides.{There}
use Rattle.model.proofs.Trees.{All, Less}

abbrev pub image : ℕ → ℕ → Book → State
image K C b = record { head = head_of K C b; keys = keys K C b; links = links K C b }

pub record Good (K C : ℕ) (s : State) (es : List Entry) : Type 0 where
  pub book : Book
  pub valid : Valid K C book
  pub same : s ≡ image K C book
  pub holds : listing book.tree ≡ es

-- a chain that is not empty
chain-cons : {X : Type 0} (cs : List ℕ) → 1 ≤ length cs → ((s : ℕ) (ss : List ℕ) → cs ≡ s ∷ ss → X) → X
chain-cons [] h f = absurd (omega arith)
chain-cons (c ∷ cs) h f = f c cs refl

-- one entry more
pub more : (K C : ℕ) (b : Book) (e : Entry) → Valid K C b → length e ≡ K → Every (Unlike e) (listing b.tree) → size b.tree < C → Valid K C (added e b) × (listing (added e b).tree ≡ within e (listing b.tree))
unfolding added
more K C b e v n u h =
    let m : size b.tree + length b.chain ≡ C = valid-size K C b v in
    let a : All (Unlike e) b.tree = all-listing (Unlike e) b.tree u in
    (chain-cons b.chain (omega arith) (λ s ss q. add-valid K C e b s ss v n a q), listing-insert (first b.chain) e b.tree v.ordered a)

-- one entry less
pub fewer : (K C : ℕ) (b : Book) (e : Entry) → Valid K C b → There e b.tree → Valid K C (struck e b) × (listing (struck e b).tree ≡ without e (listing b.tree))
unfolding struck
fewer K C b e v h = (strike-valid K C e b v h, listing-strike e b.tree v.ordered h)

-- what is put into a plain set
pub within_by : (P : List Entry → Type 0) (e x : Entry) (xs : List Entry) → (Less 0 e x → P (e ∷ x ∷ xs)) → (e ≡ x → P (x ∷ xs)) → (Less 0 x e → P (x ∷ within e xs)) → P (within e (x ∷ xs))
within_by P e x xs a b c = go (cmp 0 e x) refl
  where
    go : (o : Ordering) → cmp 0 e x ≡ o → P (within e (x ∷ xs))
    go Ordering.lt q = rw (q, within) (a q)
    go Ordering.eq q = rw (q, within) (b (cmp-eq 0 e x q))
    go Ordering.gt q = rw (q, within) (c (gt→lt 0 e x q))

pub every-within : (P : Entry → Type 0) (e : Entry) (es : List Entry) → P e → Every P es → Every P (within e es)
every-within P e [] p h = (p, tt)
every-within P e (x ∷ xs) p (h, hs) = within_by (Every P) e x xs (λ q. (p, (h, hs))) (λ q. (h, hs)) (λ q. (h, every-within P e xs p hs))

pub within-length : (e : Entry) (es : List Entry) → Every (Unlike e) es → length (within e es) ≡ suc (length es)
within-length e [] h = refl
within-length e (x ∷ xs) (h, hs) = within_by (λ y. length y ≡ suc (suc (length xs))) e x xs (λ q. refl) (λ q. absurd (h q)) (λ q. ap suc (within-length e xs hs))

pub all_more : (K C : ℕ) (new : List Entry) (b : Book) → Valid K C b → Every (λ e. length e ≡ K) new → OnceEach new → Every (λ e. Every (Unlike e) (listing b.tree)) new → size b.tree + length new ≤ C → Valid K C (added_all new b) × (listing (added_all new b).tree ≡ within_all new (listing b.tree))
all_more K C [] b v n o u h = (v, refl)
all_more K C (e ∷ new) b v (n, ns) (o, os) (u, us) h =
    let x = more K C b e v n u (omega arith) in
    let l0 : length (listing b.tree) ≡ size b.tree = listing-length b.tree in
    let l1 : length (listing (added e b).tree) ≡ size (added e b).tree = listing-length (added e b).tree in
    let l2 : length (listing (added e b).tree) ≡ length (within e (listing b.tree)) = ap length x.1 in
    let l3 : length (within e (listing b.tree)) ≡ suc (length (listing b.tree)) = within-length e (listing b.tree) u in
    let w : Every (λ d. Every (Unlike d) (listing (added e b).tree)) new = every-both (λ d. ¬ (e ≡ d)) (λ d. Every (Unlike d) (listing b.tree)) (λ d. Every (Unlike d) (listing (added e b).tree)) (λ d a c. rw x.1 (every-within (Unlike d) e (listing b.tree) (λ q. a (sym q)) c)) new o us in
    let y = all_more K C new (added e b) x.0 ns os w (omega arith) in
    (y.0, y.1 ∙ ap (within_all new) x.1)

-- those of a list that are not yet there
new_by : (P : List Entry → Type 0) (held : List Entry) (e : Entry) (es : List Entry) → P (new_of held es) → (has e held ≡ false → P (e ∷ new_of held es)) → P (new_of held (e ∷ es))
new_by P held e es a b = go (has e held) refl
  where
    go : (o : Bool) → has e held ≡ o → P (new_of held (e ∷ es))
    go true q = rw (q, new_of) a
    go false q = rw (q, new_of) (b q)

pub new-every : (P : Entry → Type 0) (held es : List Entry) → Every P es → Every P (new_of held es)
new-every P held [] h = tt
new-every P held (e ∷ es) (h, hs) = new_by (Every P) held e es (new-every P held es hs) (λ q. (h, new-every P held es hs))

pub new-once : (held es : List Entry) → OnceEach es → OnceEach (new_of held es)
new-once held [] h = tt
new-once held (e ∷ es) (h, hs) = new_by OnceEach held e es (new-once held es hs) (λ q. (new-every (λ y. ¬ (e ≡ y)) held es h, new-once held es hs))

pub new-unlike : (held es : List Entry) → Every (λ e. Every (Unlike e) held) (new_of held es)
new-unlike held [] = tt
new-unlike held (e ∷ es) = new_by (Every (λ x. Every (Unlike x) held)) held e es (new-unlike held es) (λ q. (has-false e held q, new-unlike held es))
