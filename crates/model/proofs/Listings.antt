-- Listing order: what add and strike do to the list of entries.
use mathlib.Core.Path.{◌≡◌, refl, sym, ap, ◌∙◌}
use mathlib.Core.List.Permᴰ
use mathlib.Core.List.{List, [], ◌∷◌}
use mathlib.Core.Bool.{Bool, true, false, ◌||◌, true≢false, false≢true}
use Prim.Native.Nat.{ℕ, suc, Ordering}
use native.Mathlib.Omega.{arith}
use lib.Dec.{compare_is_eq}
use lib.ListN.{length, length-append}
use Rattle.model.specs.Add.{insert}
use Rattle.model.specs.Ask.{has}
use Rattle.model.specs.Entry.{Entry, cmp}
use Rattle.model.specs.Plain.{within, without}
use Rattle.model.specs.Rebuild.{listing, put, rank}
use Rattle.model.specs.Strike.{strike}
use Rattle.model.specs.Tree.{Item, Tree, entries_of, items, nil, node, size}
use Rattle.model.proofs.Adds.{insert-ordered, insert-perm, item_at, ordered-distinct}
use Rattle.model.proofs.Freedom.{rank-any}
use Rattle.model.proofs.Heights.{rank-length}
use Rattle.model.proofs.Lists.{Every}
use Rattle.model.proofs.Orders.{cmp-eq, cmp-refl}
use Rattle.model.proofs.Ranks.{Distinct, Perm, Unlike, all-items, items-all, perm-all, rank-perm}
use Rattle.model.proofs.Sides.{There}
use Rattle.model.proofs.Strikes.{PermE, of-entries, strike-entries, strike-gone, to-entries}
use Rattle.model.proofs.Trees.{All, AllL, Ordered}

pub is_eq-true : (o : Ordering) → compare_is_eq o ≡ true → o ≡ Ordering.eq
is_eq-true Ordering.lt h = absurd (false≢true h)
is_eq-true Ordering.eq h = refl
is_eq-true Ordering.gt h = absurd (false≢true h)

pub or-false : (a b : Bool) → (a || b) ≡ false → (a ≡ false) × (b ≡ false)
or-false true b h = absurd (true≢false h)
or-false false b h = (refl, h)

pub unlike-not : (e x : Entry) → Unlike e x → compare_is_eq (cmp 0 e x) ≡ false
unlike-not e x u = go (cmp 0 e x) refl
  where
    go : (o : Ordering) → cmp 0 e x ≡ o → compare_is_eq (cmp 0 e x) ≡ false
    go Ordering.lt c = rw c refl
    go Ordering.eq c = absurd (u (cmp-eq 0 e x c))
    go Ordering.gt c = rw c refl

pub has-false : (e : Entry) (es : List Entry) → has e es ≡ false → Every (Unlike e) es
has-false e [] h = tt
has-false e (x ∷ xs) h =
    let a = or-false (compare_is_eq (cmp 0 e x)) (has e xs) h in
    ((λ q. let z : cmp 0 e x ≡ Ordering.eq = rw q (cmp-refl 0 x) in true≢false (sym (ap compare_is_eq z) ∙ a.0)), has-false e xs a.1)

pub false-has : (e : Entry) (es : List Entry) → Every (Unlike e) es → has e es ≡ false
false-has e [] h = refl
false-has e (x ∷ xs) (h, hs) = rw (unlike-not e x h) (false-has e xs hs)

pub true-has : (e : Entry) (es : List Entry) → ¬ (Every (Unlike e) es) → has e es ≡ true
true-has e es n = go (has e es) refl
  where
    go : (o : Bool) → has e es ≡ o → has e es ≡ true
    go true q = q
    go false q = absurd (n (has-false e es q))

pub every-has : (P : Entry → Type 0) (e : Entry) (es : List Entry) → Every P es → has e es ≡ true → P e
every-has P e [] p h = absurd (false≢true h)
every-has P e (x ∷ xs) (p, ps) h = go (cmp 0 e x) refl (every-has P e xs ps)
  where
    go : (o : Ordering) → cmp 0 e x ≡ o → (has e xs ≡ true → P e) → P e
    go Ordering.lt c f = f (rw c at h)
    go Ordering.eq c f = rw (cmp-eq 0 e x c) p
    go Ordering.gt c f = f (rw c at h)

pub has-true : (e : Entry) (es : List Entry) → has e es ≡ true → ¬ (Every (Unlike e) es)
has-true e es h u = true≢false (sym h ∙ false-has e es u)

pub listing-all : (P : Entry → Type 0) (u : Tree) → All P u → Every P (listing u)
unfolding listing
listing-all P u h = to-entries P (rank 0 (items u)) (perm-all P (Permᴰ.symm (rank-perm 0 (items u))) (all-items P u h))

pub all-listing : (P : Entry → Type 0) (u : Tree) → Every P (listing u) → All P u
unfolding listing
all-listing P u h = items-all P u (perm-all P (rank-perm 0 (items u)) (of-entries P (rank 0 (items u)) h))

pub items-length : (u : Tree) → length (items u) ≡ size u
items-length nil = refl
items-length (node i l r) =
    let a : length (items l) ≡ size l = items-length l in
    let b : length (items r) ≡ size r = items-length r in
    rw (length-append (items l) (i ∷ items r)) (omega arith)

pub entries-length : (is : List Item) → length (entries_of is) ≡ length is
entries-length [] = refl
entries-length (i ∷ is) = ap suc (entries-length is)

pub listing-length : (u : Tree) → length (listing u) ≡ size u
unfolding listing
listing-length u = entries-length (rank 0 (items u)) ∙ rank-length 0 (items u) ∙ items-length u

-- ranking does not look at slots
abbrev bare : List Entry → List Item
bare [] = []
bare (e ∷ es) = (item_at 0 e) ∷ bare es

bare-perm : {a b : List Entry} → PermE a b → Perm (bare a) (bare b)
bare-perm Permᴰ.nil = Permᴰ.nil
bare-perm (Permᴰ.cons e p) = Permᴰ.cons (ap (item_at 0) e) (bare-perm p)
bare-perm (Permᴰ.swap e f) = Permᴰ.swap (ap (item_at 0) e) (ap (item_at 0) f)
bare-perm (Permᴰ.trans p q) = Permᴰ.trans (bare-perm p) (bare-perm q)

-- one step of each
put-lt : (i j : Item) (js : List Item) → cmp 0 i.entry j.entry ≡ Ordering.lt → put 0 i (j ∷ js) ≡ i ∷ j ∷ js
put-lt i j js c = rw (c, put) refl

put-eq : (i j : Item) (js : List Item) → cmp 0 i.entry j.entry ≡ Ordering.eq → put 0 i (j ∷ js) ≡ i ∷ j ∷ js
put-eq i j js c = rw (c, put) refl

put-gt : (i j : Item) (js : List Item) → cmp 0 i.entry j.entry ≡ Ordering.gt → put 0 i (j ∷ js) ≡ j ∷ put 0 i js
put-gt i j js c = rw (c, put) refl

within-lt : (e x : Entry) (xs : List Entry) → cmp 0 e x ≡ Ordering.lt → within e (x ∷ xs) ≡ e ∷ x ∷ xs
within-lt e x xs c = rw (c, within) refl

pub within-gt : (e x : Entry) (xs : List Entry) → cmp 0 e x ≡ Ordering.gt → within e (x ∷ xs) ≡ x ∷ within e xs
within-gt e x xs c = rw (c, within) refl

without-here : (e : Entry) (xs : List Entry) → without e (e ∷ xs) ≡ xs
without-here e xs = rw (cmp-refl 0 e, without) refl

without-gt : (e x : Entry) (xs : List Entry) → cmp 0 e x ≡ Ordering.gt → without e (x ∷ xs) ≡ x ∷ without e xs
without-gt e x xs c = rw (c, without) refl

put_entries : (e : Entry) (s : ℕ) (is js : List Item) → entries_of is ≡ entries_of js → entries_of (put 0 (item_at s e) is) ≡ entries_of (put 0 (item_at 0 e) js)
put_entries e s [] [] h = refl
put_entries e s [] (j ∷ js) h = let z : ◌≡◌ {A = ℕ} 0 1 = cc (h) in absurd (omega arith)
put_entries e s (i ∷ is) [] h = let z : ◌≡◌ {A = ℕ} 0 1 = cc (h) in absurd (omega arith)
put_entries e s (i ∷ is) (j ∷ js) h =
    let p : i.entry ≡ j.entry = cc in
    let q : entries_of is ≡ entries_of js = cc in
    go (cmp 0 e j.entry) refl p q (put_entries e s is js q)
  where
    go : (o : Ordering) → cmp 0 e j.entry ≡ o → i.entry ≡ j.entry → entries_of is ≡ entries_of js → entries_of (put 0 (item_at s e) is) ≡ entries_of (put 0 (item_at 0 e) js) → entries_of (put 0 (item_at s e) (i ∷ is)) ≡ entries_of (put 0 (item_at 0 e) (j ∷ js))
    go Ordering.lt c p q ih = ap entries_of (put-lt (item_at s e) i is (rw p c)) ∙ rw (p, q) (sym (ap entries_of (put-lt (item_at 0 e) j js c)))
    go Ordering.eq c p q ih = ap entries_of (put-eq (item_at s e) i is (rw p c)) ∙ rw (p, q) (sym (ap entries_of (put-eq (item_at 0 e) j js c)))
    go Ordering.gt c p q ih = ap entries_of (put-gt (item_at s e) i is (rw p c)) ∙ rw (p, ih) (sym (ap entries_of (put-gt (item_at 0 e) j js c)))

rank-bare : (is : List Item) → entries_of (rank 0 is) ≡ entries_of (rank 0 (bare (entries_of is)))
rank-bare [] = refl
rank-bare (i ∷ is) = put_entries i.entry i.slot (rank 0 is) (rank 0 (bare (entries_of is))) (rank-bare is)

put-within : (i : Item) (js : List Item) → AllL (Unlike i.entry) js → entries_of (put 0 i js) ≡ within i.entry (entries_of js)
put-within i [] h = refl
put-within i (j ∷ js) (h, hs) = go (cmp 0 i.entry j.entry) refl (put-within i js hs)
  where
    go : (o : Ordering) → cmp 0 i.entry j.entry ≡ o → entries_of (put 0 i js) ≡ within i.entry (entries_of js) → entries_of (put 0 i (j ∷ js)) ≡ within i.entry (entries_of (j ∷ js))
    go Ordering.lt c ih = ap entries_of (put-lt i j js c) ∙ sym (within-lt i.entry j.entry (entries_of js) c)
    go Ordering.eq c ih = absurd (h (cmp-eq 0 i.entry j.entry c))
    go Ordering.gt c ih = ap entries_of (put-gt i j js c) ∙ ap (λ y. j.entry ∷ y) ih ∙ sym (within-gt i.entry j.entry (entries_of js) c)

pub listing-insert : (s : ℕ) (e : Entry) (u : Tree) → Ordered 0 u → All (Unlike e) u → listing (insert 0 (item_at s e) u) ≡ within e (listing u)
unfolding listing
listing-insert s e u o a =
    let i : Item = item_at s e in
    ap entries_of (rank-any 0 (insert-perm 0 i u a) (ordered-distinct 0 (insert 0 i u) (insert-ordered 0 i u a o)))
    ∙ put-within i (rank 0 (items u)) (perm-all (Unlike e) (Permᴰ.symm (rank-perm 0 (items u))) (all-items (Unlike e) u a))

-- taking out what was put in
without-within : (e : Entry) (es : List Entry) → Every (Unlike e) es → without e (within e es) ≡ es
without-within e [] h = without-here e []
without-within e (x ∷ xs) (h, hs) = go (cmp 0 e x) refl (without-within e xs hs)
  where
    go : (o : Ordering) → cmp 0 e x ≡ o → without e (within e xs) ≡ xs → without e (within e (x ∷ xs)) ≡ x ∷ xs
    go Ordering.lt c ih = ap (without e) (within-lt e x xs c) ∙ without-here e (x ∷ xs)
    go Ordering.eq c ih = absurd (h (cmp-eq 0 e x c))
    go Ordering.gt c ih = ap (without e) (within-gt e x xs c) ∙ without-gt e x (within e xs) c ∙ ap (λ y. x ∷ y) ih

bare-distinct : (is : List Item) → Distinct is → Distinct (bare (entries_of is))
bare-distinct [] d = tt
bare-distinct (i ∷ is) (d, ds) = (under (Unlike i.entry) is d, bare-distinct is ds)
  where
    under : (P : Entry → Type 0) (js : List Item) → AllL P js → AllL P (bare (entries_of js))
    under P [] h = tt
    under P (j ∷ js) (h, hs) = (h, under P js hs)

bare-entries : (es : List Entry) → entries_of (bare es) ≡ es
bare-entries [] = refl
bare-entries (e ∷ es) = ap (λ x. e ∷ x) (bare-entries es)

pub listing-strike : (e : Entry) (u : Tree) → Ordered 0 u → There e u → listing (strike 0 e u) ≡ without e (listing u)
unfolding listing
listing-strike e u o h =
    let w : Tree = strike 0 e u in
    let gone : AllL (Unlike e) (rank 0 (items w)) = perm-all (Unlike e) (Permᴰ.symm (rank-perm 0 (items w))) (all-items (Unlike e) w (strike-gone 0 e u o h)) in
    let big : entries_of (rank 0 (items u)) ≡ within e (entries_of (rank 0 (items w))) =
    rank-bare (items u)
    ∙ ap entries_of (rank-any 0 (bare-perm (strike-entries 0 e u o h)) (bare-distinct (items u) (ordered-distinct 0 u o)))
    ∙ sym (put_entries e 0 (rank 0 (items w)) (rank 0 (bare (entries_of (items w)))) (rank-bare (items w)))
    ∙ put-within (item_at 0 e) (rank 0 (items w)) gone in
    sym (ap (without e) big ∙ without-within e (entries_of (rank 0 (items w))) (to-entries (Unlike e) (rank 0 (items w)) gone))
