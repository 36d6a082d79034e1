-- What ranking and rebuilding keep.
use mathlib.Core.Path.{◌≡◌, refl, sym, ap, ◌∙◌, subst}
use mathlib.Core.List.Permᴰ
use mathlib.Core.List.{List, [], ◌∷◌, ◌++◌, Permᴰ}
use Prim.Native.Nat.{Ordering}
use Prim.Native.Nat.{ℕ, zero, suc, ◌≤◌}
use native.Mathlib.Omega.{arith}
use lib.ListN.{length}
use Rattle.model.specs.Entry.{Entry, cmp}
use Rattle.model.specs.Rebuild.{build, put, rank, rebuild}
use Rattle.model.specs.Tree.{Item, Tree, items, nil, node}
use Rattle.model.proofs.Heights.{Cut, cut, put-by}
use Rattle.model.proofs.Orders.{cmp-eq, cmp-flip, cmp-trans, flip}
use Rattle.model.proofs.Trees.{All, AllL, Less, Ordered}

abbrev pub Perm : List Item → List Item → Type 0
Perm a b = Permᴰ a b

pub put-perm : (t : ℕ) (i : Item) (js : List Item) → Perm (put t i js) (i ∷ js)
put-perm t i [] = Permᴰ.refl _
put-perm t i (j ∷ js) = put-by (λ s. Perm s (i ∷ j ∷ js)) t i j js (λ e. Permᴰ.refl _) (λ e. Permᴰ.refl _) (λ e. Permᴰ.trans (Permᴰ.cons refl (put-perm t i js)) (Permᴰ.swap refl refl))

pub rank-perm : (t : ℕ) (is : List Item) → Perm (rank t is) is
rank-perm t [] = Permᴰ.refl _
rank-perm t (i ∷ is) = Permᴰ.trans (put-perm t i (rank t is)) (Permᴰ.cons refl (rank-perm t is))

pub join-perm : (i : Item) {a b c d : List Item} → Perm a b → Perm c d → Perm (a ++ (i ∷ c)) (b ++ (i ∷ d))
join-perm i {a} {b} {c} {d} p q = Permᴰ.trans (Permᴰ.append_right (i ∷ c) p) (Permᴰ.append_left b (Permᴰ.cons refl q))

pub build-perm : (f t : ℕ) (is : List Item) → length is ≤ f → Perm (items (build f t is)) is
build-perm zero t [] e = Permᴰ.refl _
build-perm zero t (i ∷ is) e = absurd (omega arith)
build-perm (suc f) t [] e = Permᴰ.refl _
build-perm (suc f) t (i ∷ is) e =
    let c : Cut f t (i ∷ is) = cut f t (i ∷ is) (omega arith) in
    let p : Perm (items (build f (suc t) c.low) ++ (c.item ∷ items (build f (suc t) c.high))) (c.low ++ (c.item ∷ c.high)) = join-perm c.item (build-perm f (suc t) c.low (omega arith)) (build-perm f (suc t) c.high (omega arith)) in
    rw c.made (Permᴰ.trans (rw c.joined at p) (rank-perm t (i ∷ is)))

pub rebuild-perm : (t : ℕ) (is : List Item) → Perm (items (rebuild t is)) is
unfolding rebuild
rebuild-perm t is = build-perm (length is) t is (omega arith)

-- from a list to a tree and back
pub perm-all : (P : Entry → Type 0) {a b : List Item} → Perm a b → AllL P a → AllL P b
perm-all P Permᴰ.nil h = h
perm-all P (Permᴰ.cons e p) (h, hs) = (rw e at h, perm-all P p hs)
perm-all P (Permᴰ.swap e f) (h, hs) = (rw f at hs.0, (rw e at h, hs.1))
perm-all P (Permᴰ.trans p q) h = perm-all P q (perm-all P p h)

pub all_append : (P : Entry → Type 0) (a b : List Item) → AllL P a → AllL P b → AllL P (a ++ b)
all_append P [] b h k = k
all_append P (i ∷ a) b (h, hs) k = (h, all_append P a b hs k)

pub all_split : (P : Entry → Type 0) (a b : List Item) → AllL P (a ++ b) → AllL P a × AllL P b
all_split P [] b h = (tt, h)
all_split P (i ∷ a) b (h, hs) = let r = all_split P a b hs in ((h, r.0), r.1)

pub all-items : (P : Entry → Type 0) (u : Tree) → All P u → AllL P (items u)
all-items P nil h = h
all-items P (node i l r) (h, hl, hr) = all_append P (items l) (i ∷ items r) (all-items P l hl) (h, all-items P r hr)

pub items-all : (P : Entry → Type 0) (u : Tree) → AllL P (items u) → All P u
items-all P nil h = h
items-all P (node i l r) h = let s = all_split P (items l) (i ∷ items r) h in (s.1.0, items-all P l s.0, items-all P r s.1.1)

-- no two entries of a list are the same
abbrev pub Unlike : Entry → Entry → Type 0
Unlike a b = ¬ (a ≡ b)

abbrev pub Distinct : List Item → Type 0
Distinct [] = Unit {0}
Distinct (i ∷ is) = AllL (Unlike i.entry) is × Distinct is

pub all_map : (P Q : Entry → Type 0) → ((x : Entry) → P x → Q x) → (is : List Item) → AllL P is → AllL Q is
all_map P Q f [] h = tt
all_map P Q f (i ∷ is) (h, hs) = (f i.entry h, all_map P Q f is hs)

pub perm-distinct : {a b : List Item} → Perm a b → Distinct a → Distinct b
perm-distinct Permᴰ.nil h = h
perm-distinct (Permᴰ.cons {b = b} {l₂ = m} e p) (h, hs) = (perm-all (Unlike b.entry) p (rw e at h), perm-distinct p hs)
perm-distinct (Permᴰ.swap {b = b} {b' = b'} {l = l} e f) ((h, g), (k, ks)) = subst (λ x. Distinct (x ∷ b' ∷ l)) f (subst (λ y. Distinct (b ∷ y ∷ l)) e (((λ q. h (sym q)), k), (g, ks)))
perm-distinct (Permᴰ.trans p q) h = perm-distinct q (perm-distinct p h)

pub distinct-split : (a : List Item) (i : Item) (b : List Item) → Distinct (a ++ (i ∷ b)) → Distinct a × Distinct b
distinct-split [] i b (h, hs) = (tt, hs)
distinct-split (j ∷ a) i b (h, hs) = let r = distinct-split a i b hs in (((all_split (Unlike j.entry) a (i ∷ b) h).0, r.0), r.1)

pub distinct-join : (a : List Item) (b : List Item) → Distinct a → Distinct b → (P : Entry → Type 0) → AllL P a → ((x : Entry) → P x → AllL (Unlike x) b) → Distinct (a ++ b)
distinct-join [] b h k P p f = k
distinct-join (i ∷ a) b (h, hs) k P (p, ps) f = (all_append (Unlike i.entry) a b h (f i.entry p), distinct-join a b hs k P ps f)

-- a ranked list rises
abbrev pub Sorted : ℕ → List Item → Type 0
Sorted t [] = Unit {0}
Sorted t (i ∷ is) = AllL (Less t i.entry) is × Sorted t is

pub gt→lt : (t : ℕ) (a b : Entry) → cmp t a b ≡ Ordering.gt → Less t b a
gt→lt t a b e = cmp-flip t a b ∙ ap flip e

pub put-sorted : (t : ℕ) (i : Item) (js : List Item) → AllL (Unlike i.entry) js → Sorted t js → Sorted t (put t i js)
put-sorted t i [] u h = (tt, tt)
put-sorted t i (j ∷ js) (u, us) (h, hs) = put-by (Sorted t) t i j js (λ e. ((e, all_map (Less t j.entry) (Less t i.entry) (λ x p. cmp-trans t i.entry j.entry x e p) js h), (h, hs))) (λ e. absurd (u (cmp-eq t i.entry j.entry e))) (λ e. (perm-all (Less t j.entry) (Permᴰ.symm (put-perm t i js)) (gt→lt t i.entry j.entry e, h), put-sorted t i js us hs))

pub rank-sorted : (t : ℕ) (is : List Item) → Distinct is → Sorted t (rank t is)
rank-sorted t [] h = tt
rank-sorted t (i ∷ is) (h, hs) = put-sorted t i (rank t is) (perm-all (Unlike i.entry) (Permᴰ.symm (rank-perm t is)) h) (rank-sorted t is hs)

pub sorted-split : (t : ℕ) (a : List Item) (i : Item) (b : List Item) → Sorted t (a ++ (i ∷ b)) → AllL (λ x. Less t x i.entry) a × AllL (Less t i.entry) b
sorted-split t [] i b (h, hs) = (tt, h)
sorted-split t (j ∷ a) i b (h, hs) = let r = sorted-split t a i b hs in (((all_split (Less t j.entry) a (i ∷ b) h).1.0, r.0), r.1)

pub build-ordered : (f t : ℕ) (is : List Item) → length is ≤ f → Distinct is → Ordered t (build f t is)
build-ordered zero t is e d = tt
build-ordered (suc f) t [] e d = tt
build-ordered (suc f) t (i ∷ is) e d =
    let c : Cut f t (i ∷ is) = cut f t (i ∷ is) (omega arith) in
    let a : length c.low ≤ f = omega arith in
    let b : length c.high ≤ f = omega arith in
    let s = sorted-split t c.low c.item c.high (rw c.joined (rank-sorted t (i ∷ is) d)) in
    let m = distinct-split c.low c.item c.high (rw c.joined (perm-distinct (Permᴰ.symm (rank-perm t (i ∷ is))) d)) in
    rw c.made (items-all (λ x. Less t x c.item.entry) (build f (suc t) c.low) (perm-all (λ x. Less t x c.item.entry) (Permᴰ.symm (build-perm f (suc t) c.low a)) s.0), items-all (Less t c.item.entry) (build f (suc t) c.high) (perm-all (Less t c.item.entry) (Permᴰ.symm (build-perm f (suc t) c.high b)) s.1), build-ordered f (suc t) c.low a m.0, build-ordered f (suc t) c.high b m.1)

pub rebuild-ordered : (t : ℕ) (is : List Item) → Distinct is → Ordered t (rebuild t is)
unfolding rebuild
rebuild-ordered t is d = build-ordered (length is) t is (omega arith) d
