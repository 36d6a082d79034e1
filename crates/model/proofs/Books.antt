-- Books that a run can reach: in order, and every slot in the tree once or in the chain once.
use mathlib.Core.Path.{◌≡◌, refl, sym, ap, ◌∙◌}
use mathlib.Core.List.Permᴰ
use mathlib.Core.List.{List, [], ◌∷◌, ◌++◌}
use Prim.Native.Nat.{ℕ, zero, suc, ◌+◌, ◌≤◌, ◌<◌}
use native.Mathlib.Omega.{arith}
use lib.ListN.{length}
use borrow.Author.Tests.{eq-eqb, ne_eqb}
use Rattle.model.specs.Book.{Book, Cell, added, behind, cell, first, fresh, struck, up_from}
use Rattle.model.specs.Entry.{Entry}
use Rattle.model.specs.Pool.{chain_from}
use Rattle.model.specs.Strike.{freed, strike}
use Rattle.model.specs.Tree.{Tree, items, nil, node}
use Rattle.model.proofs.Adds.{insert_all, insert-balanced, insert-ordered, insert-perm, item_at}
use Rattle.model.proofs.Crowd.{InPool, PermS}
use Rattle.model.proofs.Images.{AllS, Once, Other, cell_in-miss}
use Rattle.model.proofs.Lists.{Every, OnceEach, every_map, every-perm, every-split, once-perm, once-split}
use Rattle.model.proofs.Ranks.{Unlike}
use Rattle.model.proofs.Sides.{There}
use Rattle.model.proofs.Strikes.{slots, slots-append, slots-perm, strike-all, strike-balanced, strike-ordered, strike-slots}
use Rattle.model.proofs.Trees.{All, Balanced, Ordered}

-- a book in order
pub record Valid (K C : ℕ) (b : Book) : Type 0 where
  pub ordered : Ordered 0 b.tree
  pub balanced : Balanced b.tree
  pub sized : All (λ e. length e ≡ K) b.tree
  pub pool : PermS (slots b.tree ++ b.chain) (up_from C 1)

pub fresh-valid : (K C : ℕ) → Valid K C (fresh C)
unfolding fresh
fresh-valid K C = record { ordered = tt; balanced = tt; sized = tt; pool = Permᴰ.refl _ }

pub add-valid : (K C : ℕ) (e : Entry) (b : Book) (s : ℕ) (ss : List ℕ) → Valid K C b → length e ≡ K → All (Unlike e) b.tree → b.chain ≡ s ∷ ss → Valid K C (added e b)
unfolding added
add-valid K C e b s ss v n a c = rw c record { ordered = insert-ordered 0 (item_at s e) b.tree a v.ordered; balanced = insert-balanced 0 (item_at s e) b.tree v.balanced; sized = insert_all (λ x. length x ≡ K) 0 (item_at s e) b.tree a n v.sized; pool = Permᴰ.trans (Permᴰ.append_right ss (slots-perm (insert-perm 0 (item_at s e) b.tree a))) (Permᴰ.trans (Permᴰ.symm (Permᴰ.middle s (slots b.tree) ss)) (rw c at v.pool)) }

pub strike-valid : (K C : ℕ) (e : Entry) (b : Book) → Valid K C b → There e b.tree → Valid K C (struck e b)
unfolding struck
strike-valid K C e b v h = record { ordered = strike-ordered 0 e b.tree v.ordered h; balanced = strike-balanced 0 e b.tree v.balanced; sized = (strike-all (λ x. length x ≡ K) 0 e b.tree v.ordered h v.sized).1; pool = Permᴰ.trans (Permᴰ.middle (freed 0 e b.tree) (slots (strike 0 e b.tree)) b.chain) (Permᴰ.trans (Permᴰ.symm (Permᴰ.append_right b.chain (strike-slots 0 e b.tree v.ordered h))) v.pool) }

-- from a list of slots to a tree's
pub alls-of : (P : ℕ → Type 0) (u : Tree) → Every P (slots u) → AllS P u
alls-of P nil h = tt
alls-of P (node i l r) h =
    let s = every-split P (slots l) (i.slot ∷ slots r) (rw (slots-append (items l) (i ∷ items r)) at h) in
    (s.1.0, alls-of P l s.0, alls-of P r s.1.1)

pub cross-of : (u : Tree) (ys : List ℕ) → Every (λ x. Every (λ y. ¬ (x ≡ y)) ys) (slots u) → Every (λ y. AllS (λ x. ¬ (x ≡ y)) u) ys
cross-of u [] g = tt
cross-of u (y ∷ ys) g = (alls-of (λ x. ¬ (x ≡ y)) u (every_map (λ x. Every (λ y. ¬ (x ≡ y)) (y ∷ ys)) (λ x. ¬ (x ≡ y)) (λ x k. k.0) (slots u) g), cross-of u ys (every_map (λ x. Every (λ y. ¬ (x ≡ y)) (y ∷ ys)) (λ x. Every (λ y. ¬ (x ≡ y)) ys) (λ x k. k.1) (slots u) g))

pub once-of : (u : Tree) → OnceEach (slots u) → Once u
once-of nil h = tt
once-of (node i l r) h =
    let s = once-split (slots l) (i.slot ∷ slots r) (rw (slots-append (items l) (i ∷ items r)) at h) in (
      alls-of (Other i.slot) l (every_map (λ x. Every (λ y. ¬ (x ≡ y)) (i.slot ∷ slots r)) (Other i.slot) (λ x g e. g.0 (sym e)) (slots l) s.2),
      alls-of (Other i.slot) r s.1.0,
      alls-of (λ y. AllS (λ x. ¬ (x ≡ y)) l) r (cross-of l (slots r) (every_map (λ x. Every (λ y. ¬ (x ≡ y)) (i.slot ∷ slots r)) (λ x. Every (λ y. ¬ (x ≡ y)) (slots r)) (λ x g. g.1) (slots l) s.2)),
      once-of l s.0,
      once-of r s.1.1,
    )

pub up-every : (P : ℕ → Type 0) (n s : ℕ) → ((x : ℕ) → s ≤ x → x < s + n → P x) → Every P (up_from n s)
unfolding up_from
up-every P zero s f = tt
up-every P (suc n) s f = (f s (omega arith) (omega arith), up-every P n (suc s) (λ x a b. f x (omega arith) (omega arith)))

pub up-once : (n s : ℕ) → OnceEach (up_from n s)
unfolding up_from
up-once zero s = tt
up-once (suc n) s = (up-every (λ y. ¬ (s ≡ y)) n (suc s) (λ x a b. omega arith), up-once n (suc s))

pub valid-once : (K C : ℕ) (b : Book) → Valid K C b → Once b.tree
valid-once K C b v = once-of b.tree (once-split (slots b.tree) b.chain (once-perm (Permᴰ.symm v.pool) (up-once C 1))).0

pub valid-in_pool : (K C : ℕ) (b : Book) → Valid K C b → AllS (InPool C) b.tree
valid-in_pool K C b v = alls-of (InPool C) b.tree (every-split (InPool C) (slots b.tree) b.chain (every-perm (InPool C) (Permᴰ.symm v.pool) (up-every (InPool C) C 1 (λ x a b. (omega arith, omega arith))))).0

pub behind-here : (c : ℕ) (cs : List ℕ) → behind c (c ∷ cs) ≡ first cs
unfolding behind
behind-here c cs = rw (eq-eqb c c refl, behind) refl

pub behind-past : (s c : ℕ) (cs : List ℕ) → ¬ (c ≡ s) → behind s (c ∷ cs) ≡ behind s cs
unfolding behind
behind-past s c cs h = rw (ne_eqb s c (λ e. h (sym e)), behind) refl

abbrev pub Follows : (ℕ → ℕ) → List ℕ → Type 0
Follows f [] = Unit {0}
Follows f (c ∷ cs) = (f c ≡ first cs) × Follows f cs

pub follows-map : (f g : ℕ → ℕ) (cs : List ℕ) → Every (λ s. f s ≡ g s) cs → Follows g cs → Follows f cs
follows-map f g [] e h = tt
follows-map f g (c ∷ cs) (e, es) (h, hs) = (e ∙ h, follows-map f g cs es hs)

pub behind-follows : (cs : List ℕ) → OnceEach cs → Follows (λ s. behind s cs) cs
behind-follows [] h = tt
behind-follows (c ∷ cs) (h, hs) = (behind-here c cs, follows-map (λ s. behind s (c ∷ cs)) (λ s. behind s cs) cs (every_map (λ y. ¬ (c ≡ y)) (λ s. behind s (c ∷ cs) ≡ behind s cs) (λ s n. behind-past s c cs n) cs h) (behind-follows cs hs))

pub chain_back : (C m : ℕ) (f : ℕ → Cell) (cs : List ℕ) → length cs ≤ m → Every (InPool C) cs → Follows (λ s. (f s).left) cs → chain_from m f (first cs) ≡ cs
unfolding chain_from
chain_back C zero f [] h p q = refl
chain_back C zero f (c ∷ cs) h p q = absurd (omega arith)
chain_back C (suc m) f [] h p q = refl
chain_back C (suc m) f (zero ∷ cs) h (p, ps) q = absurd (omega arith)
chain_back C (suc m) f (suc n ∷ cs) h (p, ps) (q, qs) = rw (q, chain_back C m f cs (omega arith) ps qs) refl

pub chain-follows : (K C : ℕ) (b : Book) → Valid K C b → Follows (λ s. (cell K b s).left) b.chain
unfolding cell
chain-follows K C b v =
    let o = once-split (slots b.tree) b.chain (once-perm (Permᴰ.symm v.pool) (up-once C 1)) in
    follows-map (λ s. (cell K b s).left) (λ s. behind s b.chain) b.chain (every_map (λ y. AllS (λ x. ¬ (x ≡ y)) b.tree) (λ s. (cell K b s).left ≡ behind s b.chain) (λ s m. ap (λ c. c.left) (cell_in-miss s b.tree _ m)) b.chain (cross-of b.tree b.chain o.2)) (behind-follows b.chain o.1)
