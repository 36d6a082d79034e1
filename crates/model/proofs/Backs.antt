-- The other way round: the memory of a book in order is sound, and reads as that book and no other.
use mathlib.Core.Path.{◌≡◌, refl, sym, ap, ◌∙◌}
use mathlib.Core.List.Permᴰ
use mathlib.Core.List.{List, [], ◌∷◌, ◌++◌}
use mathlib.Core.Bool.{true}
use Prim.Native.Nat.{ℕ, ◌+◌, ◌≤◌}
use native.Mathlib.Omega.{arith}
use lib.ListN.{length, replicate, length-append}
use lib.IntN.{ℤ, pos}
use Rattle.model.specs.Book.{Book, Cell, behind, cell, first, head_of, keys, links, up_from}
use Rattle.model.specs.Pool.{book_of, cell_of, sound}
use Rattle.model.specs.Tree.{Tree, height, nil, node, root_slot, size}
use Rattle.model.proofs.Books.{Follows, Valid, chain_back, chain-follows, cross-of, follows-map, up-every, up-once, valid-in_pool, valid-once}
use Rattle.model.proofs.Crowd.{InPool, up-length}
use Rattle.model.proofs.Images.{AllS, Lies, alls-map, cell_in-lies, cell_in-miss, image-cell, lies-map, tree-back}
use Rattle.model.proofs.Laid.{Blank, follows-strung, lies-laid, slots_length}
use Rattle.model.proofs.Lists.{Every, every-both, every_map, every-perm, every-split, once-perm, once-split, perm-length}
use Rattle.model.proofs.Sounds.{Is, fits-fitting}
use Rattle.model.proofs.Strikes.{slots}
use Rattle.model.specs.declared.Head.{Head}

pub height-size : (u : Tree) → height u ≤ size u
height-size nil = omega arith
height-size (node i l r) =
    let a : height l ≤ size l = height-size l in
    let b : height r ≤ size r = height-size r in
    omega arith

module _ (K C : ℕ) (b : Book) (v : Valid K C b) where
  pub valid-size : size b.tree + length b.chain ≡ C
  valid-size =
      let m : length (slots b.tree ++ b.chain) ≡ length (slots b.tree) + length b.chain = length-append (slots b.tree) b.chain in
      let z : length (slots b.tree) ≡ size b.tree = slots_length b.tree in
      let q : length (slots b.tree ++ b.chain) ≡ length (up_from C 1) = perm-length v.pool in
      let u : length (up_from C 1) ≡ C = up-length C 1 in
      omega arith

  pub chain-in : Every (InPool C) b.chain
  chain-in = (every-split (InPool C) (slots b.tree) b.chain (every-perm (InPool C) (Permᴰ.symm v.pool) (up-every (InPool C) C 1 (λ x a b. (omega arith, omega arith))))).1

  chain-blank : Every (λ s. cell K b s ≡ record { left = behind s b.chain; right = 0; high = 0; key = replicate K (pos 0) }) b.chain
  unfolding cell
  chain-blank =
      let o = once-split (slots b.tree) b.chain (once-perm (Permᴰ.symm v.pool) (up-once C 1)) in
      every_map (λ y. AllS (λ x. ¬ (x ≡ y)) b.tree) (λ s. cell K b s ≡ record { left = behind s b.chain; right = 0; high = 0; key = replicate K (pos 0) }) (λ s m. cell_in-miss s b.tree _ m) b.chain (cross-of b.tree b.chain o.2)

  pub image-lies : Lies (cell_of K (keys K C b) (links K C b)) b.tree
  unfolding cell
  image-lies = lies-map (cell_of K (keys K C b) (links K C b)) (cell K b) b.tree (alls-map (InPool C) (λ s. cell_of K (keys K C b) (links K C b) s ≡ cell K b s) (image-cell K C b v.sized) b.tree (valid-in_pool K C b v)) (cell_in-lies b.tree (λ s. record { left = behind s b.chain; right = 0; high = 0; key = replicate K (pos 0) }) (valid-once K C b v))

  image-follows : Follows (λ c. (cell_of K (keys K C b) (links K C b) c).left) b.chain
  image-follows = follows-map (λ c. (cell_of K (keys K C b) (links K C b) c).left) (λ c. (cell K b c).left) b.chain (every_map (InPool C) (λ s. (cell_of K (keys K C b) (links K C b) s).left ≡ (cell K b s).left) (λ s p. ap (λ c. c.left) (image-cell K C b v.sized s p)) b.chain chain-in) (chain-follows K C b v)

  image-blank : Every (Blank K (cell_of K (keys K C b) (links K C b))) b.chain
  image-blank = every-both (InPool C) (λ s. cell K b s ≡ record { left = behind s b.chain; right = 0; high = 0; key = replicate K (pos 0) }) (Blank K (cell_of K (keys K C b) (links K C b))) (λ s p e. let q = image-cell K C b v.sized s p ∙ e in (ap (λ c. c.right) q, ap (λ c. c.high) q, ap (λ c. c.key) q)) b.chain chain-in chain-blank

pub image-book : (K C : ℕ) (b : Book) → Valid K C b → book_of (head_of K C b) (keys K C b) (links K C b) ≡ b
unfolding book_of head_of
image-book K C b v =
    let f : ℕ → Cell = cell_of K (keys K C b) (links K C b) in
    let n : size b.tree + length b.chain ≡ C = valid-size K C b v in
    let h : height b.tree ≤ size b.tree = height-size b.tree in
    λ i. record { tree = tree-back C C f b.tree (omega arith) (valid-in_pool K C b v) (image-lies K C b v) i; chain = chain_back C C f b.chain (omega arith) (chain-in K C b v) (image-follows K C b v) i }

root_in : (C : ℕ) (u : Tree) → AllS (InPool C) u → root_slot u ≤ C
root_in C nil p = omega arith
root_in C (node i l r) (p, pl, pr) = p.1

free_in : (C : ℕ) (cs : List ℕ) → Every (InPool C) cs → first cs ≤ C
free_in C [] p = omega arith
free_in C (c ∷ cs) (p, ps) = p.1

pub image-sound : (K C : ℕ) (b : Book) → Valid K C b → sound (head_of K C b) (keys K C b) (links K C b) ≡ true
unfolding sound head_of
image-sound K C b v = rw (image-book K C b v) (fits-fitting (head_of K C b) (cell_of K (keys K C b) (links K C b)) b (record {
  root_within = root_in C b.tree (valid-in_pool K C b v);
  free_within = free_in C b.chain (chain-in K C b v);
  laid_ok = lies-laid (cell_of K (keys K C b) (links K C b)) C (root_slot b.tree) b.tree refl (valid-in_pool K C b v) (image-lies K C b v);
  ordered = v.ordered;
  balanced = v.balanced;
  count = refl;
  strung_ok = follows-strung K (cell_of K (keys K C b) (links K C b)) C (first b.chain) b.chain refl (chain-in K C b v) (image-follows K C b v) (image-blank K C b v);
  total = valid-size K C b v;
}))

pub is-head : (h : Head) (ks : List ℤ) (ls : List ℕ) (b : Book) → Is h ks ls b → h ≡ head_of h.k h.c b
unfolding head_of
is-head h ks ls b i = λ j. record { k = h.k; c = h.c; root = sym i.root j; free = sym i.free j; n = sym i.count j }

pub is-sound : (h : Head) (ks : List ℤ) (ls : List ℕ) (b : Book) → Is h ks ls b → (sound h ks ls ≡ true) × (book_of h ks ls ≡ b)
is-sound h ks ls b i = (ap (λ x. sound x ks ls) (is-head h ks ls b i) ∙ rw (← i.same_keys, ← i.same_links) (image-sound h.k h.c b i.valid), ap (λ x. book_of x ks ls) (is-head h ks ls b i) ∙ rw (← i.same_keys, ← i.same_links) (image-book h.k h.c b i.valid))

-- one book only
pub is_one : (h : Head) (ks : List ℤ) (ls : List ℕ) (b c : Book) → Is h ks ls b → Is h ks ls c → b ≡ c
is_one h ks ls b c i j = sym (is-sound h ks ls b i).1 ∙ (is-sound h ks ls c j).1
