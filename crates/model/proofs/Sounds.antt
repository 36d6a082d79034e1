-- A sound pool is the memory of a book in order: the book that is read from it.
use mathlib.Core.Path.{◌≡◌, refl, sym, ap, ◌∙◌}
use mathlib.Core.List.{List, [], ◌∷◌, ◌++◌}
use mathlib.Core.Bool.{Bool, true, false, ◌&&◌}
use Prim.Native.Nat.{ℕ, zero, suc, ◌+◌, ◌-◌, ◌*◌, ◌≤◌, ◌<◌}
use native.Mathlib.Omega.{arith}
use native.Mathlib.Nat.{mul-suc, mul-zero, mul-le-mul_left}
use native.Mathlib.Numerals.{one-add}
use lib.Dec.{leb, eqb}
use lib.ListN.{length, take, drop, get_or, replicate, length-drop, take-append-drop}
use lib.Seq.{length-take-le, drop-drop}
use lib.IntN.{ℤ, pos}
use borrow.Author.Tests.{eqb-true, eqb-false, eq-eqb, leb-true, le-leb}
use Rattle.model.specs.Book.{Book, Cell, behind, cell, cell_in, first, key_cells, keys, link_cells, links, up_from}
use Rattle.model.specs.Pool.{book_of, cell_of, chain_from, fitting, laid, sound, strung, tree_from}
use Rattle.model.specs.Tree.{Tree, balanced, nil, node, ordered, root_slot, size}
use Rattle.model.proofs.Books.{Follows, Valid, behind-here, behind-past}
use Rattle.model.proofs.Crowd.{InPool, PermS}
use Rattle.model.proofs.Images.{AllS, Lies, cell_in-by}
use Rattle.model.proofs.Laid.{Blank, laid-lies, pool-of, slots-of, strung-follows}
use Rattle.model.proofs.Lists.{Every, every-join, every-perm}
use Rattle.model.proofs.Strikes.{slots}
use Rattle.model.proofs.Trees.{All, Balanced, Ordered, balanced-true, both, ordered-true, pair, true-balanced, true-ordered}
use Rattle.model.specs.declared.Head.{Head}

-- then every slot's cell is the book's
cell_lies : (f : ℕ → Cell) (s : ℕ) (u : Tree) (d : Cell) → Lies f u → (AllS (λ s'. ¬ (s' ≡ s)) u → d ≡ f s) → cell_in s u d ≡ f s
unfolding cell_in
cell_lies f s nil d q h = h tt
cell_lies f s (node i l r) d (q, ql, qr) h = cell_in-by (λ c. c ≡ f s) s i l r d (λ e. rw e (sym q)) (λ n. cell_lies f s l (cell_in s r d) ql (λ a. cell_lies f s r d qr (λ b. h ((λ e. n (sym e)), a, b))))

cell-chain : (K : ℕ) (f : ℕ → Cell) (s : ℕ) (cs : List ℕ) → Follows (λ c. (f c).left) cs → Every (Blank K f) cs → ¬ (Every (λ x. ¬ (x ≡ s)) cs) → ◌≡◌ {A = Cell} (record { left = behind s cs; right = 0; high = 0; key = replicate K (pos 0) }) (f s)
cell-chain K f s [] q b n = absurd (n tt)
cell-chain K f s (c ∷ cs) (q, qs) (b, bs) n = go (eqb c s) refl (λ m. cell-chain K f s cs qs bs m)
  where
    go : (o : Bool) → eqb c s ≡ o → (¬ (Every (λ x. ¬ (x ≡ s)) cs) → ◌≡◌ {A = Cell} (record { left = behind s cs; right = 0; high = 0; key = replicate K (pos 0) }) (f s)) → ◌≡◌ {A = Cell} (record { left = behind s (c ∷ cs); right = 0; high = 0; key = replicate K (pos 0) }) (f s)
    go true e ih = rw (← eqb-true c s e) (λ i. record { left = (behind-here c cs ∙ sym q) i; right = sym b.0 i; high = sym b.1 i; key = sym b.2 i })
    go false e ih = rw (behind-past s c cs (eqb-false c s e)) (ih (λ m. n (eqb-false c s e, m)))

in-from : (s n a : ℕ) → a ≤ s → s < a + n → ¬ (Every (λ x. ¬ (x ≡ s)) (up_from n a))
unfolding up_from
in-from s zero a g k h = omega arith
in-from s (suc n) a g k (h, hs) = in-from s n (suc a) (omega (arith, h)) (omega arith) hs

in-up : (C s : ℕ) → InPool C s → ¬ (Every (λ x. ¬ (x ≡ s)) (up_from C 1))
in-up C s p h = in-from s C 1 p.0 (omega arith) h

pub cell-is : (K C : ℕ) (f : ℕ → Cell) (b : Book) (s : ℕ) → InPool C s → PermS (slots b.tree ++ b.chain) (up_from C 1) → Lies f b.tree → Follows (λ c. (f c).left) b.chain → Every (Blank K f) b.chain → cell K b s ≡ f s
unfolding cell
cell-is K C f b s p w q cq cb = cell_lies f s b.tree _ q (λ a. cell-chain K f s b.chain cq cb (λ m. in-up C s p (every-perm (λ x. ¬ (x ≡ s)) w (every-join (λ x. ¬ (x ≡ s)) (slots b.tree) b.chain (slots-of (λ x. ¬ (x ≡ s)) b.tree a) m))))

-- two lists are a book's memory where every slot's cell is
module _ (K : ℕ) (b : Book) where
  links-ext : (C s : ℕ) (ls : List ℕ) → length ls ≡ 3 * C → ((n : ℕ) → n < C → ((cell K b (s + n)).left ≡ get_or ls (3 * n) 0) × ((cell K b (s + n)).right ≡ get_or ls (3 * n + 1) 0) × ((cell K b (s + n)).high ≡ get_or ls (3 * n + 2) 0)) → link_cells K b (up_from C s) ≡ ls
  unfolding up_from
  links-ext zero s [] e h = refl
  links-ext zero s (x ∷ ls) e h = absurd (omega arith)
  links-ext (suc C) s [] e h = absurd (omega arith)
  links-ext (suc C) s (x ∷ []) e h = absurd (omega arith)
  links-ext (suc C) s (x ∷ y ∷ []) e h = absurd (omega arith)
  links-ext (suc C) s (x ∷ y ∷ z ∷ ls) e h =
      let a : s + 0 ≡ s = omega arith in
      let k = rw a at (h 0 (omega arith)) in
      rw (k.0, k.1, k.2) (ap (λ m. x ∷ y ∷ z ∷ m) (links-ext C (suc s) ls (omega arith) (λ n g. step n (h (suc n) (omega arith)))))
    where
      step : (n : ℕ) → ((cell K b (s + suc n)).left ≡ get_or (x ∷ y ∷ z ∷ ls) (3 * suc n) 0) × ((cell K b (s + suc n)).right ≡ get_or (x ∷ y ∷ z ∷ ls) (3 * suc n + 1) 0) × ((cell K b (s + suc n)).high ≡ get_or (x ∷ y ∷ z ∷ ls) (3 * suc n + 2) 0) → ((cell K b (suc s + n)).left ≡ get_or ls (3 * n) 0) × ((cell K b (suc s + n)).right ≡ get_or ls (3 * n + 1) 0) × ((cell K b (suc s + n)).high ≡ get_or ls (3 * n + 2) 0)
      step n g =
          let e0 : 3 * suc n ≡ suc (suc (suc (3 * n))) = omega arith in
          let e1 : 3 * suc n + 1 ≡ suc (suc (suc (3 * n + 1))) = omega arith in
          let e2 : 3 * suc n + 2 ≡ suc (suc (suc (3 * n + 2))) = omega arith in
          let e3 : s + suc n ≡ suc s + n = omega arith in
          (rw (e3, e0) at g.0, rw (e3, e1) at g.1, rw (e3, e2) at g.2)

  keys-ext : (C s : ℕ) (ks : List ℤ) → length ks ≡ K * C → ((n : ℕ) → n < C → (cell K b (s + n)).key ≡ take K (drop (K * n) ks)) → key_cells K b (up_from C s) ≡ ks
  unfolding up_from
  keys-ext zero s [] e h = refl
  keys-ext zero s (x ∷ ks) e h = let z : K * 0 ≡ 0 = mul-zero K in absurd (omega arith)
  keys-ext (suc C) s ks e h =
      let a : s + 0 ≡ s = omega arith in
      let k : (cell K b s).key ≡ take K ks = rw (a, mul-zero K) at (h 0 (omega arith)) in
      let m : K * suc C ≡ K + K * C = mul-suc K C ∙ omega arith in
      let d : length (drop K ks) ≡ length ks - K = length-drop K ks in
      rw k (ap (λ x. take K ks ++ x) (keys-ext C (suc s) (drop K ks) (omega arith) (λ n g. step n (h (suc n) (omega arith)))) ∙ take-append-drop K ks)
    where
      step : (n : ℕ) → (cell K b (s + suc n)).key ≡ take K (drop (K * suc n) ks) → (cell K b (suc s + n)).key ≡ take K (drop (K * n) (drop K ks))
      step n g =
          let m : K * suc n ≡ K + K * n = mul-suc K n ∙ omega arith in
          let e3 : s + suc n ≡ suc s + n = omega arith in
          rw (drop-drop (K * n) K ks) (rw (e3, m) at g)

-- the parts of a fitting book
pub record Fits (h : Head) (f : ℕ → Cell) (b : Book) : Type 0 where
  pub root_within : h.root ≤ h.c
  pub free_within : h.free ≤ h.c
  pub laid_ok : laid f h.c h.root b.tree ≡ true
  pub ordered : Ordered 0 b.tree
  pub balanced : Balanced b.tree
  pub count : size b.tree ≡ h.n
  pub strung_ok : strung f h.c h.free b.chain ≡ true
  pub total : h.n + length b.chain ≡ h.c

pub fitting-fits : (h : Head) (f : ℕ → Cell) (b : Book) → fitting h f b ≡ true → Fits h f b
unfolding fitting
fitting-fits h f b e =
    let a = both (leb h.root h.c && leb h.free h.c) ((laid f h.c h.root b.tree && (ordered 0 b.tree && (balanced b.tree && eqb (size b.tree) h.n))) && (strung f h.c h.free b.chain && eqb (h.n + length b.chain) h.c)) e in
    let r = both (leb h.root h.c) (leb h.free h.c) a.0 in
    let p = both (laid f h.c h.root b.tree && (ordered 0 b.tree && (balanced b.tree && eqb (size b.tree) h.n))) (strung f h.c h.free b.chain && eqb (h.n + length b.chain) h.c) a.1 in
    let q = both (laid f h.c h.root b.tree) (ordered 0 b.tree && (balanced b.tree && eqb (size b.tree) h.n)) p.0 in
    let s = both (ordered 0 b.tree) (balanced b.tree && eqb (size b.tree) h.n) q.1 in
    let t = both (balanced b.tree) (eqb (size b.tree) h.n) s.1 in
    let u = both (strung f h.c h.free b.chain) (eqb (h.n + length b.chain) h.c) p.1 in
    record { root_within = leb-true h.root h.c r.0; free_within = leb-true h.free h.c r.1; laid_ok = q.0; ordered = ordered-true 0 b.tree s.0; balanced = balanced-true b.tree t.0; count = eqb-true (size b.tree) h.n t.1; strung_ok = u.0; total = eqb-true (h.n + length b.chain) h.c u.1 }

pub fits-fitting : (h : Head) (f : ℕ → Cell) (b : Book) → Fits h f b → fitting h f b ≡ true
unfolding fitting
fits-fitting h f b e = pair (pair (le-leb h.root h.c e.root_within) (le-leb h.free h.c e.free_within)) (pair (pair e.laid_ok (pair (true-ordered 0 b.tree e.ordered) (pair (true-balanced b.tree e.balanced) (eq-eqb (size b.tree) h.n e.count)))) (pair e.strung_ok (eq-eqb (h.n + length b.chain) h.c e.total)))

-- this head and these cells are the book's
pub record Is (h : Head) (ks : List ℤ) (ls : List ℕ) (b : Book) : Type 0 where
  pub valid : Valid h.k h.c b
  pub count : size b.tree ≡ h.n
  pub root : root_slot b.tree ≡ h.root
  pub free : first b.chain ≡ h.free
  pub same_keys : keys h.k h.c b ≡ ks
  pub same_links : links h.k h.c b ≡ ls

key-long : (K C : ℕ) (ks : List ℤ) (ls : List ℕ) → length ks ≡ K * C → (s : ℕ) → InPool C s → length (cell_of K ks ls s).key ≡ K
key-long K C ks ls e zero p = absurd (omega arith)
key-long K C ks ls e (suc n) p =
    let m : K * suc n ≤ K * C = mul-le-mul_left K p.1 in
    let a : K * suc n ≡ K + K * n = mul-suc K n ∙ omega arith in
    let d : length (drop (K * n) ks) ≡ length ks - K * n = length-drop (K * n) ks in
    length-take-le K (drop (K * n) ks) (omega arith)

lies-sized : (K C : ℕ) (f : ℕ → Cell) → ((s : ℕ) → InPool C s → length (f s).key ≡ K) → (u : Tree) → AllS (InPool C) u → Lies f u → All (λ e. length e ≡ K) u
lies-sized K C f w nil p q = tt
lies-sized K C f w (node i l r) (p, pl, pr) (q, ql, qr) = (ap (λ c. length c.key) (sym q) ∙ w i.slot p, lies-sized K C f w l pl ql, lies-sized K C f w r pr qr)

-- two tables are a book's where every slot's cell is
pub image-of : (K C : ℕ) (b : Book) (ks : List ℤ) (ls : List ℕ) → length ks ≡ K * C → length ls ≡ 3 * C → ((s : ℕ) → InPool C s → cell K b s ≡ cell_of K ks ls s) → (keys K C b ≡ ks) × (links K C b ≡ ls)
unfolding links keys
image-of K C b ks ls ek el g = (
  keys-ext K b C 1 ks ek (λ n m. rw one-add (ap (λ c. c.key) (g (suc n) (omega arith, omega arith)))),
  links-ext K b C 1 ls el (λ n m. let q = g (suc n) (omega arith, omega arith) in rw one-add (ap (λ c. c.left) q, ap (λ c. c.right) q, ap (λ c. c.high) q)),
)

is-of : (h : Head) (ks : List ℤ) (ls : List ℕ) → length ks ≡ h.k * h.c → length ls ≡ 3 * h.c → (b : Book) → Fits h (cell_of h.k ks ls) b → root_slot b.tree ≡ h.root → first b.chain ≡ h.free → All (λ e. length e ≡ h.k) b.tree → PermS (slots b.tree ++ b.chain) (up_from h.c 1) → ((s : ℕ) → InPool h.c s → cell h.k b s ≡ cell_of h.k ks ls s) → Is h ks ls b
is-of h ks ls ek el b x r f z p g =
    let m = image-of h.k h.c b ks ls ek el g in
    record {
      valid = record { ordered = x.ordered; balanced = x.balanced; sized = z; pool = p };
      count = x.count;
      root = r;
      free = f;
      same_keys = m.0;
      same_links = m.1;
    }

pub sound-is : (h : Head) (ks : List ℤ) (ls : List ℕ) → length ks ≡ h.k * h.c → length ls ≡ 3 * h.c → sound h ks ls ≡ true → Is h ks ls (book_of h ks ls)
unfolding sound book_of
sound-is h ks ls ek el e =
    let f : ℕ → Cell = cell_of h.k ks ls in
    let b : Book = record { tree = tree_from h.c f h.root; chain = chain_from h.c f h.free } in
    let x = fitting-fits h f b e in
    let t = laid-lies h.c h.c f h.root x.laid_ok in
    let w = key-long h.k h.c ks ls ek in
    let c = strung-follows h.k f h.c w h.free b.chain x.strung_ok in
    let n : size b.tree + length b.chain ≡ h.c = rw x.count x.total in
    let p = pool-of h.k h.c f b x.ordered t.1 t.2 c.1 c.2 c.3 n in
    is-of h ks ls ek el b x t.0 c.0 (lies-sized h.k h.c f w b.tree t.1 t.2) p (λ s i. cell-is h.k h.c f b s i p t.2 c.2 c.3)
