-- One entry added to a sound pool: the slot claimed, the leaf put in, and the pool of the new book.
use mathlib.Core.Path.{◌≡◌, refl, sym, ap, subst, ◌∙◌}
use mathlib.Core.Logic.{inl, inr}
use mathlib.Core.Bool.{false}
use mathlib.Core.List.{List, [], ◌∷◌, ◌++◌}
use Prim.Native.Nat.{ℕ, ◌+◌, ◌≤◌, ◌<◌}
use native.Mathlib.Omega.{arith}
use lib.ListN.{length}
use lib.IntN.{ℤ}
use Rattle.model.specs.Entry.{Entry}
use Rattle.model.specs.Tree.{Item, nil, node, size}
use Rattle.model.specs.Ask.{has}
use Rattle.model.specs.Add.{insert}
use Rattle.model.specs.Book.{Book, added, first, rest}
use Rattle.model.specs.Pool.{book_of}
use Rattle.model.specs.Rebuild.{listing}
use Rattle.model.specs.declared.Head.{Head}
use Rattle.model.proofs.Adds.{insert-perm}
use Rattle.model.proofs.Backs.{valid-size}
use Rattle.model.proofs.Books.{add-valid}
use Rattle.model.proofs.Crowd.{InPool}
use Rattle.model.proofs.Listings.{items-length}
use Rattle.model.proofs.Lists.{Every, OnceEach, once-split, perm-length}
use Rattle.model.proofs.Ranks.{Unlike}
use Rattle.model.proofs.Strikes.{slots}
use Rattle.model.proofs.Trees.{All}
use Rattle.cells.specs.Slots.{Slot, Keyed}
use Rattle.cells.specs.Memory.{Rep, In, Same, Frame, Claimed}
use Rattle.cells.proofs.Reps.{rep-frame, frame-trans, link-cells}
use Rattle.build.proofs.Shapes.{every_in}
use Rattle.alter.proofs.Struck.{every_of}
use Rattle.alter.specs.Alters.{Insertable, Inserted}
use Rattle.seek.specs.Sides.{item_in}
use Rattle.weigh.specs.Sounds.{Sound}
use Rattle.weigh.proofs.Held.{first-cut, its, its-rep}
use Rattle.weigh.proofs.There.{has-unlike}
use Rattle.desk.specs.Changes.{Became}
use Rattle.desk.proofs.Changes.{Chain, its-chain, its-once, its-pool, pool-slot, chain-apart, chain-kept, put-together}

front : (cs : List ℕ) → 1 ≤ length cs → cs ≡ first cs ∷ rest cs
front [] h = absurd (omega arith)
front (c ∷ cs) h = refl

module _ (h : Head) (ks : List ℤ) (ls : List ℕ) (p : Sound h ks ls) (fits : h.n < h.c) where
  abbrev b : Book
  b = book_of h ks ls

  -- the first free slot
  chain-is : b.chain ≡ h.free ∷ rest b.chain
  chain-is =
      let n = valid-size h.k h.c b (its h ks ls p).valid in
      let m = (its h ks ls p).count in
      front b.chain (omega arith) ∙ ap (λ (s : ℕ). s ∷ rest b.chain) (its h ks ls p).free

  pub free-pool : InPool h.c h.free
  free-pool = (subst (λ (cs : List ℕ). Every (InPool h.c) cs) chain-is (its-pool h ks ls p).1).0

  pub claim-ready : (h.k ≤ 4) × ((h.free ≤ 4096) × (Keyed h.k (length ks) h.free × Slot (length ls) h.free))
  claim-ready = pool-slot h ks ls p h.free free-pool

  once : OnceEach (slots b.tree ++ (h.free ∷ rest b.chain))
  once = rw (← chain-is) (its-once h ks ls p)

  not-tree : ¬ (In h.free (slots b.tree))
  not-tree = chain-apart (slots b.tree) (h.free ∷ rest b.chain) once h.free (inl refl)

  new-once : OnceEach (h.free ∷ slots b.tree)
  new-once = (every_of (λ y. ¬ (h.free ≡ y)) (slots b.tree) (λ j i e. not-tree (subst (λ (z : ℕ). In z (slots b.tree)) (sym e) i)), (once-split (slots b.tree) (h.free ∷ rest b.chain) once).0)

  module _ (e : Entry) (ks₁ : List ℤ) (ls₁ : List ℕ) (f : ℕ) (nl : length ls₁ ≡ length ls) (cl : Claimed h.k ks ks₁ ls ls₁ h.free e f) where
    tree-stays : Rep h.k ks₁ ls₁ h.root b.tree
    tree-stays = rep-frame h.k ks ks₁ ls ls₁ (h.free ∷ []) nl cl.others h.root b.tree out (its-rep h ks ls p)
      where
        out : (j : ℕ) → In j (slots b.tree) → ¬ (In j (h.free ∷ []))
        out j i (inr h) = elim h [ ]
        out j i (inl q) = not-tree (rw q at i)

    new-item : item_in h.k ks₁ h.free ≡ record { slot = h.free; entry = e }
    new-item = λ i. record { slot = h.free; entry = cl.leaf.2 i }

    pub insert-ready : Insertable h.k ks₁ ls₁ h.root h.free
    insert-ready = record { tree = b.tree; rep = tree-stays; leaf = subst (λ (i : Item). Rep h.k ks₁ ls₁ h.free (node i nil nil)) (sym new-item) cl.leaf; once = new-once }

    module _ (un : has e (listing b.tree) ≡ false) (le : length e ≡ h.k) (ls₂ : List ℕ) (x : ℕ) (nl₂ : length ls₂ ≡ length ls₁) (nk : length ks₁ ≡ length ks) (ins : Inserted h.k ks₁ ls₁ ls₂ 0 h.root h.free x) where
      both : Frame h.k ks ks₁ ls ls₂ (h.free ∷ slots b.tree)
      both = frame-trans h.k ks ks₁ ks₁ ls ls₁ ls₂ (h.free ∷ []) (h.free ∷ slots b.tree) cl.others (ins.frame b.tree tree-stays) (h.free ∷ slots b.tree) one (λ j i. i)
        where
          one : (j : ℕ) → In j (h.free ∷ []) → In j (h.free ∷ slots b.tree)
          one j (inr h) = elim h [ ]
          one j (inl q) = inl q

      chain-after : Chain h.k ks₁ ls₂ (rest b.chain)
      chain-after = chain-kept h.k ks ks₁ ls ls₂ (rest b.chain) stays (c.0.1, c.1.1)
        where
          c : Chain h.k ks ls (h.free ∷ rest b.chain)
          c = subst (Chain h.k ks ls) chain-is (its-chain h ks ls p)

          stays : (j : ℕ) → In j (rest b.chain) → (1 ≤ j) × Same h.k ks ks₁ ls ls₂ j
          stays j i =
              let q : InPool h.c j = every_in (InPool h.c) (h.free ∷ rest b.chain) (subst (λ (cs : List ℕ). Every (InPool h.c) cs) chain-is (its-pool h ks ls p).1) j (inr i) in
              (q.0, both j q.0 (away j i))
            where
              away : (j : ℕ) → In j (rest b.chain) → ¬ (In j (h.free ∷ slots b.tree))
              away j i (inl q) = every_in (λ y. ¬ (h.free ≡ y)) (rest b.chain) (once-split (slots b.tree) (h.free ∷ rest b.chain) once).1.0 j i (sym q)
              away j i (inr t) = chain-apart (slots b.tree) (h.free ∷ rest b.chain) once j (inr i) t

      pub added_is : Became h ks₁ ls₂ (added e b) (record { k = h.k; c = h.c; root = x; free = f; n = h.n + 1 })
      unfolding added
      added_is = record {
        is = put-together (record { k = h.k; c = h.c; root = x; free = f; n = h.n + 1 }) ks₁ ls₂ (added e b) (nk ∙ p.room.wide) (nl₂ ∙ nl ∙ p.room.long)
            (add-valid h.k h.c e b h.free (rest b.chain) (its h ks ls p).valid le unlike chain-is)
            rep chain-after free count;
        k = refl;
        c = refl;
      }
        where
          unlike : All (Unlike e) b.tree
          unlike = has-unlike e b.tree un

          item-is : record { slot = first b.chain; entry = e } ≡ item_in h.k ks₁ h.free
          item-is = (λ i. record { slot = (its h ks ls p).free i; entry = e }) ∙ sym new-item

          rep : Rep h.k ks₁ ls₂ x (insert 0 (record { slot = first b.chain; entry = e }) b.tree)
          rep = subst (λ (i : Item). Rep h.k ks₁ ls₂ x (insert 0 i b.tree)) (sym item-is) (ins.rep 0 (first-cut h.k) b.tree tree-stays)

          free : first (rest b.chain) ≡ f
          free =
              let c : Chain h.k ks ls (h.free ∷ rest b.chain) = subst (Chain h.k ks ls) chain-is (its-chain h ks ls p) in
              sym c.0.0 ∙ ap (λ z. z.left) (link-cells h.k ks ls h.free free-pool.0) ∙ sym cl.behind

          count : size (insert 0 (record { slot = first b.chain; entry = e }) b.tree) ≡ h.n + 1
          count =
              let i : Item = record { slot = first b.chain; entry = e } in
              let a = items-length (insert 0 i b.tree) in
              let c = perm-length (insert-perm 0 i b.tree unlike) in
              let d = items-length b.tree in
              let m = (its h ks ls p).count in
              omega arith
