-- One entry struck from a sound pool: its slot given back, and the pool of the new book.
use mathlib.Core.Path.{◌≡◌, refl, sym, ap, subst, ◌∙◌}
use mathlib.Core.Logic.{inl, inr}
use mathlib.Core.Bool.{true}
use mathlib.Core.List.Permᴰ
use mathlib.Core.List.{List, [], ◌∷◌, Permᴰ}
use Prim.Native.Nat.{ℕ, ◌-◌, ◌≤◌}
use native.Mathlib.Omega.{arith}
use lib.ListN.{length}
use lib.IntN.{ℤ}
use Rattle.std.specs.Prelude.{Option, None, Some, IsSome}
use Rattle.model.specs.Entry.{Entry}
use Rattle.model.specs.Tree.{size}
use Rattle.model.specs.Ask.{has}
use Rattle.model.specs.Book.{Book, Cell, struck}
use Rattle.model.specs.Pool.{cell_of, book_of}
use Rattle.model.specs.Rebuild.{listing}
use Rattle.model.specs.Strike.{strike, freed}
use Rattle.model.specs.declared.Head.{Head}
use Rattle.model.proofs.Books.{strike-valid}
use Rattle.model.proofs.Crowd.{InPool}
use Rattle.model.proofs.Laid.{slots_length}
use Rattle.model.proofs.Lists.{every-perm, OnceEach, once-perm, once-split, perm-length}
use Rattle.model.proofs.Strikes.{slots, strike-slots}
use Rattle.cells.specs.Slots.{left_at, right_at, height_at, numbers_of, Slot, Keyed}
use Rattle.cells.specs.Memory.{Rep, In, Frame, Released}
use Rattle.cells.proofs.Reps.{rep-frame, frame-trans, link-cells}
use Rattle.build.proofs.Shapes.{every_in, in-perm}
use Rattle.alter.specs.Strikes.{IsFreed, Strikable, StruckOut}
use Rattle.alter.specs.declared.strike.Struck.{Struck}
use Rattle.weigh.specs.Sounds.{Sound}
use Rattle.weigh.proofs.Held.{first-cut, its, its-rep, ordered_of}
use Rattle.weigh.proofs.There.{has_there}
use Rattle.desk.specs.Changes.{Became}
use Rattle.desk.proofs.Changes.{Chain, its-chain, its-once, its-pool, pool-slot, chain-apart, chain-kept, put-together}

module _ (h : Head) (ks : List ℤ) (ls : List ℕ) (p : Sound h ks ls) where
  abbrev b : Book
  b = book_of h ks ls

  pub strike-ready : Strikable h.k ks ls h.root 0
  strike-ready = record { tree = b.tree; stands = record { depth = 0; cut = first-cut h.k; rep = its-rep h ks ls p; in_order = ordered_of h ks ls (its h ks ls p) }; once = (once-split (slots b.tree) b.chain (its-once h ks ls p)).0 }

  module _ (e : Entry) (there : has e (listing b.tree) ≡ true) (ks₁ : List ℤ) (ls₁ : List ℕ) (x : Struck) (st : StruckOut h.k ks ks₁ ls ls₁ 0 h.root e x) where
    goes : IsFreed x.freed (freed 0 e b.tree)
    goes = st.gone 0 (first-cut h.k) b.tree (its-rep h ks ls p) (ordered_of h ks ls (its h ks ls p))

    old-split : Permᴰ (slots b.tree) (freed 0 e b.tree ∷ slots (strike 0 e b.tree))
    old-split = strike-slots 0 e b.tree (its h ks ls p).valid.ordered (has_there e b.tree there)

    -- the entry is there, so a slot is given up
    pub some_freed : IsSome x.freed
    some_freed = goes-on x.freed refl
      where
        goes-on : (o : Option ℕ) → x.freed ≡ o → IsSome x.freed
        goes-on None q = let a = (every-perm (InPool h.c) old-split (its-pool h ks ls p).0).0.0 in let z : freed 0 e b.tree ≡ 0 = rw q at goes in absurd (omega arith)
        goes-on (Some s) q = rw q refl

    -- it is f
    module _ (f : ℕ) (given : x.freed ≡ Some f) where
      freed-is : f ≡ freed 0 e b.tree
      freed-is = rw given at goes

      split : Permᴰ (slots b.tree) (f ∷ slots (strike 0 e b.tree))
      split = rw freed-is old-split

      pub freed-pool : InPool h.c f
      freed-pool = (every-perm (InPool h.c) split (its-pool h ks ls p).0).0

      pub release-ready : (h.k ≤ 4) × ((f ≤ 4096) × (Keyed h.k (length ks) f × Slot (length ls) f))
      release-ready = pool-slot h ks ls p f freed-pool

      pub some_left : 1 ≤ h.n
      some_left = let a = perm-length split in let c = slots_length b.tree in let d = (its h ks ls p).count in omega arith

      freed-in : In f (slots b.tree)
      freed-in = in-perm (f ∷ slots (strike 0 e b.tree)) (slots b.tree) (Permᴰ.symm split) f (inl refl)

      left-once : OnceEach (f ∷ slots (strike 0 e b.tree))
      left-once = once-perm split (once-split (slots b.tree) b.chain (its-once h ks ls p)).0

      module _ (ks₂ : List ℤ) (ls₂ : List ℕ) (nk₁ : length ks₁ ≡ length ks) (nl₁ : length ls₁ ≡ length ls) (nk₂ : length ks₂ ≡ length ks₁) (nl₂ : length ls₂ ≡ length ls₁) (rl : Released h.k ks₁ ks₂ ls₁ ls₂ f h.free) where
        tree-after : Rep h.k ks₂ ls₂ x.root (strike 0 e b.tree)
        tree-after = rep-frame h.k ks₁ ks₂ ls₁ ls₂ (f ∷ []) nl₂ rl.others x.root (strike 0 e b.tree) out (st.rep 0 (first-cut h.k) b.tree (its-rep h ks ls p) (ordered_of h ks ls (its h ks ls p)))
          where
            out : (j : ℕ) → In j (slots (strike 0 e b.tree)) → ¬ (In j (f ∷ []))
            out j i (inr h) = elim h [ ]
            out j i (inl q) = every_in (λ y. ¬ (f ≡ y)) (slots (strike 0 e b.tree)) left-once.0 j i (sym q)

        both : Frame h.k ks ks₂ ls ls₂ (slots b.tree)
        both = frame-trans h.k ks ks₁ ks₂ ls ls₁ ls₂ (slots b.tree) (f ∷ []) (st.frame b.tree (its-rep h ks ls p)) rl.others (slots b.tree) (λ j i. i) one
          where
            one : (j : ℕ) → In j (f ∷ []) → In j (slots b.tree)
            one j (inr h) = elim h [ ]
            one j (inl q) = subst (λ (z : ℕ). In z (slots b.tree)) (sym q) freed-in

        old-chain : Chain h.k ks₂ ls₂ b.chain
        old-chain = chain-kept h.k ks ks₂ ls ls₂ b.chain (λ j i. ((every_in (InPool h.c) b.chain (its-pool h ks ls p).1 j i).0, both j (every_in (InPool h.c) b.chain (its-pool h ks ls p).1 j i).0 (chain-apart (slots b.tree) b.chain (its-once h ks ls p) j i))) (its-chain h ks ls p)

        new-cell : cell_of h.k ks₂ ls₂ f ≡ record { left = left_at ls₂ f; right = right_at ls₂ f; high = height_at ls₂ f; key = numbers_of h.k ks₂ f }
        new-cell = link-cells h.k ks₂ ls₂ f freed-pool.0

        chain-after : Chain h.k ks₂ ls₂ (f ∷ b.chain)
        chain-after = (
          (ap (λ (z : Cell). z.left) new-cell ∙ rl.left ∙ sym (its h ks ls p).free, old-chain.0),
          ((ap (λ (z : Cell). z.right) new-cell ∙ rl.right, ap (λ (z : Cell). z.high) new-cell ∙ rl.high, ap (λ (z : Cell). z.key) new-cell ∙ rl.numbers), old-chain.1),
        )

        pub struck-is : Became h ks₂ ls₂ (struck e b) (record { k = h.k; c = h.c; root = x.root; free = f; n = h.n - 1 })
        unfolding struck
        struck-is = record {
          is = put-together (record { k = h.k; c = h.c; root = x.root; free = f; n = h.n - 1 }) ks₂ ls₂ (struck e b) (nk₂ ∙ nk₁ ∙ p.room.wide) (nl₂ ∙ nl₁ ∙ p.room.long)
              (strike-valid h.k h.c e b (its h ks ls p).valid (has_there e b.tree there))
              tree-after (subst (λ (s : ℕ). Chain h.k ks₂ ls₂ (s ∷ b.chain)) freed-is chain-after) (sym freed-is) count;
          k = refl;
          c = refl;
        }
          where
            count : size (strike 0 e b.tree) ≡ h.n - 1
            count = let a = perm-length split in let c = slots_length b.tree in let d = slots_length (strike 0 e b.tree) in let m = (its h ks ls p).count in omega arith
