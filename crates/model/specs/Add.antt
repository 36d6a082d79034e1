-- Adding. (Rules of the tree, Add.)
use Rattle.std.specs.Prelude.{◌∷◌, ◌++◌, true, false}
use Prim.Native.Nat.{ℕ, suc, Ordering}
use Rattle.model.specs.Entry.{cmp}
use Rattle.model.specs.Tree.{Item, Tree, nil, node, height, items, even}
use Rattle.model.specs.Rebuild.{rebuild}

-- The upward check of one entry at depth t: kept where its children are even enough, else its whole subtree is rebuilt. (Add.)
unfoldable pub mend : ℕ → Item → Tree → Tree → Tree
mend t i l r = elim (even (height l) (height r)) [ true ↦ node i l r | false ↦ rebuild t (items l ++ (i ∷ items r)) ]

-- Down to a leaf, then the check at every entry of the path up to the root. (Add.)
unfoldable pub insert : ℕ → Item → Tree → Tree
insert t i nil = node i nil nil
insert t i (node j l r) =
    elim (cmp t i.entry j.entry) [
      | Ordering.lt ↦ mend t j (insert (suc t) i l) r
      | Ordering.eq ↦ node j l r
      | Ordering.gt ↦ mend t j l (insert (suc t) i r)
    ]
