-- The slots of a tree gathered, and a tree rebuilt over slots in place.
use Rattle.std.specs.Prelude.{◌≡◌, List, ◌++◌, ℕ, ◌+◌, ◌≤◌, length, take, drop, ℤ}
use Rattle.model.specs.Entry.{cut_field}
use Rattle.model.specs.Tree.{Tree}
use Rattle.model.specs.Rebuild.{rebuild}
use Rattle.model.proofs.Lists.{Every, OnceEach}
use Rattle.model.proofs.Crowd.{InPool}
use Rattle.model.proofs.Strikes.{slots}
use Rattle.cells.specs.Memory.{Rep, Frame}
use Rattle.rank.specs.Ranking.{items_at}

-- some tree lies at s, and has at most `room` slots
pub record Fitting (ls : List ℕ) (s room : ℕ) : Type 0 where
  pub K : ℕ
  pub ks : List ℤ
  pub tree : Tree
  pub rep : Rep K ks ls s tree
  pub enough : length (slots tree) ≤ room

-- whatever tree lies at s, its slots are stored from `at` on, and r is the place behind them
pub record Gathered (ls before after : List ℕ) (s at r : ℕ) : Type 0 where
  pub next : (K : ℕ) (ks : List ℤ) (u : Tree) → Rep K ks ls s u → r ≡ at + length (slots u)
  pub written : (K : ℕ) (ks : List ℤ) (u : Tree) → Rep K ks ls s u → after ≡ take at before ++ (slots u ++ drop (at + length (slots u)) before)

-- different slots of a pool of C
pub record Chosen (C : ℕ) (ss : List ℕ) : Type 0 where
  pub each : Every (InPool C) ss
  pub once : OnceEach ss

-- the slots ss rebuilt at every depth that is cut at field c: the tree lies at r, and no other slot changed
pub record Rebuilt (K : ℕ) (ks : List ℤ) (c : ℕ) (ls ls' ss : List ℕ) (r : ℕ) : Type 0 where
  pub rep : (t : ℕ) → cut_field K t ≡ c → Rep K ks ls' r (rebuild t (items_at K ks ss))
  pub frame : Frame K ks ks ls ls' ss
