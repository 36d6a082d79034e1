-- An entry struck from a tree in memory: at every depth that is cut at field c, and no other slot changes.
use Rattle.std.specs.Prelude.{◌≡◌, true, List, ℕ, suc, ℤ, Option, MatchOption}
use Rattle.model.specs.Entry.{Entry, cut_field}
use Rattle.model.specs.Tree.{Item, Tree, node, ordered}
use Rattle.model.specs.Add.{mend}
use Rattle.model.specs.Strike.{strike, freed}
use Rattle.model.proofs.Lists.{OnceEach}
use Rattle.model.proofs.Strikes.{slots}
use Rattle.cells.specs.Memory.{Rep, Frame}
use Rattle.ask.specs.Standing.{Stands}
use Rattle.seek.specs.Sides.{on_side}
use Rattle.seek.specs.declared.side.Side.{Side}
use Rattle.alter.specs.declared.strike.Struck.{Struck}

-- a tree in order stands at s, and no slot is there twice
pub record Strikable (K : ℕ) (ks : List ℤ) (ls : List ℕ) (s c : ℕ) : Type 0 where
  pub tree : Tree
  pub stands : Stands K ks ls s c tree
  pub once : OnceEach (slots tree)

-- the node at s, of whose sides one is in order below it
pub record StrikableOn (K : ℕ) (ks : List ℤ) (ls : List ℕ) (s c : ℕ) (side : Side) : Type 0 where
  pub depth : ℕ
  pub cut : cut_field K depth ≡ c
  pub item : Item
  pub there : Tree
  pub other : Tree
  pub rep : Rep K ks ls s (node item (on_side side there other) (on_side side other there))
  pub in_order : ordered (suc depth) there ≡ true
  pub once : OnceEach (slots (node item (on_side side there other) (on_side side other there)))

-- the slot n that was given up; 0 is none
abbrev pub IsFreed : Option ℕ → ℕ → Type 0
IsFreed o n = MatchOption o (n ≡ 0) (λ s. s ≡ n)

pub record StruckOut (K : ℕ) (ks ks' : List ℤ) (ls ls' : List ℕ) (c s : ℕ) (e : Entry) (x : Struck) : Type 0 where
  pub rep : (t : ℕ) → cut_field K t ≡ c → (u : Tree) → Rep K ks ls s u → ordered t u ≡ true → Rep K ks' ls' x.root (strike t e u)
  pub gone : (t : ℕ) → cut_field K t ≡ c → (u : Tree) → Rep K ks ls s u → ordered t u ≡ true → IsFreed x.freed (freed t e u)
  pub frame : (u : Tree) → Rep K ks ls s u → Frame K ks ks' ls ls' (slots u)

-- the entry e struck on a side of the node at s, whose own entry is whatever its numbers are; then s is mended
pub record StruckOn (K : ℕ) (ks ks' : List ℤ) (ls ls' : List ℕ) (c s : ℕ) (side : Side) (e : Entry) (x : Struck) : Type 0 where
  pub rep : (t : ℕ) → cut_field K t ≡ c → (i : Item) (u w : Tree) → Rep K ks ls s (node i (on_side side u w) (on_side side w u)) → ordered (suc t) u ≡ true
      → Rep K ks' ls' x.root (mend t i (on_side side (strike (suc t) e u) w) (on_side side w (strike (suc t) e u)))
  pub gone : (t : ℕ) → cut_field K t ≡ c → (i : Item) (u w : Tree) → Rep K ks ls s (node i (on_side side u w) (on_side side w u)) → ordered (suc t) u ≡ true → IsFreed x.freed (freed (suc t) e u)
  pub frame : (u : Tree) → Rep K ks ls s u → Frame K ks ks' ls ls' (slots u)
