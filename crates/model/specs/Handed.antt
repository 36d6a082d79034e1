-- Trays on the pools of the bench cases, by computing: what the numbers of an item mean, and each of a tray's refusals. (02, M-100.)
use Rattle.std.specs.Prelude.{◌≡◌, List, [], ◌∷◌, ◌++◌, true, false, ℕ, replicate, ℤ, pos}
use Rattle.model.specs.Answer.{refused, refused_at, refusal_in}
use Rattle.model.specs.Gate.{After, leaving}
use Rattle.model.specs.Tray.{trayed}
use Rattle.model.specs.Runs.{Call, State, perform}
use Rattle.model.specs.Bench.{dirty, head_is, both, three, less, again, last, accepted}
use Rattle.model.specs.declared.Refusal.{Refusal}
use Rattle.model.specs.declared.Refusal.TheVariants.{Present, Missing, Full, Tray, Unsound}

-- An item of two fields.
abbrev pub item_of : ℕ → ℕ → ℕ → List ℤ
item_of n a b = pos n ∷ pos a ∷ pos b ∷ []

abbrev pub handing : List ℤ → State → After
handing xs s = perform (Call.tray dirty xs) s

abbrev pub stopped_at : ℕ → Refusal → State → After
stopped_at p r s = leaving (refused_at s.head p r) s.keys s.links dirty

abbrev pub turned_down : Refusal → State → After
turned_down r s = leaving (refused s.head 0 r) s.keys s.links dirty

-- The pool of B2 with an entry more than it counts.
abbrev pub spoilt : State
spoilt = record { head = head_is 2 0 2; keys = three.keys; links = three.links }

pub record Handed : Type 0 where
  pub empty : handing [] three ≡ accepted three
  pub adds : handing (item_of 1 3 7) both ≡ accepted three
  pub strikes : handing (item_of 2 2 4) three ≡ accepted less
  -- a full pool: the add fits behind the strikes of B4 and B5
  pub in_order : handing (item_of 2 2 4 ++ (item_of 2 1 9 ++ item_of 1 8 8)) three ≡ accepted again
  -- B3's refusals, and a strike of what the item before it struck
  pub present : handing (item_of 1 8 8 ++ item_of 1 8 8) last ≡ stopped_at 2 Present last
  pub full : handing (item_of 1 3 7 ++ item_of 1 5 5) both ≡ stopped_at 2 Full both
  pub missing : handing (item_of 2 2 4 ++ (item_of 2 2 4 ++ item_of 1 1 9)) three ≡ stopped_at 2 Missing three
  -- another first number, a length that is no multiple of three, 12 before 4
  pub first : (handing (item_of 1 3 7 ++ item_of 3 1 9) both ≡ turned_down Tray both) × (handing (item_of 0 1 9) both ≡ turned_down Tray both)
  pub length : handing (pos 1 ∷ pos 3 ∷ []) both ≡ turned_down Tray both
  pub before : (handing (item_of 3 1 9) spoilt ≡ turned_down Tray spoilt) × (handing (item_of 1 1 9) spoilt ≡ turned_down Unsound spoilt)
  pub number : refusal_in (handing (item_of 3 1 9) both).answer.outcome ≡ 12
  -- 256 items and 257
  pub many : (trayed 2 (replicate 768 (pos 1)) ≡ true) × (trayed 2 (replicate 771 (pos 1)) ≡ false)
