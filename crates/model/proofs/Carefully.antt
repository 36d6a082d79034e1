-- On any state at all: a refused call changes nothing; a call that only reads leaves the state; scratch is left all 0.
use mathlib.Core.Path.{◌≡◌, refl, sym, ap, ◌∙◌}
use mathlib.Core.List.{List}
use mathlib.Core.Bool.{true, false, true≢false, false≢true}
use Prim.Native.Nat.{ℕ}
use native.Mathlib.Omega.{arith}
use lib.ListN.{replicate}
use lib.IntN.{ℤ}
use Rattle.model.specs.Answer.{Row, checked, inward, refusal_of}
use Rattle.model.specs.Ask.{nearest}
use Rattle.model.specs.Calls.{add, count, list, look_up, near, near_answer, save, strike_out, take_in, walked}
use Rattle.model.specs.Demands.{Careful, Unique, page_in, room_in, scratch_in, tree_in, writes}
use Rattle.model.specs.Gate.{After}
use Rattle.model.specs.Pool.{cell_of, read_limit, walk}
use Rattle.model.specs.Rebuild.{listing}
use Rattle.model.specs.Runs.{Call, State, perform, state_of}
use Rattle.model.specs.Tray.{Ran, stopped, tray, tray_end, whole}
use Rattle.model.proofs.Asks.{near-head}
use Rattle.model.proofs.Batches.{Gone, never, ran, ran-gone, ran-state, some-none}
use Rattle.model.proofs.Gates.{checked-by}
use Rattle.model.proofs.Looks.{walked-head}
use Rattle.model.specs.declared.Entry.{Entry as Four}
use Rattle.model.specs.declared.Head.{Head}
use Rattle.model.specs.declared.Outcome.TheVariants.{Done, Refused}
use Rattle.model.specs.declared.Refusal.{Refusal}

-- what a refusal leaves
abbrev headed : State → Head → State
headed s h = record { head = h; keys = s.keys; links = s.links }

abbrev Same : Call → State → After → Type 0
Same c s a = (r : Refusal) → a.answer.outcome ≡ Refused r → (state_of a ≡ s) × (a.scratch ≡ scratch_in c) × (a.room ≡ room_in c) × (a.page ≡ page_in c)

-- a checked call whose refusals leave all as it was, and which then is done, or only reads
same-done : (c : Call) (s : State) (rows : List Row) (refuse : Refusal → After) (accept : After) → ((r : Refusal) → Same c s (refuse r)) → accept.answer.outcome ≡ Done → Same c s (checked rows refuse accept)
same-done c s rows refuse accept x e = checked-by (Same c s) rows refuse accept (λ r g. x r) (λ g r o. let z : ◌≡◌ {A = ℕ} 0 1 = cc in absurd (omega arith))

same_read : (c : Call) (s : State) (rows : List Row) (refuse : Refusal → After) (accept : After) → ((r : Refusal) → Same c s (refuse r)) → (state_of accept ≡ s) × (accept.scratch ≡ scratch_in c) × (accept.room ≡ room_in c) × (accept.page ≡ page_in c) → Same c s (checked rows refuse accept)
same_read c s rows refuse accept x y = checked-by (Same c s) rows refuse accept (λ r g. x r) (λ g r o. y)

looked : (s : State) (e : Four) → (walked s.head (inward s.head.k e) (walk read_limit (cell_of s.head.k s.keys s.links) s.head.c 0 (inward s.head.k e) 0 s.head.root)).head ≡ s.head
looked s e = walked-head s.head (inward s.head.k e) (walk read_limit (cell_of s.head.k s.keys s.links) s.head.c 0 (inward s.head.k e) 0 s.head.root)

neared : (s : State) (q : Four) (steps : List ℕ) → (near_answer s.head steps (inward s.head.k q) (tree_in s) (nearest steps (inward s.head.k q) (listing (tree_in s)))).head ≡ s.head
neared s q steps = near-head s.head steps (inward s.head.k q) (tree_in s) (nearest steps (inward s.head.k q) (listing (tree_in s)))

-- a tray: refused by its rows, or stopped, or whole
tray-same : (s : State) (sc : List ℕ) (xs : List ℤ) (t : State) (x : Ran) → Gone s.head.c t x → Same (Call.tray sc xs) s (tray_end s.head s.keys s.links sc x)
tray-same s sc xs t (whole a) k r o = some-none (refusal_of a.answer.outcome) r (ap refusal_of o) k.0.0
tray-same s sc xs t (stopped p q) k r o = (refl, refl, refl, refl)

unchanged : (c : Call) (s : State) → Same c s (perform c s)
unfolding perform add strike_out look_up count list near save take_in tray
unchanged (Call.add sc e) s = same-done (Call.add sc e) s _ _ _ (λ r t o. (refl, refl, refl, refl)) refl
unchanged (Call.strike sc e) s = same-done (Call.strike sc e) s _ _ _ (λ r t o. (refl, refl, refl, refl)) refl
unchanged (Call.look_up e) s = same_read (Call.look_up e) s _ _ _ (λ r t o. (refl, refl, refl, refl)) (ap (headed s) (looked s e), refl, refl, refl)
unchanged (Call.count bs) s = same-done (Call.count bs) s _ _ _ (λ r t o. (refl, refl, refl, refl)) refl
unchanged (Call.list bs room) s = same-done (Call.list bs room) s _ _ _ (λ r t o. (refl, refl, refl, refl)) refl
unchanged (Call.nearest q ss) s = same_read (Call.nearest q ss) s _ _ _ (λ r t o. (refl, refl, refl, refl)) (ap (headed s) (neared s q ss), refl, refl, refl)
unchanged (Call.save page) s = same-done (Call.save page) s _ _ _ (λ r t o. (refl, refl, refl, refl)) refl
unchanged (Call.take_in sc text) s = same-done (Call.take_in sc text) s _ _ _ (λ r t o. (refl, refl, refl, refl)) refl
unchanged (Call.tray sc xs) s = checked-by (Same (Call.tray sc xs) s) _ _ _ (λ r g t o. (refl, refl, refl, refl)) (λ g. tray-same s sc xs (ran-state s xs) (ran s xs) (ran-gone s xs))

-- a reading call leaves the state, refused or not
stay-by : (s : State) (rows : List Row) (refuse : Refusal → After) (accept : After) → ((r : Refusal) → state_of (refuse r) ≡ s) → state_of accept ≡ s → state_of (checked rows refuse accept) ≡ s
stay-by s rows refuse accept x y = checked-by (λ a. state_of a ≡ s) rows refuse accept (λ r g. x r) (λ g. y)

stay : (c : Call) (s : State) → writes c ≡ false → state_of (perform c s) ≡ s
unfolding perform look_up count list near save
stay (Call.add sc e) s h = absurd (true≢false h)
stay (Call.strike sc e) s h = absurd (true≢false h)
stay (Call.look_up e) s h = stay-by s _ _ _ (λ r. refl) (ap (headed s) (looked s e))
stay (Call.count bs) s h = stay-by s _ _ _ (λ r. refl) refl
stay (Call.list bs room) s h = stay-by s _ _ _ (λ r. refl) refl
stay (Call.nearest q ss) s h = stay-by s _ _ _ (λ r. refl) (ap (headed s) (neared s q ss))
stay (Call.save page) s h = stay-by s _ _ _ (λ r. refl) refl
stay (Call.take_in sc text) s h = absurd (true≢false h)
stay (Call.tray sc xs) s h = absurd (true≢false h)

-- an accepted writing call leaves scratch all 0
abbrev Zeroed : ℕ → After → Type 0
Zeroed C a = a.answer.outcome ≡ Done → a.scratch ≡ replicate C 0

zeroed-by : (C : ℕ) (rows : List Row) (refuse : Refusal → After) (accept : After) → ((r : Refusal) → (refuse r).answer.outcome ≡ Refused r) → accept.scratch ≡ replicate C 0 → Zeroed C (checked rows refuse accept)
zeroed-by C rows refuse accept x y = checked-by (Zeroed C) rows refuse accept (λ r g. never r (refuse r).answer.outcome (x r)) (λ g o. y)

tray-zeroed : (s : State) (sc : List ℕ) (t : State) (x : Ran) → Gone s.head.c t x → Zeroed s.head.c (tray_end s.head s.keys s.links sc x)
tray-zeroed s sc t (whole a) k = λ o. k.0.1
tray-zeroed s sc t (stopped p r) k = never r (Refused r) refl

zeroed : (c : Call) (s : State) → writes c ≡ true → Zeroed s.head.c (perform c s)
unfolding perform add strike_out take_in tray
zeroed (Call.add sc e) s h = zeroed-by s.head.c _ _ _ (λ r. refl) refl
zeroed (Call.strike sc e) s h = zeroed-by s.head.c _ _ _ (λ r. refl) refl
zeroed (Call.look_up e) s h = absurd (false≢true h)
zeroed (Call.count bs) s h = absurd (false≢true h)
zeroed (Call.list bs room) s h = absurd (false≢true h)
zeroed (Call.nearest q ss) s h = absurd (false≢true h)
zeroed (Call.save page) s h = absurd (false≢true h)
zeroed (Call.take_in sc text) s h = zeroed-by s.head.c _ _ _ (λ r. refl) refl
zeroed (Call.tray sc xs) s h = checked-by (Zeroed s.head.c) _ _ _ (λ r g. never r (Refused r) refl) (λ g. tray-zeroed s sc (ran-state s xs) (ran s xs) (ran-gone s xs))

pub careful : (c : Call) (s : State) → Careful c s
careful c s = record { refusal = unchanged c s; reading = stay c s; cleared = zeroed c s }

pub unique : (c : Call) (s : State) → Unique c s
unique c s = record { one = λ a b x y. x ∙ sym y }
