-- A tray on any state at all: while none of its single calls is refused they go on as a run would; so a batch counts as its items.
use mathlib.Core.Path.{◌≡◌, refl, sym, ap, subst, ◌∙◌}
use mathlib.Core.List.{List, [], ◌∷◌}
use mathlib.Core.Option.{Option, none, some}
use Prim.Native.Nat.{ℕ, suc}
use native.Mathlib.Omega.{arith}
use lib.ListN.{replicate}
use lib.IntN.{ℤ}
use Rattle.model.specs.Answer.{outward, plain, refusal_of}
use Rattle.model.specs.Book.{head_of}
use Rattle.model.specs.Calls.{add, strike_out}
use Rattle.model.specs.Demands.{Batch, single, singly}
use Rattle.model.specs.Entry.{Entry}
use Rattle.model.specs.Gate.{After, leaving}
use Rattle.model.specs.Plain.{Turn, held_after, plain_item, plain_items, plainly}
use Rattle.model.specs.Runs.{State, perform, run, state_of}
use Rattle.model.specs.Tray.{Ran, Work, adding, one, stopped, striking, tray, tray_end, tray_from, whole, works}
use Rattle.model.proofs.Gates.{checked-by}
use Rattle.model.specs.declared.Outcome.{Outcome}
use Rattle.model.specs.declared.Outcome.TheVariants.{Done, Refused}
use Rattle.model.specs.declared.Refusal.{Refusal}

pub some-none : {X : Type 0} (o : Option Refusal) (r : Refusal) → o ≡ some r → o ≡ none → X
some-none o r p q = let z : ◌≡◌ {A = ℕ} 0 1 = cc in absurd (omega arith)

pub never : {X : Type 0} (r : Refusal) (o : Outcome) → o ≡ Refused r → o ≡ Done → X
never r o p q = let z : ◌≡◌ {A = ℕ} 0 1 = cc in absurd (omega arith)

-- none refused so far: scratch is all 0 and the capacity as it was; at the end the state is t
abbrev Going : ℕ → After → Type 0
Going C a = (refusal_of a.answer.outcome ≡ none) × (a.scratch ≡ replicate C 0) × (a.answer.head.c ≡ C)

abbrev pub Gone : ℕ → State → Ran → Type 0
Gone C t (whole a) = Going C a × (state_of a ≡ t)
Gone C t (stopped p r) = Unit {0}

one-goes : (C : ℕ) (a : After) (w : Work) → a.answer.head.c ≡ C → refusal_of (one a w).answer.outcome ≡ none → Going C (one a w)
unfolding add strike_out head_of
one-goes C a (adding e) c = checked-by (λ x. refusal_of x.answer.outcome ≡ none → Going C x) _ _ _ (λ r g o. some-none (some r) r refl o) (λ g o. (refl, ap (λ n. replicate n 0) c, c))
one-goes C a (striking e) c = checked-by (λ x. refusal_of x.answer.outcome ≡ none → Going C x) _ _ _ (λ r g o. some-none (some r) r refl o) (λ g o. (refl, ap (λ n. replicate n 0) c, c))

one_single : (C : ℕ) (a : After) (w : Work) → a.scratch ≡ replicate C 0 → perform (single (replicate C 0) w) (state_of a) ≡ one a w
unfolding perform
one_single C a (adding e) k = ap (λ x. add a.answer.head a.keys a.links x (outward e)) (sym k)
one_single C a (striking e) k = ap (λ x. strike_out a.answer.head a.keys a.links x (outward e)) (sym k)

all_go : (C : ℕ) (ws : List Work) (p : ℕ) (a : After) → Going C a → Gone C (run (singly (replicate C 0) ws) (state_of a)) (tray_from p a ws)
all_go C [] p a k = (k, refl)
all_go C (w ∷ ws) p a k = go (refusal_of (one a w).answer.outcome) refl (all_go C ws (suc p) (one a w))
  where
    go : (o : Option Refusal) → refusal_of (one a w).answer.outcome ≡ o → (Going C (one a w) → Gone C (run (singly (replicate C 0) ws) (state_of (one a w))) (tray_from (suc p) (one a w) ws)) → Gone C (run (singly (replicate C 0) (w ∷ ws)) (state_of a)) (tray_from p a (w ∷ ws))
    go none q ih = subst (λ (x : After). Gone C (run (singly (replicate C 0) ws) (state_of x)) (tray_from p a (w ∷ ws))) (sym (one_single C a w k.1)) (rw (q, tray_from) (ih (one-goes C a w k.2 q)))
    go (some r) q ih = rw (q, tray_from) tt

-- the single calls of a tray, and the run that they are
abbrev pub ran : State → List ℤ → Ran
ran s xs = tray_from 1 (leaving (plain Done s.head) s.keys s.links (replicate s.head.c 0)) (works s.head.k xs)

abbrev pub ran-state : State → List ℤ → State
ran-state s xs = run (singly (replicate s.head.c 0) (works s.head.k xs)) s

pub ran-gone : (s : State) (xs : List ℤ) → Gone s.head.c (ran-state s xs) (ran s xs)
ran-gone s xs = all_go s.head.c (works s.head.k xs) 1 (leaving (plain Done s.head) s.keys s.links (replicate s.head.c 0)) (refl, refl, refl)

batch-state : (s : State) (sc : List ℕ) (t : State) (x : Ran) → Gone s.head.c t x → (tray_end s.head s.keys s.links sc x).answer.outcome ≡ Done → state_of (tray_end s.head s.keys s.links sc x) ≡ t
batch-state s sc t (whole a) k o = k.1
batch-state s sc t (stopped p r) k o = never r (Refused r) refl o

-- the plain book likewise
item-single : (K C : ℕ) (w : Work) (es : List Entry) → plainly K C (single (replicate C 0) w) es ≡ plain_item K C w es
unfolding plainly
item-single K C (adding e) es = refl
item-single K C (striking e) es = refl

batch-held : (K C : ℕ) (before : List Entry) (ws : List Work) (p : ℕ) (es : List Entry) → (plain_items K C before p ws es).said.outcome ≡ Done → (plain_items K C before p ws es).held ≡ held_after K C (singly (replicate C 0) ws) es
batch-held K C before [] p es o = refl
batch-held K C before (w ∷ ws) p es o = go (refusal_of (plain_item K C w es).said.outcome) refl (batch-held K C before ws (suc p) (plain_item K C w es).held) o
  where
    go : (o : Option Refusal) → refusal_of (plain_item K C w es).said.outcome ≡ o
        → ((plain_items K C before (suc p) ws (plain_item K C w es).held).said.outcome ≡ Done → (plain_items K C before (suc p) ws (plain_item K C w es).held).held ≡ held_after K C (singly (replicate C 0) ws) (plain_item K C w es).held)
        → (plain_items K C before p (w ∷ ws) es).said.outcome ≡ Done → (plain_items K C before p (w ∷ ws) es).held ≡ held_after K C (singly (replicate C 0) (w ∷ ws)) es
    go none q ih = rw (q, plain_items) (λ o. ih o ∙ ap (λ t. held_after K C (singly (replicate C 0) ws) t.held) (sym (item-single K C w es)))
    go (some r) q ih = rw (q, plain_items) (never r (Refused r) refl)

pub batch : (sc : List ℕ) (xs : List ℤ) → Batch sc xs
unfolding perform tray plainly
batch sc xs =
    record {
      state = λ s. checked-by (λ a. a.answer.outcome ≡ Done → state_of a ≡ ran-state s xs) _ _ _ (λ r g. never r (Refused r) refl) (λ g. batch-state s sc (ran-state s xs) (ran s xs) (ran-gone s xs));
      held = λ K C es. checked-by (λ (t : Turn). t.said.outcome ≡ Done → t.held ≡ held_after K C (singly (replicate C 0) (works K xs)) es) _ _ _ (λ r g. never r (Refused r) refl) (λ g. batch-held K C es (works K xs) 1 es);
    }
