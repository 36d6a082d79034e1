-- What a text that is a saved book comes to in a fresh pool of 512: the pool is sound, and what is printed is what the program prints.
use mathlib.Core.Path.{◌≡◌, refl, sym, ap, subst, ◌∙◌}
use mathlib.Core.List.{List, [], append-nil}
use mathlib.Core.Bool.{not}
use Prim.Native.Nat.{ℕ, ◌*◌, ◌≤◌}
use native.Mathlib.Omega.{arith}
use lib.ListN.{length, replicate, length-replicate}
use lib.IntN.{ℤ, pos}
use borrow.Author.Tests.{eq-eqb}
use Rattle.model.specs.Book.{Book, fresh, head_of, keys, links}
use Rattle.model.specs.Text.{parse}
use Rattle.model.specs.Answer.{plain, refused}
use Rattle.model.specs.Gate.{After, reading, rows3, sized}
use Rattle.model.specs.Calls.{no_head, start, take_in}
use Rattle.model.specs.Runs.{Call, State, perform, state_of}
use Rattle.model.specs.Show.{taken_lines, fresh_taken, shown_text}
use Rattle.model.specs.declared.Answer.{Answer}
use Rattle.model.specs.declared.Outcome.{Outcome}
use Rattle.model.specs.declared.Outcome.TheVariants.{Found, Absent, Done, Refused}
use Rattle.model.specs.declared.Refusal.TheVariants.{Lengths}
use Rattle.model.proofs.Backs.{image-sound}
use Rattle.model.proofs.Books.{Valid}
use Rattle.model.proofs.Gates.{checked-open, gate-off}
use Rattle.model.proofs.Goods.{Good, image}
use Rattle.model.proofs.Kept.{start-good}
use Rattle.model.proofs.Passes.{Fit, pass3, keys_length, links-length}
use Rattle.model.proofs.Takes.{step-take}
use Rattle.model.proofs.Texts.{Taken, only-saved}
use Rattle.model.proofs.Trees.{pair}
use Rattle.weigh.specs.Sounds.{Sound}
use Rattle.print.specs.Place.{Puts}
use Rattle.page.specs.Texts.{SavedIn}

-- the memory of a book in order is a sound pool
record Pooled (K C : ℕ) (s : State) : Type 0 where
  sound : Sound s.head s.keys s.links
  k : s.head.k ≡ K
  c : s.head.c ≡ C

image-pooled : (K C : ℕ) (b : Book) → Fit K C → Valid K C b → Pooled K C (image K C b)
unfolding head_of
image-pooled K C b fit v = record {
  sound = record {
    room = record { k_low = fit.k_low; k_high = fit.k_high; c_low = fit.c_low; c_high = fit.c_high; wide = keys_length K C b v.sized; long = links-length K C b };
    good = image-sound K C b v;
  };
  k = refl;
  c = refl;
}

-- another way to write the same lines
same_lines : (K : ℕ) (a : After) (x : Outcome) → taken_lines K (reading a.answer a.keys a.links) x ≡ taken_lines K a x
same_lines K a Found = refl
same_lines K a Absent = refl
same_lines K a Done = refl
same_lines K a (Refused r) = refl

module _ (text : List ℕ) (K : ℕ) (saves : SavedIn text K) where
  abbrev ks : List ℤ
  ks = replicate (K * 512) (pos 0)

  abbrev ls : List ℕ
  ls = replicate 1536 0

  abbrev sc : List ℕ
  sc = replicate 512 0

  says : Taken text K saves.entries
  says = only-saved text K saves.entries saves.is

  pub few-fields : K ≤ 4
  few-fields = says.high

  fit : Fit K 512
  fit = record { k_low = says.low; k_high = says.high; c_low = omega arith; c_high = omega arith }

  started : (start K 512 ks ls).answer.outcome ≡ Done
  unfolding start
  started =
      ap (λ (a : After). a.answer.outcome)
      (checked-open (rows3 K 512 (sized K 512 ks ls)) (λ r. reading (refused no_head 0 r) ks ls) (reading (plain Done (head_of K 512 (fresh 512))) (keys K 512 (fresh 512)) (links K 512 (fresh 512)))
      (rw append-nil at (pass3 K 512 fit (sized K 512 ks ls) [])
      ∙ gate-off (not (sized K 512 ks ls)) Lengths [] (ap not (pair (eq-eqb (length ks) (K * 512) (length-replicate (K * 512) (pos 0))) (eq-eqb (length ls) (3 * 512) (length-replicate {A = ℕ} 1536 0))))))

  begun : Good K 512 (state_of (start K 512 ks ls)) []
  begun = (start-good K 512 ks ls started).1

  ended : Pooled K 512 (state_of (fresh_taken K text))
  unfolding perform
  ended = subst (λ (s : State). Pooled K 512 (state_of (perform (Call.take_in sc text) s))) (sym begun.same) after
    where
      after : Pooled K 512 (state_of (perform (Call.take_in sc text) (image K 512 begun.book)))
      after =
          let g = (step-take K 512 begun.book fit begun.valid sc text).good in
          subst (λ (s : State). Pooled K 512 s) (sym g.same) (image-pooled K 512 g.book fit g.valid)

  -- the two calls, one behind the other
  module _ (k₀ : List ℤ) (l₀ s₀ : List ℕ) (e₀ : (k₀ ≡ ks) × ((l₀ ≡ ls) × (s₀ ≡ sc)))
      (a₁ : Answer) (k₁ : List ℤ) (l₁ : List ℕ) (e₁ : (a₁ ≡ (start K 512 k₀ l₀).answer) × ((k₁ ≡ (start K 512 k₀ l₀).keys) × (l₁ ≡ (start K 512 k₀ l₀).links)))
      (a : Answer) (k₂ : List ℤ) (l₂ : List ℕ) (ea : a ≡ (take_in a₁.head k₁ l₁ s₀ text).answer) (ek : k₂ ≡ (take_in a₁.head k₁ l₁ s₀ text).keys) (el : l₂ ≡ (take_in a₁.head k₁ l₁ s₀ text).links) where
    abbrev F : After
    F = fresh_taken K text

    all : take_in a₁.head k₁ l₁ s₀ text ≡ F
    all =
        let p : start K 512 k₀ l₀ ≡ start K 512 ks ls = λ i. start K 512 (e₀.0 i) (e₀.1.0 i) in
        let h : a₁.head ≡ (start K 512 ks ls).answer.head = ap (λ (x : Answer). x.head) e₁.0 ∙ ap (λ (x : After). x.answer.head) p in
        let k : k₁ ≡ (start K 512 ks ls).keys = e₁.1.0 ∙ ap (λ (x : After). x.keys) p in
        let l : l₁ ≡ (start K 512 ks ls).links = e₁.1.1 ∙ ap (λ (x : After). x.links) p in
        λ i. take_in (h i) (k i) (l i) (e₀.1.1 i) text

    is-answer : a ≡ F.answer
    is-answer = ea ∙ ap (λ (x : After). x.answer) all

    is-keys : k₂ ≡ F.keys
    is-keys = ek ∙ ap (λ (x : After). x.keys) all

    is-links : l₂ ≡ F.links
    is-links = el ∙ ap (λ (x : After). x.links) all

    pool : Pooled K 512 (record { head = a.head; keys = k₂; links = l₂ })
    pool = subst (λ (s : State). Pooled K 512 s) (sym (λ i. record { head = (is-answer i).head; keys = is-keys i; links = is-links i })) ended

    pub answer-ready : (room : List ℕ) → 82080 ≤ length room → Sound a.head k₂ l₂ × ((a.head.c ≡ 512) × (82080 ≤ length room))
    answer-ready room h = (pool.sound, (pool.c, h))

    lines : taken_lines a.head.k (reading a k₂ l₂) a.outcome ≡ shown_text text (parse text)
    lines =
        (λ i. taken_lines (pool.k i) (reading (is-answer i) (is-keys i) (is-links i)) (is-answer i).outcome)
        ∙ same_lines K F F.answer.outcome
        ∙ ap (shown_text text) (sym saves.is)

    pub taken-put : (room o : List ℕ) (p : ℕ) → Puts room 0 (taken_lines a.head.k (reading a k₂ l₂) a.outcome) o p → Puts room 0 (shown_text text (parse text)) o p
    taken-put room o p = subst (λ (x : List ℕ). Puts room 0 x o p) lines
