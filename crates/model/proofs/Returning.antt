-- A run keeps its numbers within 64 bits, so that what it saves says what it holds; rising entries make the same set again.
use mathlib.Core.Path.{◌≡◌, refl, sym, ap, ◌∙◌}
use mathlib.Core.List.{List, [], ◌∷◌, ◌++◌, append_assoc, append-nil}
use mathlib.Core.Option.{Option, none, some}
use mathlib.Core.Bool.{Bool, true, false}
use Prim.Native.Nat.{ℕ, zero, suc, ◌+◌, ◌-◌, ◌/◌, ◌≤◌, Ordering}
use native.Mathlib.Omega.{arith}
use lib.ListN.{length, take, drop, replicate}
use lib.IntN.{ℤ, pos}
use Rattle.model.specs.Answer.{Row, checked, inward, outward, refusal_of}
use Rattle.model.specs.Ask.{new_of}
use Rattle.model.specs.Book.{Book}
use Rattle.model.specs.Calls.{entries_in}
use Rattle.model.specs.Demands.{rising}
use Rattle.model.specs.Entry.{Entry, cmp}
use Rattle.model.specs.Number.{in_range}
use Rattle.model.specs.Plain.{Turn, held_after, plain_add, plain_item, plain_items, plain_strike, plainly, within, within_all, without}
use Rattle.model.specs.Rebuild.{listing}
use Rattle.model.specs.Runs.{Call, Given, GivenAll, State}
use Rattle.model.specs.Text.{Parsed, broken, parse, ranged, rises, saved, text_of}
use Rattle.model.specs.Tray.{Work, adding, begins, striking, work_at, works, works_from}
use Rattle.model.specs.Tree.{size}
use Rattle.model.proofs.Backs.{valid-size}
use Rattle.model.proofs.Gates.{checked-by}
use Rattle.model.proofs.Goods.{Good, every-within, new-every}
use Rattle.model.proofs.Items.{entry_of_work}
use Rattle.model.proofs.Listings.{listing-all, listing-length, within-gt}
use Rattle.model.proofs.Lists.{Every, every-all, every-both, every-join}
use Rattle.model.proofs.Orders.{cmp-flip, flip}
use Rattle.model.proofs.Passes.{Fit}
use Rattle.model.proofs.Reaches.{listing-rises}
use Rattle.model.proofs.Texts.{RiseFrom, only-saved, rise-all, saved-back}
use Rattle.model.proofs.Trees.{Less, both, pair}
use Rattle.model.specs.declared.Entry.{Entry as Four}
use Rattle.model.specs.declared.Refusal.{Refusal}

abbrev pub Ranged : Entry → Type 0
Ranged e = ranged e ≡ true

-- numbers within 64 bits stay so
ranged-take : (k : ℕ) (e : Entry) → ranged e ≡ true → ranged (take k e) ≡ true
ranged-take zero e h = refl
ranged-take (suc k) [] h = refl
ranged-take (suc k) (x ∷ xs) h = let a = both (in_range x) (ranged xs) h in pair a.0 (ranged-take k xs a.1)

ranged-drop : (k : ℕ) (e : Entry) → ranged e ≡ true → ranged (drop k e) ≡ true
ranged-drop zero e h = h
ranged-drop (suc k) [] h = refl
ranged-drop (suc k) (x ∷ xs) h = ranged-drop k xs (both (in_range x) (ranged xs) h).1

ranged-out : (e : Entry) (n : ℕ) → ranged e ≡ true → ranged (e ++ replicate n (pos 0)) ≡ true
ranged-out [] zero h = refl
ranged-out [] (suc n) h = ranged-out [] n h
ranged-out (x ∷ xs) n h = let a = both (in_range x) (ranged xs) h in pair a.0 (ranged-out xs n a.1)

work-ranged : (K : ℕ) (xs : List ℤ) → ranged xs ≡ true → Ranged (entry_of_work (work_at K xs))
work-ranged K xs h = go (begins 1 xs) refl (ranged-take K (drop 1 xs) (ranged-drop 1 xs h))
  where
    go : (o : Bool) → begins 1 xs ≡ o → Ranged (take K (drop 1 xs)) → Ranged (entry_of_work (work_at K xs))
    go true q g = rw (q, work_at) g
    go false q g = rw (q, work_at) g

works-ranged : (K m : ℕ) (xs : List ℤ) → ranged xs ≡ true → Every (λ w. Ranged (entry_of_work w)) (works_from K m xs)
works-ranged K zero xs h = tt
works-ranged K (suc m) xs h = (work-ranged K xs h, works-ranged K m (drop (suc K) xs) (ranged-drop (suc K) xs h))

tray-ranged : (K : ℕ) (xs : List ℤ) → ranged xs ≡ true → Every (λ w. Ranged (entry_of_work w)) (works K xs)
unfolding works
tray-ranged K xs h = works-ranged K (length xs / suc K) xs h

every-without : (P : Entry → Type 0) (e : Entry) (es : List Entry) → Every P es → Every P (without e es)
every-without P e [] h = tt
every-without P e (x ∷ xs) (h, hs) = go (cmp 0 e x) refl (every-without P e xs hs)
  where
    go : (o : Ordering) → cmp 0 e x ≡ o → Every P (without e xs) → Every P (without e (x ∷ xs))
    go Ordering.lt c ih = rw (c, without) (h, ih)
    go Ordering.eq c ih = rw (c, without) hs
    go Ordering.gt c ih = rw (c, without) (h, ih)

every-within_all : (P : Entry → Type 0) (new es : List Entry) → Every P new → Every P es → Every P (within_all new es)
every-within_all P [] es n h = h
every-within_all P (e ∷ new) es (n, ns) h = every-within_all P new (within e es) ns (every-within P e es n h)

-- what a text says is within 64 bits
text-ranged : (text : List ℕ) (p : Parsed) → parse text ≡ p → Every Ranged (entries_in p)
text-ranged text (broken l) e = tt
text-ranged text (saved k es) e = (only-saved text k es e).writable.ranged

pub held_by : (P : List Entry → Type 0) (rows : List Row) (refuse : Refusal → Turn) (accept : Turn) → ((r : Refusal) → P (refuse r).held) → P accept.held → P (checked rows refuse accept).held
held_by P rows refuse accept x y = checked-by (λ t. P t.held) rows refuse accept (λ r g. x r) (λ g. y)

-- one entry more, one less, and the items of a tray in turn
add-ranged : (K C : ℕ) (sc : List ℕ) (e : Four) (es : List Entry) → Ranged e.f → Every Ranged es → Every Ranged (plain_add K C sc e es).held
add-ranged K C sc e es g h = held_by (Every Ranged) _ _ _ (λ r. h) (every-within Ranged (inward K e) es (ranged-take K e.f g) h)

strike-ranged : (K C : ℕ) (sc : List ℕ) (e : Four) (es : List Entry) → Every Ranged es → Every Ranged (plain_strike K C sc e es).held
strike-ranged K C sc e es h = held_by (Every Ranged) _ _ _ (λ r. h) (every-without Ranged (inward K e) es h)

item-ranged : (K C : ℕ) (w : Work) (es : List Entry) → Ranged (entry_of_work w) → Every Ranged es → Every Ranged (plain_item K C w es).held
item-ranged K C (adding e) es g h = add-ranged K C (replicate C 0) (outward e) es (ranged-out e (4 - length e) g) h
item-ranged K C (striking e) es g h = strike-ranged K C (replicate C 0) (outward e) es h

items-ranged : (K C : ℕ) (before : List Entry) → Every Ranged before → (ws : List Work) → Every (λ w. Ranged (entry_of_work w)) ws → (p : ℕ) (es : List Entry) → Every Ranged es → Every Ranged (plain_items K C before p ws es).held
items-ranged K C before b [] g p es h = h
items-ranged K C before b (w ∷ ws) (g, gs) p es h = go (refusal_of (plain_item K C w es).said.outcome) refl (items-ranged K C before b ws gs (suc p) (plain_item K C w es).held (item-ranged K C w es g h))
  where
    go : (o : Option Refusal) → refusal_of (plain_item K C w es).said.outcome ≡ o → Every Ranged (plain_items K C before (suc p) ws (plain_item K C w es).held).held → Every Ranged (plain_items K C before p (w ∷ ws) es).held
    go none q ih = rw (q, plain_items) ih
    go (some r) q ih = rw (q, plain_items) b

held-ranged : (K C : ℕ) (c : Call) → Given c → (es : List Entry) → Every Ranged es → Every Ranged (plainly K C c es).held
unfolding plainly
held-ranged K C (Call.add sc e) g es h = add-ranged K C sc e es g.bits h
held-ranged K C (Call.strike sc e) g es h = strike-ranged K C sc e es h
held-ranged K C (Call.look_up e) g es h = h
held-ranged K C (Call.count bs) g es h = h
held-ranged K C (Call.list bs room) g es h = held_by (Every Ranged) _ _ _ (λ r. h) h
held-ranged K C (Call.nearest q ss) g es h = held_by (Every Ranged) _ _ _ (λ r. h) h
held-ranged K C (Call.save page) g es h = held_by (Every Ranged) _ _ _ (λ r. h) h
held-ranged K C (Call.take_in sc text) g es h = held_by (Every Ranged) _ _ _ (λ r. h) (every-within_all Ranged (new_of es (entries_in (parse text))) es (new-every Ranged es (entries_in (parse text)) (text-ranged text (parse text) refl)) h)
held-ranged K C (Call.tray sc xs) g es h = held_by (Every Ranged) _ _ _ (λ r. h) (items-ranged K C es h (works K xs) (tray-ranged K xs g) 1 es h)

pub run-ranged : (K C : ℕ) (cs : List Call) → GivenAll cs → (es : List Entry) → Every Ranged es → Every Ranged (held_after K C cs es)
run-ranged K C [] g es h = h
run-ranged K C (c ∷ cs) (g, gs) es h = run-ranged K C cs gs (plainly K C c es).held (held-ranged K C c g es h)

-- the print of a plain set says that set
pub rise-of : (last : Option Entry) (es : List Entry) → rising last es ≡ true → RiseFrom last es
rise-of last [] h = tt
rise-of last (e ∷ es) h = let a = both (rises last e) (rising (some e) es) h in (a.0, rise-of (some e) es a.1)

pub good-rise : (K C : ℕ) (s : State) (es : List Entry) → Good K C s es → RiseFrom none es
good-rise K C s es g = rw g.holds at (rise-of none (listing g.book.tree) (listing-rises g.book.tree g.valid.ordered))

pub good-saved : (K C : ℕ) (s : State) (es : List Entry) → Fit K C → Good K C s es → Every Ranged es → parse (text_of K es) ≡ saved K es
good-saved K C s es fit g r =
    let b : Book = g.book in
    let n : size b.tree + length b.chain ≡ C = valid-size K C b g.valid in
    let m : length es ≡ size b.tree = sym (ap length g.holds) ∙ listing-length b.tree in
    let c : C ≤ 4096 = fit.c_high in
    saved-back K es fit.k_low fit.k_high (omega arith)
    (record { sized = rw g.holds at (listing-all (λ e. length e ≡ K) b.tree g.valid.sized); ranged = r; rising = good-rise K C s es g })

-- rising entries put into an empty set, one behind the other
within-last : (e : Entry) (es : List Entry) → Every (λ x. Less 0 x e) es → within e es ≡ es ++ (e ∷ [])
within-last e [] h = refl
within-last e (x ∷ xs) (h, hs) = within-gt e x xs (cmp-flip 0 x e ∙ ap flip h) ∙ ap (λ y. x ∷ y) (within-last e xs hs)

within_all-rise : (new es : List Entry) → Every (λ e. Every (λ x. Less 0 x e) es) new → (last : Option Entry) → RiseFrom last new → within_all new es ≡ es ++ new
within_all-rise [] es h last r = sym (append-nil es)
within_all-rise (e ∷ new) es (h, hs) last (r, rs) =
    ap (within_all new) (within-last e es h)
    ∙ within_all-rise new (es ++ (e ∷ [])) (every-both (λ d. Every (λ x. Less 0 x d) es) (Less 0 e) (λ d. Every (λ x. Less 0 x d) (es ++ (e ∷ []))) (λ d a l. every-join (λ x. Less 0 x d) es (e ∷ []) a (l, tt)) new hs (rise-all e new rs)) (some e) rs
    ∙ append_assoc es (e ∷ []) new

pub new-of-none : (es : List Entry) → new_of [] es ≡ es
new-of-none [] = refl
new-of-none (e ∷ es) = ap (λ x. e ∷ x) (new-of-none es)

pub fresh_set : (es : List Entry) → RiseFrom none es → within_all (new_of [] es) [] ≡ es
fresh_set es r = ap (λ x. within_all x []) (new-of-none es) ∙ within_all-rise es [] (every-all (λ e. Unit {0}) (λ e. tt) es) none r
