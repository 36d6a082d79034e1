-- The plain book: a finite set of entries, and what every call says of it. It knows no tree, no slot and no memory.
use Rattle.std.specs.Prelude.{List, [], ◌∷◌, ◌++◌, true, false, not, ltb, eqb, length, take, drop, replicate, ℤ}
use Rattle.std.proofs.Math.Option.{Option, none, some}
use Prim.Native.Nat.{ℕ, suc, ◌+◌, ◌*◌, Ordering}
use Rattle.model.specs.Entry.{Entry, cmp, distance}
use Rattle.model.specs.Ask.{has, new_of, keep, nearest}
use Rattle.model.specs.Text.{parse, text_of}
use Rattle.model.specs.Answer.{checked, refusal_of, line_in, inward, outward}
use Rattle.model.specs.Gate.{After}
use Rattle.model.specs.Calls.{flat, any_zero, broken_at, is_broken, fields_of_parsed, entries_in}
use Rattle.model.specs.Tray.{Work, adding, striking, works, trayed}
use Rattle.model.specs.Runs.{Call}
use Rattle.model.specs.declared.Entry.{Entry as Four}
use Rattle.model.specs.declared.Refusal.{Refusal}
use Rattle.model.specs.declared.Refusal.TheVariants.{Lengths, Present, Missing, Full, Room, Text, Mismatch, Step, Tray}
use Rattle.model.specs.declared.Outcome.{Outcome}
use Rattle.model.specs.declared.Outcome.TheVariants.{Found, Absent, Done, Refused}

-- What a call says: its answer without head, slot and reads; and what stands in the room afterwards.
pub record Said : Type 0 where
  pub outcome : Outcome
  pub entry : Four
  pub distance : ℕ
  pub count : ℕ
  pub bytes : ℕ
  pub line : ℕ
  pub place : ℕ
  pub room : List ℤ
  pub page : List ℕ

abbrev pub said_in : After → Said
said_in a =
    record {
      outcome = a.answer.outcome;
      entry = a.answer.entry;
      distance = a.answer.distance;
      count = a.answer.count;
      bytes = a.answer.bytes;
      line = a.answer.line;
      place = a.answer.place;
      room = a.room;
      page = a.page;
    }

-- The set is kept as its entries in listing order: one put in where it is not there, one taken out.
abbrev pub within : Entry → List Entry → List Entry
within e [] = e ∷ []
within e (x ∷ xs) = elim (cmp 0 e x) [ Ordering.lt ↦ e ∷ x ∷ xs | Ordering.eq ↦ x ∷ xs | Ordering.gt ↦ x ∷ within e xs ]

abbrev pub without : Entry → List Entry → List Entry
without e [] = []
without e (x ∷ xs) = elim (cmp 0 e x) [ Ordering.lt ↦ x ∷ without e xs | Ordering.eq ↦ xs | Ordering.gt ↦ x ∷ without e xs ]

abbrev pub within_all : List Entry → List Entry → List Entry
within_all [] es = es
within_all (e ∷ new) es = within_all new (within e es)

-- What a call says and the entries that are held after it.
pub record Turn : Type 0 where
  pub said : Said
  pub held : List Entry

abbrev pub says : Outcome → Four → ℕ → ℕ → ℕ → Said
says o e d m b = record { outcome = o; entry = e; distance = d; count = m; bytes = b; line = 0; place = 0; room = []; page = [] }

-- A refusal changes nothing, room included.
abbrev pub refusing : List Entry → List ℤ → List ℕ → ℕ → Refusal → Turn
refusing es room page l r =
    record {
      said = record { outcome = Refused r; entry = outward []; distance = 0; count = 0; bytes = 0; line = line_in r l; place = 0; room = room; page = page };
      held = es;
    }

abbrev pub saying : List Entry → Said → Turn
saying es x = record { said = x; held = es }

abbrev pub near_said : List ℕ → Entry → Option Entry → Said
near_said steps q none = says Absent (outward []) 0 0 0
near_said steps q (some e) = says Found (outward e) (distance steps q e) 0 0

-- One entry more, one less, in a plain book of K fields that can hold C entries.
abbrev pub plain_add : ℕ → ℕ → List ℕ → Four → List Entry → Turn
plain_add K C sc e es =
    checked ((not (eqb (length sc) C), Lengths) ∷ (has (inward K e) es, Present) ∷ (eqb (length es) C, Full) ∷ [])
    (refusing es [] [] 0) (saying (within (inward K e) es) (says Done (outward []) 0 0 0))

abbrev pub plain_strike : ℕ → ℕ → List ℕ → Four → List Entry → Turn
plain_strike K C sc e es =
    checked ((not (eqb (length sc) C), Lengths) ∷ (not (has (inward K e) es), Missing) ∷ [])
    (refusing es [] [] 0) (saying (without (inward K e) es) (says Done (outward []) 0 0 0))

-- An item of a tray is that add or that strike, with a scratch of the right length. (02, M-100: a batch counts as its items.)
abbrev pub plain_item : ℕ → ℕ → Work → List Entry → Turn
plain_item K C (adding e) es = plain_add K C (replicate C 0) (outward e) es
plain_item K C (striking e) es = plain_strike K C (replicate C 0) (outward e) es

-- A tray refused by the item at a place: what was held before it is held. (02, M-100.)
abbrev pub refusing_at : List Entry → ℕ → Refusal → Turn
refusing_at es p r =
    record {
      said = record { outcome = Refused r; entry = outward []; distance = 0; count = 0; bytes = 0; line = 0; place = p; room = []; page = [] };
      held = es;
    }

-- Items from place p on, where es is held by then and `before` was held before the tray; the first refused one stops all. (02, M-100.)
abbrev pub plain_items : ℕ → ℕ → List Entry → ℕ → List Work → List Entry → Turn
plain_items K C before p [] es = saying es (says Done (outward []) 0 0 0)
plain_items K C before p (w ∷ ws) es =
    elim (refusal_of (plain_item K C w es).said.outcome) [
      | some r ↦ refusing_at before p r
      | none ↦ plain_items K C before (suc p) ws (plain_item K C w es).held
    ]

-- Each call on a plain book of K fields that can hold C entries.
unfoldable pub plainly : ℕ → ℕ → Call → List Entry → Turn
plainly K C (Call.add sc e) es = plain_add K C sc e es
plainly K C (Call.strike sc e) es = plain_strike K C sc e es
plainly K C (Call.look_up e) es =
    saying es (elim (has (inward K e) es) [ true ↦ says Found (outward (inward K e)) 0 0 0 | false ↦ says Absent (outward []) 0 0 0 ])
plainly K C (Call.count bs) es = saying es (says Done (outward []) 0 (length (keep bs es)) 0)
plainly K C (Call.list bs room) es =
    let m : ℕ = length (keep bs es) in
    checked ((ltb (length room) (K * m), Room) ∷ [])
    (refusing es room [] 0)
    (saying es (record { outcome = Done; entry = outward []; distance = 0; count = m; bytes = 0; line = 0; place = 0; room = flat (keep bs es) ++ drop (K * m) room; page = [] }))
plainly K C (Call.nearest q steps) es =
    checked ((any_zero (take K steps), Step) ∷ []) (refusing es [] [] 0)
    (saying es (near_said steps (inward K q) (nearest steps (inward K q) es)))
plainly K C (Call.save room) es =
    let text : List ℕ = text_of K es in
    checked ((ltb (length room) (length text), Room) ∷ [])
    (refusing es [] room 0)
    (saying es (record { outcome = Done; entry = outward []; distance = 0; count = 0; bytes = length text; line = 0; place = 0; room = []; page = text ++ drop (length text) room }))
plainly K C (Call.take_in sc text) es =
    let new : List Entry = new_of es (entries_in (parse text)) in
    checked
    ((not (eqb (length sc) C), Lengths) ∷ (is_broken (parse text), Text) ∷ (not (eqb (fields_of_parsed (parse text)) K), Mismatch)
    ∷ (ltb C (length es + length new), Full) ∷ [])
    (refusing es [] [] (broken_at (parse text))) (saying (within_all new es) (says Done (outward []) 0 0 0))
plainly K C (Call.tray sc xs) es =
    checked ((not (eqb (length sc) C), Lengths) ∷ (not (trayed K xs), Tray) ∷ []) (refusing es [] [] 0)
    (plain_items K C es 1 (works K xs) es)

abbrev pub held_after : ℕ → ℕ → List Call → List Entry → List Entry
held_after K C [] es = es
held_after K C (c ∷ cs) es = held_after K C cs (plainly K C c es).held
