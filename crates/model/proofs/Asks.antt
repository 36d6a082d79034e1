-- Count, list, nearest and save on a state that a run can reach: they say what a reading of the plain set says.
use mathlib.Core.Path.{◌≡◌, refl, ap, ◌∙◌}
use mathlib.Core.List.{List, [], ◌∷◌, ◌++◌}
use mathlib.Core.Option.{Option, none, some}
use Prim.Native.Nat.{ℕ, ◌*◌}
use lib.Dec.{ltb}
use lib.ListN.{length, take, drop}
use lib.IntN.{ℤ}
use Rattle.model.specs.Answer.{Row, checked, counted, inward, outward, refused, wrote}
use Rattle.model.specs.Ask.{keep, nearest}
use Rattle.model.specs.Book.{Book, head_of, keys, links}
use Rattle.model.specs.Calls.{any_zero, count, flat, list, near, near_answer, save}
use Rattle.model.specs.Entry.{Entry}
use Rattle.model.specs.Gate.{After, reading, rows4}
use Rattle.model.specs.Plain.{near_said, plainly, refusing, said_in, saying, says}
use Rattle.model.specs.Pool.{book_of}
use Rattle.model.specs.Rebuild.{listing}
use Rattle.model.specs.Runs.{Call, perform}
use Rattle.model.specs.Text.{text_of}
use Rattle.model.specs.Tree.{Tree}
use Rattle.model.proofs.Backs.{image-book}
use Rattle.model.proofs.Books.{Valid}
use Rattle.model.proofs.Gates.{checked-same}
use Rattle.model.proofs.Goods.{image}
use Rattle.model.proofs.Passes.{Fit, pass4}
use Rattle.model.proofs.Steps.{Stepped, by_rows, stays}
use Rattle.model.specs.declared.Bound.{Bound}
use Rattle.model.specs.declared.Entry.{Entry as Four}
use Rattle.model.specs.declared.Head.{Head}
use Rattle.model.specs.declared.Outcome.TheVariants.{Done}
use Rattle.model.specs.declared.Refusal.{Refusal}
use Rattle.model.specs.declared.Refusal.TheVariants.{Room, Step}

-- nearest returns the head that it was given
pub near-head : (h : Head) (steps : List ℕ) (q : Entry) (u : Tree) (o : Option Entry) → (near_answer h steps q u o).head ≡ h
near-head h steps q u none = refl
near-head h steps q u (some e) = refl

module _ (K C : ℕ) (b : Book) (fit : Fit K C) (v : Valid K C b) where
  -- a call that reads the book behind rows 1 to 4 and some of its own
  reads-rows : (own : Book → List Row) (refuse : Refusal → After) (accept : Book → After) → checked (rows4 (head_of K C b) (keys K C b) (links K C b) ++ own (book_of (head_of K C b) (keys K C b) (links K C b))) refuse (accept (book_of (head_of K C b) (keys K C b) (links K C b))) ≡ checked (own b) refuse (accept b)
  reads-rows own refuse accept =
      ap (λ x. checked (rows4 (head_of K C b) (keys K C b) (links K C b) ++ own x) refuse (accept x)) (image-book K C b v)
      ∙ checked-same (rows4 (head_of K C b) (keys K C b) (links K C b) ++ own b) (own b) refuse (accept b) (pass4 K C b fit v (own b))

  pub step_count : (bs : List Bound) → Stepped K C (Call.count bs) (image K C b) (listing b.tree)
  unfolding perform count plainly checked head_of
  step_count bs =
      let h : Head = head_of K C b in
      let refuse : Refusal → After = λ r. reading (refused h 0 r) (keys K C b) (links K C b) in
      let accept : Book → After = λ x. reading (counted h (length (keep bs (listing x.tree)))) (keys K C b) (links K C b) in
      by_rows K C b fit v (Call.count bs) [] refuse (accept b)
      (refusing (listing b.tree) [] [] 0) (saying (listing b.tree) (says Done (outward []) 0 (length (keep bs (listing b.tree))) 0))
      (reads-rows (λ x. []) refuse accept) refl (λ r. refl) (λ g. refl) (λ r. refl) (λ r. refl) (λ g. stays K C b fit v)

  pub step-list : (bs : List Bound) (room : List ℤ) → Stepped K C (Call.list bs room) (image K C b) (listing b.tree)
  unfolding perform list plainly head_of
  step-list bs room =
      let h : Head = head_of K C b in
      let es : List Entry = listing b.tree in
      let refuse : Refusal → After = λ r. record { answer = refused h 0 r; keys = keys K C b; links = links K C b; scratch = []; room = room; page = [] } in
      let accept : Book → After = λ x. record { answer = counted h (length (keep bs (listing x.tree))); keys = keys K C b; links = links K C b; scratch = []; room = flat (keep bs (listing x.tree)) ++ drop (K * length (keep bs (listing x.tree))) room; page = [] } in
      by_rows K C b fit v (Call.list bs room) ((ltb (length room) (K * length (keep bs es)), Room) ∷ []) refuse (accept b)
      (refusing es room [] 0)
      (saying es (record { outcome = Done; entry = outward []; distance = 0; count = length (keep bs es); bytes = 0; line = 0; place = 0; room = flat (keep bs es) ++ drop (K * length (keep bs es)) room; page = [] }))
      (reads-rows (λ x. (ltb (length room) (K * length (keep bs (listing x.tree))), Room) ∷ []) refuse accept) refl (λ r. refl) (λ g. refl) (λ r. refl) (λ r. refl) (λ g. stays K C b fit v)

  near-said : (steps : List ℕ) (q : Entry) (o : Option Entry) → said_in (reading (near_answer (head_of K C b) steps q b.tree o) (keys K C b) (links K C b)) ≡ near_said steps q o
  near-said steps q none = refl
  near-said steps q (some e) = refl

  pub perform-nearest : (q : Four) (steps : List ℕ) → perform (Call.nearest q steps) (image K C b) ≡ checked ((any_zero (take K steps), Step) ∷ []) (λ r. reading (refused (head_of K C b) 0 r) (keys K C b) (links K C b)) (reading (near_answer (head_of K C b) steps (inward K q) b.tree (nearest steps (inward K q) (listing b.tree))) (keys K C b) (links K C b))
  unfolding perform near head_of
  perform-nearest q steps = reads-rows (λ x. (any_zero (take K steps), Step) ∷ []) (λ r. reading (refused (head_of K C b) 0 r) (keys K C b) (links K C b)) (λ x. reading (near_answer (head_of K C b) steps (inward K q) x.tree (nearest steps (inward K q) (listing x.tree))) (keys K C b) (links K C b))

  pub step-nearest : (q : Four) (steps : List ℕ) → Stepped K C (Call.nearest q steps) (image K C b) (listing b.tree)
  unfolding plainly head_of
  step-nearest q steps =
      let h : Head = head_of K C b in
      let refuse : Refusal → After = λ r. reading (refused h 0 r) (keys K C b) (links K C b) in
      let accept : Book → After = λ x. reading (near_answer h steps (inward K q) x.tree (nearest steps (inward K q) (listing x.tree))) (keys K C b) (links K C b) in
      by_rows K C b fit v (Call.nearest q steps) ((any_zero (take K steps), Step) ∷ []) refuse (accept b)
      (refusing (listing b.tree) [] [] 0) (saying (listing b.tree) (near_said steps (inward K q) (nearest steps (inward K q) (listing b.tree))))
      (perform-nearest q steps) refl (λ r. refl) (λ g. near-said steps (inward K q) (nearest steps (inward K q) (listing b.tree))) (λ r. refl) (λ r. refl)
      (λ g. record { book = b; valid = v; same = ap (λ z. record { head = z; keys = keys K C b; links = links K C b }) (near-head (head_of K C b) steps (inward K q) b.tree (nearest steps (inward K q) (listing b.tree))); holds = refl })

  pub step-save : (room : List ℕ) → Stepped K C (Call.save room) (image K C b) (listing b.tree)
  unfolding perform save plainly head_of
  step-save room =
      let h : Head = head_of K C b in
      let text : List ℕ = text_of K (listing b.tree) in
      let refuse : Refusal → After = λ r. record { answer = refused h 0 r; keys = keys K C b; links = links K C b; scratch = []; room = []; page = room } in
      let accept : Book → After = λ x. record { answer = wrote h (length (text_of K (listing x.tree))); keys = keys K C b; links = links K C b; scratch = []; room = []; page = text_of K (listing x.tree) ++ drop (length (text_of K (listing x.tree))) room } in
      by_rows K C b fit v (Call.save room) ((ltb (length room) (length text), Room) ∷ []) refuse (accept b)
      (refusing (listing b.tree) [] room 0)
      (saying (listing b.tree) (record { outcome = Done; entry = outward []; distance = 0; count = 0; bytes = length text; line = 0; place = 0; room = []; page = text ++ drop (length text) room }))
      (reads-rows (λ x. (ltb (length room) (length (text_of K (listing x.tree))), Room) ∷ []) refuse accept) refl (λ r. refl) (λ g. refl) (λ r. refl) (λ r. refl) (λ g. stays K C b fit v)
