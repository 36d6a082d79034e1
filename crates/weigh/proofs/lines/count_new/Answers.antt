use native.Mathlib.Omega.{arith}
use mathlib.Core.Path.{◌≡◌, ◌∙◌}
use mathlib.Core.List.{[], ◌∷◌}
use lib.ListN.{length}
use Rattle.model.specs.Answer.{inward}
use Rattle.model.specs.Ask.{new_of}
use Rattle.model.specs.Pool.{book_of}
use Rattle.model.specs.Rebuild.{listing}
use Rattle.weigh.proofs.Counted.{counts-first, counts-on, counts-low, one-new}
use Rattle.weigh.proofs.Saved.{text-cut, reads_first, line-ready}
use Rattle.weigh.proofs.lines.count_new.Goals as goal

pub first_entry-rest-requires : goal.first_entry-rest-requires
first_entry-rest-requires c = text-cut c.args.text.now c.args.known.now.head.k c.args.lines c.requires

pub read_entry-requires : goal.read_entry-requires
read_entry-requires c = let l = c.loop in line-ready c.args.text.now c.args.known.now.head.k c.args.lines c.requires _ _ l.invariant.0 (omega arith)

-- 1 for an entry that is not there, else 0
one : (c : goal.After-from-new) → c.from-new.result ≡ length (new_of (listing (book_of c.args.known.now.head c.args.known.now.keys.now c.args.known.now.links.now).tree) (inward c.args.known.now.head.k c.read_entry.result.0 ∷ []))
one c = c.from-new.ensures ∙ one-new _ _ _ c.is_there.ensures

pub overflow_add-new : goal.overflow_add-new
overflow_add-new c = let b = counts-low _ c.args.text.now c.args.known.now.head.k c.args.lines c.requires _ _ _ c.loop.invariant (omega arith) c.read_entry.result c.read_entry.ensures _ (one c) in omega arith

pub loop-init : goal.loop-init
loop-init c = counts-first _ c.args.text.now c.args.known.now.head.k c.args.lines c.requires _ (reads_first c.args.text.now c.args.known.now.head.k c.args.lines c.requires _ c.first_entry-rest.ensures)

pub loop-preserved : goal.loop-preserved
loop-preserved c = counts-on _ c.args.text.now c.args.known.now.head.k c.args.lines c.requires _ _ _ c.loop.invariant (omega arith) c.read_entry.result c.read_entry.ensures _ (one c)
