use native.Mathlib.Omega.{arith}
use Rattle.alter.proofs.Struck as struck
use Rattle.alter.proofs.Heirs as heirs
use Rattle.alter.proofs.Replaced as replaced
use Rattle.alter.proofs.strike.+replace_strike_strike_on.Goals as goal
use Rattle.alter.proofs.strike.+replace_strike_strike_on.Goals.{strike-in-Less, strike-in-Greater}

pub replace-higher-side-requires : goal.replace-higher-side-requires
replace-higher-side-requires t c =
    (heirs.slot-here c.requires.room.0 (heirs.some-slot c.args.s c.requires.room.1.1) c.requires.strikable, heirs.children-fit c.requires.room.0 (heirs.some-slot c.args.s c.requires.room.1.1) c.requires.strikable)

pub replace-child_of-child-requires : goal.replace-child_of-child-requires
replace-child_of-child-requires t c =
    heirs.slot-here c.requires.room.0 (heirs.some-slot c.args.s c.requires.room.1.1) c.requires.strikable

pub replace-returns-then-child-eq0-clause-tree : goal.replace-returns-then-child-eq0-clause-tree
replace-returns-then-child-eq0-clause-tree t c =
    let hi = c.higher-side in
    let ch = c.child_of-child in
    replaced.struck-leaf c.requires.room.0 (heirs.some-slot c.args.s c.requires.room.1.1) c.requires.strikable hi.ensures ch.ensures c.if-child-eq0.true

pub replace-seek-heir-requires-clause-standing : goal.replace-seek-heir-requires-clause-standing
replace-seek-heir-requires-clause-standing t c =
    let hi = c.higher-side in
    let ch = c.child_of-child in
    let nx = c.next_cut-next in
    replaced.child-stands c.requires.room.0 (heirs.some-slot c.args.s c.requires.room.1.1) c.requires.strikable hi.ensures ch.ensures c.if-child-eq0.false nx.ensures

pub replace-entry_at-numbers-requires : goal.replace-entry_at-numbers-requires
replace-entry_at-numbers-requires t c =
    let hi = c.higher-side in
    let ch = c.child_of-child in
    let nx = c.next_cut-next in
    let sk = c.seek-heir in
    (c.requires.room.0.k_high, (replaced.heir-small c.requires.room.0 (heirs.some-slot c.args.s c.requires.room.1.1) c.requires.strikable hi.ensures ch.ensures c.if-child-eq0.false nx.ensures sk.ensures, replaced.heir-keyed c.requires.room.0 (heirs.some-slot c.args.s c.requires.room.1.1) c.requires.strikable hi.ensures ch.ensures c.if-child-eq0.false nx.ensures sk.ensures))

pub replace-put_entry-requires : goal.replace-put_entry-requires
replace-put_entry-requires t c =
    (c.requires.room.0.k_high, (heirs.small-here c.requires.room.0 (heirs.some-slot c.args.s c.requires.room.1.1) c.requires.strikable, heirs.keyed-here c.requires.room.0 (heirs.some-slot c.args.s c.requires.room.1.1) c.requires.strikable))

pub replace-strike_on-requires : goal.replace-strike_on-requires
replace-strike_on-requires t c =
    let hi = c.higher-side in
    let ch = c.child_of-child in
    let nx = c.next_cut-next in
    let sk = c.seek-heir in
    let ea = c.entry_at-numbers in
    let pe = c.put_entry in
    let z = c.decreases in
    (omega arith, ((rw pe.auto.keys c.requires.room.0, c.requires.room.1), (replaced.replaced-ready c.requires.room.0 (heirs.some-slot c.args.s c.requires.room.1.1) c.requires.strikable hi.ensures ch.ensures c.if-child-eq0.false nx.ensures sk.ensures ea.ensures pe.ensures, c.requires.lists)))

pub replace-returns-clause-tree : goal.replace-returns-clause-tree
replace-returns-clause-tree t c =
    let hi = c.higher-side in
    let ch = c.child_of-child in
    let nx = c.next_cut-next in
    let sk = c.seek-heir in
    let ea = c.entry_at-numbers in
    let pe = c.put_entry in
    let so = c.strike_on in
    replaced.replaced c.requires.room.0 (heirs.some-slot c.args.s c.requires.room.1.1) c.requires.strikable hi.ensures ch.ensures c.if-child-eq0.false nx.ensures sk.ensures ea.ensures pe.ensures so.ensures.tree

pub strike-returns-then-s-eq0-clause-tree : goal.strike-returns-then-s-eq0-clause-tree
strike-returns-then-s-eq0-clause-tree t c =
    replaced.struck-none c.if-s-eq0.true

pub strike-strike_on-requires : goal.strike-strike_on-requires
strike-strike_on-requires t c =
    let z = c.decreases in
    (omega arith, ((c.requires.room.0, (c.requires.room.1, heirs.slot-some c.args.s c.if-s-eq0.false)), (heirs.side-ready c.requires.room.0 c.if-s-eq0.false c.requires.strikable c.match-compare_entry.side, c.requires.lists)))

pub strike-returns-in-Equal-clause-tree : goal.strike-returns-in-Equal-clause-tree
strike-returns-in-Equal-clause-tree t c =
    heirs.struck-equal c.requires.room.0 c.if-s-eq0.false c.requires.strikable c.compare_entry.ensures c.in-Equal.is c.replace.ensures.tree

pub strike-returns-clause-tree : goal.strike-returns-clause-tree
strike-returns-clause-tree t c =
    let done = c.strike_on.ensures.tree in
    elim c.match-compare_entry.branch [
      | strike-in-Less w ↦ heirs.struck-less c.requires.room.0 c.if-s-eq0.false c.requires.strikable c.compare_entry.ensures w.in-Less.is (rw w.side-is at done)
      | strike-in-Greater w ↦ heirs.struck-greater c.requires.room.0 c.if-s-eq0.false c.requires.strikable c.compare_entry.ensures w.in-Greater.is (rw w.side-is at done)
    ]

pub strike_on-strike-x-requires : goal.strike_on-strike-x-requires
strike_on-strike-x-requires t c =
    let n = c.next_cut-next in
    let ch = c.child_of-child in
    let f = struck.side-falls c.requires.strikable_on ch.ensures in
    let z = c.decreases in
    (omega arith, ((c.requires.room.0, n.ensures.low), (struck.side-strikable c.requires.strikable_on ch.ensures n.ensures, c.requires.lists)))

pub strike_on-returns-clause-tree : goal.strike_on-returns-clause-tree
strike_on-returns-clause-tree t c =
    let n = c.next_cut-next in
    let ch = c.child_of-child in
    let x = c.strike-x in
    let md = c.mend_on-root in
    struck.struck-on _ _ _ _ _ _ _ _ _ _ _ _ x.auto.links n.ensures ch.ensures x.ensures.tree c.requires.strikable_on md.ensures.tree

pub strike-compare_entry-requires-clause-cut_lt_k : goal.strike-compare_entry-requires-clause-cut_lt_k
strike-compare_entry-requires-clause-cut_lt_k t c =
    (c.requires.room.1, (c.requires.room.0.k_high, heirs.small-here c.requires.room.0 c.if-s-eq0.false c.requires.strikable))

pub strike-compare_entry-requires-clause-keyed : goal.strike-compare_entry-requires-clause-keyed
strike-compare_entry-requires-clause-keyed t c =
    heirs.keyed-here c.requires.room.0 c.if-s-eq0.false c.requires.strikable

pub strike_on-mend_on-root-requires-clause-mendable_on : goal.strike_on-mend_on-root-requires-clause-mendable_on
strike_on-mend_on-root-requires-clause-mendable_on t c =
    let n = c.next_cut-next in
    let ch = c.child_of-child in
    let x = c.strike-x in
    struck.side-mendable _ _ _ _ _ _ _ _ _ _ _ _ x.auto.links n.ensures ch.ensures x.ensures.tree c.requires.strikable_on
