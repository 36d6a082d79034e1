-- The bench cases and the trays hold and the damaged pools are not sound, by computing.
use mathlib.Core.Path.{refl}
use Rattle.model.specs.Bench.{Bench}
use Rattle.model.specs.Damage.{Damage}
use Rattle.model.specs.Handed.{Handed}
use Rattle.model.proofs.Opened.{opened}

pub bench : Bench
unfolding opened
bench =
    record {
      B1 = (refl, refl);
      B2 = (refl, refl, refl, refl);
      B3 = (refl, refl, refl, refl);
      B4 = (refl, refl);
      B5 = (refl, refl, refl);
      B6 = (refl, refl, refl);
      B7 = refl;
      B8 = refl;
      B9 = (refl, refl);
      B10 = (refl, refl, refl, refl, refl, refl, refl, refl, refl, refl, refl, refl);
      B11 = refl;
      B12 = (refl, refl, refl, refl, refl, refl);
    }

pub damage : Damage
unfolding opened
damage =
    record {
      whole = refl;
      shared = refl;
      circle = refl;
      outside = refl;
      root_outside = refl;
      height = refl;
      order = refl;
      twice = refl;
      count = refl;
      uneven = refl;
      chain_whole = refl;
      chain_circle = refl;
      chain_short = refl;
      chain_outside = refl;
      not_cleared = refl;
      right_left = refl;
    }

pub handed : Handed
unfolding opened
handed =
    record {
      empty = refl;
      adds = refl;
      strikes = refl;
      in_order = refl;
      present = refl;
      full = refl;
      missing = refl;
      first = (refl, refl);
      length = refl;
      before = (refl, refl);
      number = refl;
      many = (refl, refl);
    }
