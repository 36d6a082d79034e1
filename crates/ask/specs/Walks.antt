-- The declared end of a walk.
use Rattle.model.specs.Pool.{Walk, found, gone, astray}
use Rattle.ask.specs.declared.walk.Walk.{Walk as End}
use Rattle.ask.specs.declared.walk.Walk.TheVariants.{Found, Gone, Astray}

abbrev pub named : Walk → End
named (found s r) = Found s r
named (gone r) = Gone r
named astray = Astray
