use native.Mathlib.Omega.{arith}
use Rattle.catalogue.specs.NameCases.{places-none, places-at}
use Rattle.catalogue.proofs.names.places.Goals as goal

pub loop-k-init : goal.loop-k-init
loop-k-init c = places-none _ _ c.row_count-k.ensures

pub put_place-requires : goal.put_place-requires
put_place-requires c = (c.requires.0, c.requires.1, places-at c.loop-k.invariant (omega arith))

pub loop-k-preserved : goal.loop-k-preserved
loop-k-preserved c = c.put_place.ensures
