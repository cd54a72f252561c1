-- `decoder::want` meets its contract: the mask of the wanted rows is written anew (`wanted-anew`).
use native.Mathlib.Omega.{arith}
use Rattle.decoder.specs.WantLaws.{serving-below, wanted-anew}
use Rattle.decoder.proofs.want.Goals as goal

pub put_list-requires : goal.put_list-requires
put_list-requires c = let (ok, serve) = c.requires in (omega (arith, ok.rows.enough), serving-below ok serve)

pub returns : goal.returns
returns c = let (ok, serve) = c.requires in wanted-anew ok serve c.put_list.ensures
