-- `decoder::impose` meets its contract: the mask of the rules is written anew (`rules-anew`).
use native.Mathlib.Omega.{arith}
use Rattle.decoder.specs.WantLaws.{serving-below, rules-anew}
use Rattle.decoder.proofs.impose.Goals as goal

pub put_list-requires : goal.put_list-requires
put_list-requires c = let (ok, serve) = c.requires in (omega (arith, ok.rows.enough), serving-below ok serve)

pub returns : goal.returns
returns c = let (ok, serve) = c.requires in rules-anew ok serve c.put_list.ensures
