-- `decoder::decode` meets its contract: all rows, the counts, the rules and the wanted rows, and any inclusions, make the words of the problem.
use Rattle.std.proofs.Common.{sym, ◌∙◌, arith}
use borrow.Author.Tests.{not-false}
use Rattle.decoder.specs.ChainingLaws.{placed-decoded, placed-sames, included-decoded}
use Rattle.decoder.proofs.decode.Goals as goal

pub is_empty_mask-requires : goal.is_empty_mask-requires
is_empty_mask-requires c = omega (arith, c.place.ensures.rows.enough)

pub put_sames-requires : goal.put_sames-requires
put_sames-requires c = c.place.ensures.rows.enough

pub put_inclusions-requires : goal.put_inclusions-requires
put_inclusions-requires c = let (placed, included) = placed-sames c.place.ensures c.put_sames.ensures in (placed.rows, included)

pub returns-then-not-is_empty_mask : goal.returns-then-not-is_empty_mask
returns-then-not-is_empty_mask c = included-decoded (placed-sames c.place.ensures c.put_sames.ensures).0 c.put_inclusions.ensures

pub returns-else-not-is_empty_mask : goal.returns-else-not-is_empty_mask
returns-else-not-is_empty_mask c = placed-decoded c.place.ensures (sym c.is_empty_mask.ensures ∙ not-false _ c.if-not-is_empty_mask.false-raw)
