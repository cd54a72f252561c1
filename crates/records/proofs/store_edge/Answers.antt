-- `records::store_edge` meets its contract: the numbers that it writes are the fields of the edge.
use native.Mathlib.Omega.{arith}
use borrow.Author.Rules.{rules}
use Rattle.words.specs.Fields.{Apart}
use Rattle.records.specs.Layout.{edge_extent}
use Rattle.records.specs.Records.{edge_fields}
use Rattle.records.specs.RecordLaws.{edge-stored}
use Rattle.records.proofs.store_edge.Goals as goal

pub returns : goal.returns
returns c =
    let d = c.args.d in
    let apart : Apart 0 edge_extent (edge_fields d) = (omega arith, search rules, (omega arith, search rules, omega arith)) in
    edge-stored _ _ c.args.i d c.requires apart (cc)
