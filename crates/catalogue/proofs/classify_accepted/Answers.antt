-- `catalogue::classify_accepted` meets its contract: the file is decoded, its names are listed, the table is filled if it has room, and the work
-- areas are cleared.
use mathlib.Core.Path.{refl}
use Prim.Native.Nat.{◌≤◌}
use native.Mathlib.Nat.{mul-le-mul}
use native.Mathlib.Omega.{arith}
use Rattle.decoder.specs.WritingLaws.{fresh-zeros}
use Rattle.subsumption.specs.Catalogue.{areas_of}
use Rattle.catalogue.specs.ListedLaws.{listed-fill, positives-count}
use Rattle.catalogue.specs.PageCases.{own-laid, own-decoded, page-short, page-filled}
use Rattle.catalogue.proofs.classify_accepted.Goals as goal

pub decode_file-requires : goal.decode_file-requires
decode_file-requires c = (own-laid c.requires c.wanted_of.ensures.0, fresh-zeros _ refl)

pub overflow_mul-count : goal.overflow_mul-count
overflow_mul-count c =
    let listed = c.listed-names.ensures in
    let few : c.len-count.result ≤ 64 = omega (arith, positives-count listed, listed.few, c.len-count.ensures) in
    omega (arith, mul-le-mul {n₂ = 64} {m₂ = 64} few few)

pub returns-then-table-count : goal.returns-then-table-count
returns-then-table-count c =
    let a = c.args in
    page-short c.requires (own-decoded c.requires c.wanted_of.ensures.0 c.decode_file.ensures) c.listed-names.ensures
    (areas_of a.nodes.now a.edges.now a.alternatives.now a.table.now) c.len-count.ensures c.refused.ensures c.if-table-count.true

pub fill-requires : goal.fill-requires
fill-requires c =
    listed-fill _ c.listed-names.ensures c.as_slice.ensures c.as_slice-2.ensures c.decode_file.ensures.decoded
    c.len-count.ensures c.if-table-count.false

pub returns : goal.returns
returns c =
    let a = c.args in
    page-filled c.requires (own-decoded c.requires c.wanted_of.ensures.0 c.decode_file.ensures) c.listed-names.ensures
    (areas_of a.nodes.now a.edges.now a.alternatives.now a.table.now) c.len-count.ensures refl c.if-table-count.false
    c.as_slice.ensures c.as_slice-2.ensures c.fill.ensures
    c.clear.ensures c.fill.auto.nodes c.clear-2.ensures c.fill.auto.edges c.clear-3.ensures c.fill.auto.alternatives
