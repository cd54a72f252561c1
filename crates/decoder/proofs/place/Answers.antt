-- `decoder::place` meets its contract: all rows, the counts, the rules and the wanted rows (`rows-placed`).
use Rattle.std.proofs.Common.{arith}
use Rattle.decoder.specs.WritingLaws.{rows-placed}
use Rattle.decoder.proofs.place.Goals as goal

pub put_rows-requires : goal.put_rows-requires
put_rows-requires c = (c.requires.0, c.requires.3)

pub put_counts-used-requires : goal.put_counts-used-requires
put_counts-used-requires c = (omega (arith, c.put_rows.ensures.enough), omega (arith, c.requires.0.few))

pub put_list-requires : goal.put_list-requires
put_list-requires c =
    let (ok, rules-listed, wanted-listed, fresh) = c.requires in
    let used = c.put_counts-used.ensures.1 in
    (omega (arith, c.put_rows.ensures.enough, c.put_counts-used.auto.out, ok.few), λ q m. omega (arith, (rules-listed q m).0))

pub put_list-requires-2 : goal.put_list-requires-2
put_list-requires-2 c =
    let (ok, rules-listed, wanted-listed, fresh) = c.requires in
    let used = c.put_counts-used.ensures.1 in
    (omega (arith, c.put_rows.ensures.enough, c.put_counts-used.auto.out, c.put_list.auto.out, ok.few), λ q m. omega (arith, (wanted-listed q m).0))

pub returns : goal.returns
returns c =
    let (ok, rules-listed, wanted-listed, fresh) = c.requires in
    rows-placed ok (λ i. omega (arith, c.type_inv.rows i)) rules-listed wanted-listed c.put_rows.ensures c.put_counts-used.ensures.0
    c.put_counts-used.ensures.1 c.put_list.ensures c.put_list-2.ensures
