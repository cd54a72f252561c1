-- `decoder::put_row` meets its contract: the word and the two marks are those of the definition.
use mathlib.Core.Path.{◌≡◌}
use native.Mathlib.Omega.{arith}
use Rattle.std.proofs.Common.{ℕ, ap, set, length-set}
use Rattle.problem.specs.Rows.{row_byte}
use Rattle.decoder.specs.Marking.{mask_place}
use Rattle.decoder.specs.Writing.{along}
use Rattle.decoder.specs.WritingLaws.{row-kind-lt, row-along-lt, row_put}
use Rattle.decoder.proofs.put_row.Goals as goal

pub mark-requires : goal.mark-requires
mark-requires c =
    let (ok, h, enough) = c.requires in
    omega (arith, row-kind-lt ok h, c.byte_at-kind.ensures.0, length-set {A = ℕ}, ok.few)

pub mark-requires-2 : goal.mark-requires-2
mark-requires-2 c =
    let (ok, h, enough) = c.requires in
    let b = c.args.rows.now in
    let e : c.second_mask.result ≡ mask_place (along (row_byte b c.args.k 0) (row_byte b c.args.k 1)) = cc in
    omega (arith, row-along-lt ok h, c.mark.auto.ws, length-set {A = ℕ}, ok.few)

-- the calls, from the last one back
pub returns : goal.returns
returns c =
    let a = c.args in
    row_put a.rows.now a.out.now a.k c.byte_at-kind.ensures.0 c.byte_at-role.ensures.0 c.byte_at-left.ensures.0
    c.byte_at-right.ensures.0 (ap (set _ _) (omega (arith, c.from_le_bytes.ensures))) c.mark.ensures.0 c.second_mask.ensures c.mark-2.ensures.0
