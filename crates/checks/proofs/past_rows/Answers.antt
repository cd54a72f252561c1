-- `checks::past_rows` meets its contract: it tests each row of the list.
use Rattle.std.proofs.Common.{leb, rules, tests}
use Rattle.rulefile.specs.Format.{row_count}
use Rattle.checks.proofs.AnyLaws.{any-slice}
use Rattle.checks.proofs.past_rows.Goals as goal

pub returns : goal.returns
returns c =
    any-slice (leb (row_count c.args.file.now)) c.args.list.now (cc) c.any.ensures.ran
    (λ x b q k. search (rules, tests))
