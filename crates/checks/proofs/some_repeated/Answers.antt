-- `checks::some_repeated` meets its contract: it tests each number below the count.
use Rattle.std.proofs.Common.{rules, tests}
use Rattle.rulefile.specs.Format.{row_count, repeated}
use Rattle.checks.proofs.AnyLaws.{any-range}
use Rattle.checks.proofs.some_repeated.Goals as goal

pub returns : goal.returns
returns c =
    any-range (repeated c.args.file.now) (row_count c.args.file.now) c.row_count.ensures c.any.ensures.ran
    (λ x b q k. search (rules, tests))
