-- `checks::rule_past_rows` meets its contract: it tests each number below the count.
use Rattle.std.proofs.Common.{leb, rules, tests}
use Rattle.rulefile.specs.Format.{row_count, rule_count, rule}
use Rattle.checks.proofs.AnyLaws.{any-range}
use Rattle.checks.proofs.rule_past_rows.Goals as goal

pub returns : goal.returns
returns c =
    any-range (λ i. leb (row_count c.args.file.now) (rule c.args.file.now i)) (rule_count c.args.file.now) c.rule_count.ensures c.any.ensures.ran
    (λ x b q k. search (rules, tests))
