-- `checks::inclusions::inclusion_ruled` meets its contract: it tests each number below the count.
use Rattle.std.proofs.Common.{rules, tests}
use Rattle.rulefile.specs.Format.{rule_count, rule, inclusion_at}
use Rattle.checks.proofs.AnyLaws.{any-range}
use Rattle.checks.proofs.inclusions.inclusion_ruled.Goals as goal

pub returns : goal.returns
returns c =
    any-range (λ i. inclusion_at c.args.file.now (rule c.args.file.now i)) (rule_count c.args.file.now) c.rule_count.ensures c.any.ensures.ran
    (λ x b q k. search (rules, tests))
