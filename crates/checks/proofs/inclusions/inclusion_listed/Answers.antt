-- `checks::inclusions::inclusion_listed` meets its contract: it tests each row of the list. (By `take_all` a list that is cut at its own length passes
-- too, so that an edit that cuts it is refused for the rows that it leaves out.)
use Rattle.std.proofs.Common.{rules, tests, take_all}
use Rattle.rulefile.specs.Format.{inclusion_at}
use Rattle.checks.proofs.AnyLaws.{any-slice}
use Rattle.checks.proofs.inclusions.inclusion_listed.Goals as goal

pub returns : goal.returns
returns c =
    any-slice (inclusion_at c.args.file.now) c.args.list.now (search (c.iter.ensures.rest, take_all, rules)) c.any.ensures.ran
    (λ x b q k. search (rules, tests))
