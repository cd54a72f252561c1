-- `printing::digit` meets its contract: it makes the definition's choice.
-- Assumes nothing.
use Rattle.run.specs.PrintedLaws.{digit_low, digit-high}
use borrow.Author.Rules.{rules}
use Rattle.printing.proofs.digit.Goals as goal

pub returns-then-d-lt10 : goal.returns-then-d-lt10
returns-then-d-lt10 c = digit_low c.args.d (search rules)

pub returns-else-d-lt10 : goal.returns-else-d-lt10
returns-else-d-lt10 c = digit-high c.args.d (search rules)
