-- `Text::byte_digits` meets its contract: the higher digit, and the lower.
use Rattle.printing.specs.PrintingLaws.{writes-byte}
use borrow.Author.Rules.{rules}
use Rattle.printing.proofs.Text.byte_digits.Goals as goal

pub returns : goal.returns
returns c = writes-byte c.args.x (search rules) c.digit.ensures c.put.ensures c.digit-2.ensures c.put-2.ensures
