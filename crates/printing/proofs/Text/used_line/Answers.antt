-- `Text::used_line` meets its contract: it is a line of three numbers.
-- Assumes nothing.
use Rattle.answers.specs.Numbers.{numbers_of}
use Rattle.printing.specs.PrintingLaws.{writes-used}
use Rattle.printing.proofs.Text.used_line.Goals as goal

pub returns : goal.returns
returns c = writes-used (numbers_of c.args.answer) c.line.ensures
