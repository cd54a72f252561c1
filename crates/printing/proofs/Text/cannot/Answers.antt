-- `Text::cannot` meets its contract: its two lines are those of the definition.
-- Assumes nothing.
use Rattle.answers.specs.Numbers.{numbers_of}
use Rattle.printing.specs.PrintingLaws.{writes-cannot}
use Rattle.printing.proofs.Text.cannot.Goals as goal

pub returns : goal.returns
returns c = writes-cannot (numbers_of c.args.answer) c.line.ensures c.used_line.ensures
