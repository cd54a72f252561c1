-- `Text::line` meets its contract: its pieces one after another are the line.
-- Assumes nothing.
use Rattle.printing.specs.PrintingLaws.{writes-line}
use Rattle.printing.proofs.Text.line.Goals as goal

pub returns : goal.returns
returns c = writes-line c.args.numbers.now c.word.ensures c.spaced.ensures c.put.ensures
