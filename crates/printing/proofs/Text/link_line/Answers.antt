-- `Text::link_line` meets its contract: the three numbers that it reads are those of the link.
-- Assumes nothing.
use Rattle.printing.specs.PrintingLaws.{writes-link}
use Rattle.printing.proofs.Text.link_line.Goals as goal

pub returns : goal.returns
returns c = writes-link c.args.links.now c.args.i c.half_of-from.ensures c.half_of-role.ensures c.half_of-to.ensures c.line.ensures
