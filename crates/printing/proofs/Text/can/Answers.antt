-- `Text::can` meets its contract: its lines are those of the definition, in their order.
-- Assumes nothing.
use Rattle.answers.specs.Numbers.{numbers_of}
use Rattle.printing.specs.PrintingLaws.{writes-can}
use Rattle.printing.proofs.Text.can.Goals as goal

pub returns : goal.returns
returns c =
    let a = c.args in
    writes-can (numbers_of a.answer) a.elements.now a.links.now c.line.ensures c.used_line.ensures c.element_lines.ensures c.link_lines.ensures
