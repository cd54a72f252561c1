-- `Text::element_lines` meets its contract: the invariant is that the lines of the first `d` elements are written.
use Rattle.run.specs.Printed.{element_lines}
use Rattle.printing.specs.Printing.{element_most, Pieces}
use Rattle.printing.proofs.Text.element_lines.Given as goal

abbrev pub invariant-loop-d : goal.invariant-loop-d
invariant-loop-d l = Pieces (element_lines l.elements) element_most l.count l.initial.self l.self l.d
