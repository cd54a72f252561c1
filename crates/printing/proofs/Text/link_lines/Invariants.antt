-- `Text::link_lines` meets its contract: the invariant is that the lines of the first `i` links are written.
use Rattle.run.specs.Printed.{link_lines}
use Rattle.printing.specs.Printing.{Pieces}
use Rattle.printing.proofs.Text.link_lines.Given as goal

abbrev pub invariant-loop-i : goal.invariant-loop-i
invariant-loop-i l = Pieces (link_lines l.links) 35 l.count l.initial.self l.self l.i
