use Rattle.run.specs.PrintedLaws.{element_lines-none, element_lines-more}
use Rattle.printing.specs.PrintingLaws.{pieces_none, pieces_more}
use Rattle.printing.proofs.Text.element_lines.Goals as goal

pub loop-d-init : goal.loop-d-init
loop-d-init c = pieces_none _ (element_lines-none _)

pub loop-d-preserved : goal.loop-d-preserved
loop-d-preserved c = pieces_more c.loop-d.invariant c.loop-d-test.true (element_lines-more _ _) c.element_line.ensures
