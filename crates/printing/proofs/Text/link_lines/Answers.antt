use Rattle.run.specs.PrintedLaws.{link_lines-none, link_lines-more}
use Rattle.printing.specs.PrintingLaws.{pieces_none, pieces_more}
use Rattle.printing.proofs.Text.link_lines.Goals as goal

pub loop-i-init : goal.loop-i-init
loop-i-init c = pieces_none _ (link_lines-none _)

pub loop-i-preserved : goal.loop-i-preserved
loop-i-preserved c = pieces_more c.loop-i.invariant c.loop-i-test.true (link_lines-more _ _) c.link_line.ensures
