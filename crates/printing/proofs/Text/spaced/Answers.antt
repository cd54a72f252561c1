use Rattle.printing.specs.PrintingLaws.{pieces_none, pieces_more, spaced_to-none, spaced_to-more}
use Rattle.printing.proofs.Text.spaced.Goals as goal

pub loop-n-init : goal.loop-n-init
loop-n-init c = pieces_none c.args.self.now (spaced_to-none c.args.numbers.now)

pub loop-n-preserved : goal.loop-n-preserved
loop-n-preserved c = pieces_more c.loop-n.invariant c.loop-n-test.true (spaced_to-more c.args.numbers.now _ c.loop-n-test.true) c.number.ensures
