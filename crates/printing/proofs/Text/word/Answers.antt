use Rattle.words.specs.WordLaws.{take_more}
use Rattle.printing.specs.PrintingLaws.{pieces_more}
use Rattle.printing.proofs.Text.word.Goals as goal

pub loop-byte-preserved : goal.loop-byte-preserved
loop-byte-preserved c = pieces_more c.loop-byte.invariant c.loop-byte-test.true (take_more _ _ c.loop-byte-test.true) c.put.ensures
