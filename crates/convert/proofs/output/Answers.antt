-- `convert::output` meets its contract: what the converter promises of the area, and the line of a refusal, make what is written.
-- Assumes nothing.
use Rattle.std.proofs.Common.{arith}
use Rattle.convert.specs.OutputLaws.{outputs-file, outputs-refused}
use Rattle.convert.proofs.output.Goals as goal

pub returns-then-written : goal.returns-then-written
returns-then-written c = outputs-file c.convert-conversion.ensures (omega arith) (omega arith)

pub returns : goal.returns
returns c =
    outputs-refused c.convert-conversion.ensures (omega arith) (omega arith) (omega arith) c.line.ensures
