-- `words::get1` meets its contract: a byte is the number of one byte.
-- Assumes nothing.
use Rattle.std.proofs.Common.{sym}
use Rattle.words.specs.WordLaws.{le_at-one}
use Rattle.words.proofs.get1.Goals as goal

pub returns : goal.returns
returns c = sym (le_at-one _ _)
