-- `words::put1` meets its contract: a byte is the number of one byte.
-- Assumes nothing.
use Rattle.std.proofs.Common.{rules, sym}
use Rattle.words.specs.WordLaws.{put_le-one}
use Rattle.words.proofs.put1.Goals as goal

pub returns : goal.returns
returns c = sym (put_le-one _ _ _ (search rules))
