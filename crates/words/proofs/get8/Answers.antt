-- `words::get8` meets its contract: std makes the number of the bytes from the place on.
-- Assumes nothing.
use Rattle.words.specs.WordLaws.{taken-le_at}
use Rattle.words.proofs.get8.Goals as goal

pub returns : goal.returns
returns c = let read = taken-le_at c.args.b.now c.args.at 7 in cc
