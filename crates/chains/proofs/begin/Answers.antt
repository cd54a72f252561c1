-- `chains::begin` meets its contract: the two numbers that it writes say that there is no record.
-- Assumes nothing.
use Rattle.chains.specs.PlaceLaws.{begun}
use Rattle.chains.proofs.begin.Goals as goal

pub returns : goal.returns
returns c = rw (c.put2-2.ensures, c.put2.ensures) (begun c.requires.0 c.requires.1)
