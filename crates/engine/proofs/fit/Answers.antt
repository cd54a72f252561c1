-- `engine::fit` meets its contract: it is `fit_wanted` with the file's own wanted row.
-- Assumes nothing.
use Rattle.engine.specs.AnswerCases.{own-promised}
use Rattle.engine.proofs.fit.Goals as goal

pub returns : goal.returns
returns c = own-promised c.wanted_of.ensures.0 c.fit_wanted.ensures
