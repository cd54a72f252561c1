-- `engine::asking::ask_wanted` meets its contract: the wanted rows are written anew, and the run says so.
use Rattle.engine.specs.AskingCases.{asked}
use Rattle.engine.proofs.asking.ask_wanted.Goals as goal

pub returns : goal.returns
returns c = asked c.want.ensures c.say.ensures
