-- `engine::asking::ask_rules` meets its contract: the rules are written anew, and the run says so.
use Rattle.engine.specs.AskingCases.{asked}
use Rattle.engine.proofs.asking.ask_rules.Goals as goal

pub returns : goal.returns
returns c = asked c.impose.ensures c.say.ensures
