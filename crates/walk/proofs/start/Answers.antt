-- `walk::start` meets its contract: no state has a number but y, which element 0 stands for.
use Rattle.walk.specs.MeetCases.{started}
use Rattle.walk.proofs.start.Goals as goal

pub returns : goal.returns
returns c = started c.clear_numbers.ensures c.requires.inside c.store_number.ensures c.store_state.ensures
