-- `engine::asking::say` meets its contract: by the verdict of the run.
use Rattle.engine.specs.AskingCases.{say-short, say-cannot, say-can}
use Rattle.engine.proofs.asking.say.Goals as goal

pub returns-in-Err : goal.returns-in-Err
returns-in-Err c = say-short c.in-Err.ensures

pub returns-in-Ok-Cannot : goal.returns-in-Ok-Cannot
returns-in-Ok-Cannot c = say-cannot (rw c.in-Ok-Cannot.field-0-is at c.in-Ok-Cannot.ensures)

pub returns-in-Ok-Can : goal.returns-in-Ok-Can
returns-in-Ok-Can c = say-can (rw c.in-Ok-Can.field-0-is at c.in-Ok-Can.ensures)
