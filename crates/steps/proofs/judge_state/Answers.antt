-- `steps::judge_state` meets its contract: the constant means the table, row for row.
use Rattle.procedure.specs.Status.{state_table}
use Rattle.steps.proofs.judge_state.Goals as goal

pub returns : goal.returns
unfolding state_table
returns c = c.judge_by.ensures
