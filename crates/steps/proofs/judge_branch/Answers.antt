-- `steps::judge_branch` meets its contract: the constant means the table, row for row.
use Rattle.procedure.specs.Status.{branch_table}
use Rattle.steps.proofs.judge_branch.Goals as goal

pub returns : goal.returns
unfolding branch_table
returns c = c.judge_by.ensures
