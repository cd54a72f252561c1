-- `steps::judge_by` meets its contract: the node takes what the fold gives.
use Rattle.records.specs.Codes.{status_of}
use Rattle.steps.specs.Tables.{table_of}
use Rattle.steps.specs.TableLaws.{judged}
use Rattle.steps.proofs.judge_by.Goals as goal

pub returns : goal.returns
returns c = judged c.requires (table_of c.args.table.now) (status_of c.args.start) (status_of c.fold-v.result) c.fold-v.ensures c.set_status.ensures
