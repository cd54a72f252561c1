-- `settests::lowest_disj` meets its contract: only kind 4 rows answer.
use mathlib.Core.Path.{◌∙◌}
use Rattle.rowset.specs.SetOf.{set_of}
use Rattle.problem.specs.Decoded.{table_of}
use Rattle.settests.specs.AnswerLaws.{disj-only}
use Rattle.settests.proofs.lowest_disj.Goals as goal

pub returns : goal.returns
returns c = c.lowest.ensures ∙ disj-only (table_of c.args.problem.now) (set_of c.args.s.now c.args.at)
