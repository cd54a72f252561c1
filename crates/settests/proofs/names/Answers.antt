-- `settests::names` meets its contract: the names in the kind 1 rows are those of the set.
use mathlib.Core.Path.{◌∙◌}
use Rattle.rowset.specs.SetOf.{set_of}
use Rattle.problem.specs.Decoded.{table_of}
use Rattle.settests.specs.AnswerLaws.{names-only}
use Rattle.settests.proofs.names.Goals as goal

pub returns : goal.returns
returns c = c.names_in.ensures ∙ names-only (table_of c.args.problem.now) (set_of c.args.s.now c.args.at)
