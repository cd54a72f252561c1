-- `evaluation::Ways::leads` meets its contract: a code is in the union of two sets if it is in one of them.
use Rattle.std.proofs.Common.{◌∙◌}
use Rattle.concepts.specs.RowSet.{union}
use Rattle.concepts.specs.RowSetLaws.{mem-union}
use Rattle.evaluation.proofs.WaysLeads.leads.Goals as goal

pub returns : goal.returns
unfolding union
returns c = let ways = c.args.self.now in c.has.ensures ∙ mem-union c.args.code ways.onward ways.backward
