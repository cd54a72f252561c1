-- `graph::is_state_with` meets its contract: the set and the flag are those of the record.
use Rattle.std.proofs.Common.{sym, ◌∙◌}
use Rattle.graph.specs.SearchLaws.{other-set, same_set}
use Rattle.graph.proofs.is_state_with.Goals as goal

pub returns-then-same : goal.returns-then-same
returns-then-same c = same_set _ _ _ (sym (rw c.node_set.ensures at c.same.ensures) ∙ c.if-same.true) c.is_state.ensures

pub returns : goal.returns
returns c = other-set _ _ _ (sym (rw c.node_set.ensures at c.same.ensures) ∙ c.if-same.false)
