-- `graph::lowest_unset` meets its contract: the invariant is that every node below `x` has a status.
use Rattle.concepts.specs.Lists.{NoneBelow}
use Rattle.records.specs.Records.{is_unset_at}
use Rattle.graph.proofs.lowest_unset.Given as goal

abbrev pub invariant-loop-x : goal.invariant-loop-x
invariant-loop-x l = NoneBelow (is_unset_at l.nodes) l.x
