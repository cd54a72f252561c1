-- `graph::find_state` meets its contract: the invariant is that no node below `x` is the state looked for.
use Rattle.concepts.specs.Lists.{NoneBelow}
use Rattle.rowset.specs.SetOf.{set_of}
use Rattle.graph.specs.Graphs.{is_state_with}
use Rattle.graph.proofs.find_state.Given as goal

abbrev pub invariant-loop-x : goal.invariant-loop-x
invariant-loop-x l = NoneBelow (is_state_with l.nodes (set_of l.s 0)) l.x
