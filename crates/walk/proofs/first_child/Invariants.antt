-- `walk::first_child` meets its contract: the search from an edge on finds what it finds from the start.
use Prim.Native.Nat.{◌-◌}
use Rattle.records.specs.Codes.{status_of}
use Rattle.walk.specs.Clauses.{nodes_edges}
use Rattle.walk.specs.ChildCases.{Looking}
use Rattle.walk.proofs.first_child.Given as goal

abbrev pub invariant-loop-index : goal.invariant-loop-index
invariant-loop-index l = Looking (nodes_edges l.nodes l.edges) l.c l.x (status_of l.wanted) l.from

abbrev pub decreases-loop-index : goal.decreases-loop-index
decreases-loop-index l = l.c.edges - l.from
