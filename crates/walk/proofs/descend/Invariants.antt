-- `walk::descend` meets its contract: the way down from `from` goes through x; the nodes on it rise.
use Prim.Native.Nat.{◌-◌}
use Rattle.walk.specs.Clauses.{nodes_edges}
use Rattle.walk.specs.ChildCases.{Going}
use Rattle.walk.proofs.descend.Given as goal

abbrev pub invariant-loop-y : goal.invariant-loop-y
invariant-loop-y l = Going (nodes_edges l.nodes l.edges) l.c l.from l.x

abbrev pub decreases-loop-y : goal.decreases-loop-y
decreases-loop-y l = l.c.nodes - l.x
