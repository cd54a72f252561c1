-- `walk::walk` meets its contract: what is left from an element on gives the whole walk.
use Prim.Native.Nat.{◌-◌}
use Rattle.walk.specs.Clauses.{nodes_edges}
use Rattle.walk.specs.WalkCases.{ElementTurn}
use Rattle.walk.proofs.walk.Given as goal

abbrev pub invariant-loop-d : goal.invariant-loop-d
invariant-loop-d l = ElementTurn l.problem (nodes_edges l.initial.nodes l.initial.edges) l.c (nodes_edges l.nodes l.edges) l.s l.d

abbrev pub decreases-loop-d : goal.decreases-loop-d
decreases-loop-d l = l.c.nodes - l.d
