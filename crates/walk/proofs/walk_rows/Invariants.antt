-- `walk::walk_rows` meets its contract: what is left of the rows and children gives what the whole gives from the start.
use Prim.Native.Nat.{◌-◌}
use Rattle.walk.specs.Clauses.{nodes_edges}
use Rattle.walk.specs.RowCases.{RowTurn}
use Rattle.walk.proofs.walk_rows.Given as goal

abbrev pub invariant-loop-exist : goal.invariant-loop-exist
invariant-loop-exist l = RowTurn l.problem (nodes_edges l.initial.nodes l.initial.edges) l.c l.initial.sizes l.d l.x (nodes_edges l.nodes l.edges) l.sizes
    l.next_row l.from

abbrev pub decreases-loop-exist : goal.decreases-loop-exist
decreases-loop-exist l = l.c.edges - l.from
