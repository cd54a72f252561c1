-- The parents of a node, updated: a call of itself comes after a parent's status changed, so one place less is unsettled.
--
-- In order: what falls from call to call; the loop.
use Rattle.graph.specs.Graphs.{work}
use Rattle.updates.specs.Clauses.{unsettled}
use Rattle.updates.specs.ClimbCases.{Climb, climbing}
use Rattle.updates.proofs.+update_parents.Given as goal

abbrev pub decreases-update_parents : goal.decreases-update_parents
decreases-update_parents l = unsettled (work l.nodes.now l.edges.now l.alternatives.now) l.c

abbrev pub invariant-loop-index : goal.invariant-loop-index
invariant-loop-index l =
    Climb l.problem (work l.initial.nodes l.initial.edges l.initial.alternatives) l.initial.start l.x
    (work l.nodes l.edges l.alternatives) l.child l.start l.cur l.from

abbrev pub decreases-loop-index : goal.decreases-loop-index
decreases-loop-index l = climbing (work l.nodes l.edges l.alternatives) l.start l.cur l.from
