-- The rounds: each gives one node more a status.
use Prim.Native.Nat.{◌-◌}
use Rattle.procedure.proofs.Measure.{with_a_status}
use Rattle.words.specs.Sizes.{node_size}
use Rattle.records.specs.Areas.{room_of}
use Rattle.graph.specs.Graphs.{work, graph_of}
use Rattle.rounds.specs.RoundCases.{RoundsDone}
use Rattle.rounds.proofs.rounds.Given as goal

abbrev pub invariant-loop-nodes : goal.invariant-loop-nodes
invariant-loop-nodes l = RoundsDone l.problem (work l.initial.nodes l.initial.edges l.initial.alternatives) l.initial.cur (work l.nodes l.edges l.alternatives)
    l.cur l.from

abbrev pub decreases-loop-nodes : goal.decreases-loop-nodes
decreases-loop-nodes l = room_of node_size l.initial.nodes - with_a_status (graph_of (work l.nodes l.edges l.alternatives) l.cur)
