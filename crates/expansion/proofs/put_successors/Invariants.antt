-- What another state puts: a successor for each existential row, rising.
use Prim.Native.Nat.{◌-◌}
use Rattle.problem.specs.Decoded.{count_of}
use Rattle.graph.specs.Graphs.{work}
use Rattle.expansion.specs.SuccessorCases.{SuccessorsPut}
use Rattle.expansion.proofs.put_successors.Given as goal

abbrev pub invariant-loop-exist : goal.invariant-loop-exist
invariant-loop-exist l = SuccessorsPut l.problem (work l.initial.nodes l.initial.edges l.initial.alternatives) l.initial.cur l.x
    (work l.nodes l.edges l.alternatives) l.cur l.k

abbrev pub decreases-loop-exist : goal.decreases-loop-exist
decreases-loop-exist l = count_of l.problem - l.k
