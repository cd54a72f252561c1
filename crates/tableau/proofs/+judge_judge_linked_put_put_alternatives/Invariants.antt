-- What falls from call to call in the cycle {put, judge, judge_linked, put_alternatives}: each alternative adds a row to its state's set.
-- And the loop of put_alternatives: the alternatives below the index are put.
use Prim.Native.Nat.{ℕ, ◌+◌, ◌-◌, ◌*◌}
use mathlib.Core.List.{List}
use Rattle.procedure.specs.Graph.{node_at}
use Rattle.graph.specs.Graphs.{Work, work, graph_of}
use Rattle.graph.specs.declared.Counts.{Counts}
use Rattle.rowset.specs.SetOf.{set_of}
use Rattle.tableau.specs.Clauses.{lacks}
use Rattle.tableau.specs.SmallCases.{AlternativesPut}
use Rattle.tableau.proofs.+judge_judge_linked_put_put_alternatives.Given as goal

-- four times the rows that the set of a node lacks
abbrev pub lacked : List ℕ → Work → Counts → ℕ → ℕ
lacked ws w c x = 4 * lacks ws (node_at (graph_of w c) x).rows

abbrev pub decreases-put : goal.decreases-put
decreases-put l = 4 * lacks l.problem.now (set_of l.s.now 0) + 3

abbrev pub decreases-judge : goal.decreases-judge
decreases-judge l = lacked l.problem.now (work l.nodes.now l.edges.now l.alternatives.now) l.c l.x + 2

abbrev pub decreases-judge_linked : goal.decreases-judge_linked
decreases-judge_linked l = lacked l.problem.now (work l.nodes.now l.edges.now l.alternatives.now) l.c l.x + 1

abbrev pub decreases-put_alternatives : goal.decreases-put_alternatives
decreases-put_alternatives l = lacked l.problem.now (work l.nodes.now l.edges.now l.alternatives.now) l.c l.z

abbrev pub invariant-put_alternatives-loop-i : goal.invariant-put_alternatives-loop-i
invariant-put_alternatives-loop-i l =
    AlternativesPut l.problem (work l.initial.nodes l.initial.edges l.initial.alternatives) l.c l.z l.y
    (work l.nodes l.edges l.alternatives) l.cur l.from

abbrev pub decreases-put_alternatives-loop-i : goal.decreases-put_alternatives-loop-i
decreases-put_alternatives-loop-i l = l.c.alternatives - l.from
