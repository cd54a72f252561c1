-- What the run of the procedure relies on, and what it gives. Words, areas and counts as in the tableau's contracts.
--
-- In order: the rounds from a graph on; the whole run.
-- Assumes nothing.
use Rattle.std.specs.Prelude.{List, ℕ, suc}
use Rattle.procedure.specs.Tableau.{loop_within, run}
use Rattle.procedure.proofs.ExpandFit.{Still}
use Rattle.problem.specs.Decoded.{problem_of, Decoded}
use Rattle.graph.specs.Chains.{no_records}
use Rattle.graph.specs.Graphs.{Work, graph_of, capacity_of, Held, Operation, Step, Refines}
use Rattle.graph.specs.declared.Counts.{Counts}

pub record RoundsAsks (ws : List ℕ) (w : Work) (c : Counts) : Type 0 where
  pub decoded : Decoded ws
  pub held : Held w c
  pub still : Still (problem_of ws) (capacity_of w) (graph_of w c)

-- rounds enough, however many nodes have a status
abbrev pub all_rounds : List ℕ → Operation
all_rounds ws k g = loop_within (problem_of ws) k (suc k.node_room) g

abbrev pub RoundsGives : List ℕ → Work → Counts → Step → Work → Type 0
RoundsGives ws w c r w' = Refines w c r w' (all_rounds ws)

abbrev pub RunGives : List ℕ → Work → Step → Work → Type 0
RunGives ws w r w' = Refines w no_records r w' (λ k g. run (problem_of ws) k)
