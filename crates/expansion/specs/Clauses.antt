-- What the expansion of a node relies on, and what it gives. Words, areas and counts as in the tableau's contracts.
--
-- In order: the node that is expanded; one with no unfinished conjunction; a state; the children, by the definition's functions; the whole expansion.
use Rattle.std.specs.Prelude.{◌≡◌, List, ℕ, None}
use Rattle.procedure.specs.SetTests.{lowest_conj, lowest_disj}
use Rattle.procedure.specs.Graph.{node_at}
use Rattle.procedure.specs.Tableau.{put_kit, put_successors, expand_state, expand_disj, expand_conj, expand}
use Rattle.procedure.proofs.ExpandFit.{Expands}
use Rattle.problem.specs.Decoded.{table_of, problem_of, Decoded}
use Rattle.graph.specs.Graphs.{Work, graph_of, capacity_of, Held, Step, Refines}
use Rattle.graph.specs.declared.Counts.{Counts}

-- ---- what is asked

-- node x has no status
pub record ExpandAsks (ws : List ℕ) (w : Work) (c : Counts) (x : ℕ) : Type 0 where
  pub decoded : Decoded ws
  pub held : Held w c
  pub expands : Expands (problem_of ws) (capacity_of w) (graph_of w c) x

-- .. and no unfinished conjunction
pub record DisjAsks (ws : List ℕ) (w : Work) (c : Counts) (x : ℕ) : Type 0 where
  pub node : ExpandAsks ws w c x
  pub no_conj : lowest_conj (table_of ws) (node_at (graph_of w c) x).rows ≡ None

-- .. and nothing unfinished
pub record StateAsks (ws : List ℕ) (w : Work) (c : Counts) (x : ℕ) : Type 0 where
  pub disj : DisjAsks ws w c x
  pub no_disj : lowest_disj (table_of ws) (node_at (graph_of w c) x).rows ≡ None

-- ---- what is given

abbrev pub KitGives : List ℕ → Work → Counts → Step → Work → Type 0
KitGives ws w c r w' = Refines w c r w' (λ k g. put_kit (problem_of ws) k g)

abbrev pub SuccessorsGives : List ℕ → Work → Counts → ℕ → Step → Work → Type 0
SuccessorsGives ws w c x r w' = Refines w c r w' (λ k g. put_successors (problem_of ws) k x g)

abbrev pub StateGives : List ℕ → Work → Counts → ℕ → Step → Work → Type 0
StateGives ws w c x r w' = Refines w c r w' (λ k g. expand_state (problem_of ws) k x g)

abbrev pub DisjGives : List ℕ → Work → Counts → ℕ → Step → Work → Type 0
DisjGives ws w c x r w' = Refines w c r w' (λ k g. expand_disj (problem_of ws) k x (lowest_disj (table_of ws) (node_at g x).rows) g)

abbrev pub ConjGives : List ℕ → Work → Counts → ℕ → Step → Work → Type 0
ConjGives ws w c x r w' = Refines w c r w' (λ k g. expand_conj (problem_of ws) k x (lowest_conj (table_of ws) (node_at g x).rows) g)

abbrev pub ExpandGives : List ℕ → Work → Counts → ℕ → Step → Work → Type 0
ExpandGives ws w c x r w' = Refines w c r w' (λ k g. expand (problem_of ws) k x g)
