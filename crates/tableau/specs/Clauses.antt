-- What the functions of the tableau rely on, and what they give.
-- For the words ws of a decoded problem, the work areas w and counts c, the problem is `problem_of ws`, the graph `graph_of w c`, the places `capacity_of w`.
--
-- In order: putting a set; judging a node; a node that is linked, and the alternatives of a small state.
use Rattle.std.specs.Prelude.{◌≡◌, List, ℕ, ◌≤◌, ◌<◌, length, Option, None, Some}
use Rattle.concepts.specs.RowSet.{RowSet, missing}
use Rattle.procedure.specs.Status.{Status, toosmall}
use Rattle.procedure.specs.Graph.{unlinked, to_state, Graph, Capacity, reached, node_at, set_status}
use Rattle.procedure.specs.Tableau.{Put, below, put_within, judge, judge_linked, put_alternatives}
use Rattle.procedure.proofs.Fit.{PutFit, JudgeFit}
use Rattle.records.specs.Codes.{status_of}
use Rattle.records.specs.Records.{node_of}
use Rattle.records.specs.declared.Node as D
use Rattle.records.specs.declared.Status as Coded
use Rattle.problem.specs.Decoded.{table_of, problem_of, Decoded}
use Rattle.graph.specs.Graphs.{Work, graph_of, capacity_of, Held, Step, Refines}
use Rattle.graph.specs.declared.Counts.{Counts}

-- the rows that a set lacks
abbrev pub lacks : List ℕ → RowSet → ℕ
lacks ws s = missing (length (table_of ws)) s

-- the put of the definitions, with so much fuel and in so many places
abbrev pub puts : List ℕ → ℕ → Capacity → Put
puts ws f k m p ρ s g = put_within (problem_of ws) k f m p ρ s g

-- the value d has this place and status, and no link
abbrev pub Below : D.Node → (p ρ : ℕ) → Status → Type 0
Below d p ρ status = (s : RowSet) → node_of s d ≡ below p ρ s status unlinked

-- ---- putting a set: under node m, with the state above p and the role ρ

pub record PutAsks (ws : List ℕ) (w : Work) (c : Counts) (m p ρ : ℕ) (s : RowSet) : Type 0 where
  pub decoded : Decoded ws
  pub held : Held w c
  pub fit : PutFit (problem_of ws) (capacity_of w) (graph_of w c) m p ρ s

-- whatever the fuel, as long as there is more of it than rows missing from the set
abbrev pub PutGives : List ℕ → Work → Counts → (m p ρ : ℕ) → RowSet → Step → Work → Type 0
PutGives ws w c m p ρ s r w' = (f : ℕ) → lacks ws s < f → Refines w c r w' (λ k g. puts ws f k m p ρ s g)

-- ---- judging node x

pub record JudgeAsks (ws : List ℕ) (w : Work) (c : Counts) (x : ℕ) : Type 0 where
  pub decoded : Decoded ws
  pub held : Held w c
  pub fit : JudgeFit (problem_of ws) (capacity_of w) (graph_of w c) x

abbrev pub JudgeGives : List ℕ → Work → Counts → ℕ → Step → Work → Type 0
JudgeGives ws w c x r w' = (f : ℕ) → lacks ws (node_at (graph_of w c) x).rows ≤ f → Refines w c r w' (λ k g. judge (puts ws f k) x g)

-- ---- a node z that is linked to state y; and one whose state is small

pub record LinkedAsks (ws : List ℕ) (w : Work) (c : Counts) (z y : ℕ) : Type 0 where
  pub judge : JudgeAsks ws w c z
  pub link : (node_at (graph_of w c) z).link ≡ to_state y

-- what a node takes that is linked to a state of status s; or it takes none, since the state is small
abbrev pub IsTaken : Coded.Status → Option Coded.Status → Type 0
IsTaken s (Some v) = (put : Put) (z y : ℕ) (g : Graph) → judge_linked put z y (status_of s) g ≡ reached (set_status z (status_of v) g)
IsTaken s None = status_of s ≡ toosmall

pub record SmallAsks (ws : List ℕ) (w : Work) (c : Counts) (z y : ℕ) : Type 0 where
  pub linked : LinkedAsks ws w c z y
  pub small : (node_at (graph_of w c) y).status ≡ toosmall

abbrev pub SmallGives : List ℕ → Work → Counts → (z y : ℕ) → Step → Work → Type 0
SmallGives ws w c z y r w' = (f : ℕ) → lacks ws (node_at (graph_of w c) z).rows ≤ f → Refines w c r w' (λ k g. put_alternatives (puts ws f k) z y g)
