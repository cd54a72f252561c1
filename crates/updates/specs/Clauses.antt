-- What an update relies on, and what it gives. Words, areas and counts as in the tableau's contracts.
--
-- In order: what is asked; the update and the parents of a node; one node judged again, before its parents; whether a parent is left.
use Rattle.std.specs.Prelude.{Bool, true, false, List, [], ◌∷◌, ℕ, ◌+◌, ◌-◌, ◌<◌, Result, Ok, Err}
use Rattle.procedure.specs.Graph as G
use Rattle.procedure.specs.Graph.{Capacity, Graph, node_count}
use Rattle.procedure.specs.Tableau.{update_within, update_parents}
use Rattle.procedure.proofs.Grows.{Grows}
use Rattle.procedure.proofs.Fit.{Fit}
use Rattle.procedure.proofs.Measure.{settled}
use Rattle.words.specs.Sizes.{node_size}
use Rattle.problem.specs.Decoded.{problem_of, Decoded}
use Rattle.records.specs.Areas.{room_of}
use Rattle.graph.specs.Graphs.{Work, graph_of, capacity_of, Held, CountsGrown, Sized, Step, Refines}
use Rattle.graph.specs.declared.Counts.{Counts}
use Rattle.graph.specs.declared.Area.{Area}
use Rattle.updates.specs.declared.Rejudged.{Rejudged}

-- ---- what is asked

pub record UpdateAsks (ws : List ℕ) (w : Work) (c : Counts) (x : ℕ) : Type 0 where
  pub decoded : Decoded ws
  pub held : Held w c
  pub fit : Fit (problem_of ws) (capacity_of w) (graph_of w c)
  pub there : x < node_count (graph_of w c)

-- the settled nodes and the fuel are more than the places for nodes
abbrev pub Enough : Work → Counts → ℕ → Type 0
Enough w c f = room_of node_size w.nodes < settled (graph_of w c) + f

-- the places for nodes that settled nodes have not taken: what falls
abbrev pub unsettled : Work → Counts → ℕ
unsettled w c = room_of node_size w.nodes - settled (graph_of w c)

-- ---- the update, and the parents of a node

-- the update of the definitions, with so much fuel and in so many places
abbrev pub updates : List ℕ → ℕ → Capacity → ℕ → Graph → G.Result
updates ws f k x g = update_within (problem_of ws) k f x g

-- whatever the fuel, as long as it is enough
abbrev pub UpdateGives : List ℕ → Work → Counts → ℕ → Step → Work → Type 0
UpdateGives ws w c x r w' = (f : ℕ) → Enough w c f → Refines w c r w' (λ k g. updates ws f k x g)

abbrev pub ParentsGives : List ℕ → Work → Counts → ℕ → Step → Work → Type 0
ParentsGives ws w c x r w' = (f : ℕ) → Enough w c f → Refines w c r w' (λ k g. update_parents (updates ws f k) x g)

-- ---- one node judged again

-- the areas w' with counts d are some steps after w with c
pub record Later (w : Work) (c : Counts) (w' : Work) (d : Counts) : Type 0 where
  pub held : Held w' d
  pub grown : CountsGrown c d
  pub sized : Sized w w'
  pub grows : Grows (graph_of w c) (graph_of w' d)

-- node x was open and no longer is: one place less is unsettled, and with its parents, which may be updated now, its update is whole
pub record Settles (ws : List ℕ) (w : Work) (c : Counts) (x : ℕ) (w' : Work) (d : Counts) : Type 0 where
  pub later : Later w c w' d
  pub asks : UpdateAsks ws w' d x
  pub falls : unsettled w' d < unsettled w c
  pub whole : {r : Step} {w'' : Work} → ParentsGives ws w' d x r w'' → UpdateGives ws w c x r w''

-- the update is done, unless the status changed
abbrev pub RejudgedTo : List ℕ → Work → Counts → ℕ → Result Rejudged Area → Work → Type 0
RejudgedTo ws w c x (Ok (Rejudged.Kept d)) w' = UpdateGives ws w c x (Ok d) w'
RejudgedTo ws w c x (Ok (Rejudged.Changed d)) w' = Settles ws w c x w' d
RejudgedTo ws w c x (Err p) w' = UpdateGives ws w c x (Err p) w'

pub record RejudgeGives (ws : List ℕ) (w : Work) (c : Counts) (x : ℕ) (r : Result Rejudged Area) (w' : Work) : Type 0 where
  pub came : RejudgedTo ws w c x r w'

-- ---- whether a parent is left

abbrev pub none_in : List ℕ → Bool
none_in [] = true
none_in (y ∷ ys) = false
