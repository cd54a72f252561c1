-- The puts of one expansion, whatever their sets: the graph in between (`Now`), what a put may rely on, the graph after it.
use Rattle.std.specs.Prelude.{◌≡◌, List, ℕ, suc, ◌+◌, ◌*◌, ◌≤◌, ◌<◌, length, Ok}
use Rattle.std.proofs.Common.{sym, ap, ◌∙◌, subst, arith}
use Rattle.concepts.specs.Lists.{Bytes}
use Rattle.concepts.specs.RowSet.{RowSet}
use Rattle.concepts.specs.RowSetLaws.{missing-all}
use Rattle.procedure.specs.Problem.{Problem}
use Rattle.procedure.specs.Graph.{Node, Graph, Capacity, Result, node_at}
use Rattle.procedure.proofs.Sure.{Sure}
use Rattle.procedure.specs.Tableau.{put}
use Rattle.procedure.proofs.Fit.{PutFit}
use Rattle.procedure.proofs.ExpandFit as E
use Rattle.words.specs.Sizes.{node_size, set_size, width}
use Rattle.problem.specs.Decoded.{table_of, problem_of}
use Rattle.problem.specs.DecodedLaws.{length-table_of}
use Rattle.records.specs.Areas.{Fits}
use Rattle.records.specs.Records.{node_of, IsNode}
use Rattle.records.specs.declared.Node as D
use Rattle.rowset.specs.SetOf.{set_of}
use Rattle.graph.specs.Graphs.{Work, work, graph_of, capacity_of, Held, Sized, Step, Refines}
use Rattle.graph.specs.GraphLaws.{sized-refl, sized-trans, sized-places, count-nodes, graph-node, graph-set, held-node, held-set}
use Rattle.graph.specs.RefineLaws.{refines-answer, refines-held}
use Rattle.graph.specs.declared.Counts.{Counts}
use Rattle.tableau.specs.Clauses.{PutAsks, PutGives}
use Rattle.expansion.specs.Clauses.{ExpandAsks}

module _ {ws : List ℕ} {w : Work} {c : Counts} {x : ℕ} (A : ExpandAsks ws w c x) where
  abbrev pub P : Problem
  P = problem_of ws

  abbrev pub cap : Capacity
  cap = capacity_of w

  abbrev pub g : Graph
  g = graph_of w c

  there : x < c.nodes
  there = omega (arith, A.expands.there, count-nodes w c)

  -- a row of the table is one of the set's width
  pub row_fits : (k : ℕ) → k < length (table_of ws) → k < width
  row_fits k h = omega (arith, A.decoded.rows.few, length-table_of ws)

  -- ---- between two puts

  -- some children of x are put
  abbrev pub Growing : Graph → Type 0
  Growing h = E.Growing A.expands h

  pub record Now (w' : Work) (d : Counts) : Type 0 where
    pub held : Held w' d
    pub sized : Sized w w'
    pub growing : Growing (graph_of w' d)

  pub growing-start : Growing g
  growing-start = E.growing-start A.expands

  pub now-start : Now w c
  now-start = record { held = A.held; sized = sized-refl; growing = growing-start }

  -- the set s may be put now
  abbrev pub MayPut : Graph → (p ρ : ℕ) → RowSet → Type 0
  MayPut h p ρ s = E.Puts A.expands h p ρ s

-- ---- the node, as it was loaded

module _ {ws : List ℕ} {n e a : Bytes} {c : Counts} {x : ℕ} (A : ExpandAsks ws (work n e a) c x) where
  pub expand-fits : Fits node_size n x
  expand-fits = held-node A.held (there A)

  pub expand-loaded : (v : D.Node) → IsNode n x v → node_at (graph_of (work n e a) c) x ≡ node_of (set_of n (node_size * x)) v
  expand-loaded v hv = graph-node (work n e a) c x (there A) ∙ sym hv

  -- its set, where it stands
  pub expand-set : set_of n (node_size * x) ≡ (node_at (graph_of (work n e a) c) x).rows
  expand-set = sym (graph-set (work n e a) c x (there A))

  pub expand-inside : node_size * x + set_size ≤ length n
  expand-inside = held-set A.held (there A)

-- a set that was made of its own, read at place q, where that stands
pub own-set : (n : Bytes) (x : ℕ) {q : ℕ} → q ≡ node_size * x → (f : RowSet → RowSet) {σ : RowSet} → σ ≡ f (set_of n q)
    → σ ≡ f (set_of n (node_size * x))
own-set n x hq f e = e ∙ ap (λ (p : ℕ). f (set_of n p)) hq

-- ---- between two puts its set stands where it stood

module _ {ws : List ℕ} {w : Work} {c : Counts} {x : ℕ} {A : ExpandAsks ws w c x} {w' : Work} {d : Counts} (N : Now A w' d) where
  there-still : x < d.nodes
  there-still = omega (arith, N.growing.grows.longer, A.expands.there, count-nodes w' d)

  pub now-set : set_of w'.nodes (node_size * x) ≡ (node_at (graph_of w c) x).rows
  now-set = sym (graph-set w' d x there-still) ∙ ap (λ (v : Node). v.rows) (N.growing.kept x A.expands.there)

  pub now-inside : node_size * x + set_size ≤ length w'.nodes
  now-inside = held-set N.held there-still

-- ---- a put

module _ {ws : List ℕ} {w : Work} {c : Counts} {x : ℕ} {A : ExpandAsks ws w c x} {w' : Work} {d : Counts} (N : Now A w' d)
    {p ρ : ℕ} {s : RowSet} (M : MayPut A (graph_of w' d) p ρ s) where
  abbrev h : Graph
  h = graph_of w' d

  pub now-asks : PutAsks ws w' d x p ρ s
  now-asks = record {
    decoded = A.decoded;
    held = N.held;
    fit =
        subst (λ (q : Capacity). PutFit (P A) q h x p ρ s) (sym (sized-places N.sized))
        (E.puts-fit A.expands h N.growing p ρ s M);
  }

  module _ {w'' : Work} {r : Step} (G : PutGives ws w' d x p ρ s r w'') where
    -- with the fuel of the definition
    pub now-gives : {z : Step} → r ≡ z → Refines w' d z w'' (λ k u. put (problem_of ws) k x p ρ s u)
    unfolding put
    now-gives er = refines-answer (G (suc (length (table_of ws))) (omega (arith, missing-all (length (table_of ws)) s))) er

    pub now-put : {d₂ : Counts} → r ≡ Ok d₂ → Now A w'' d₂
    now-put {d₂} er =
        let R = now-gives er in
        let q = R.meets ∙ ap (λ (k : Capacity). put (P A) k x p ρ s h) (sized-places N.sized) in
        record {
          held = refines-held R;
          sized = sized-trans N.sized R.sized;
          growing =
              subst (λ (q : Result). Sure (P A) (Growing A) q) (sym q) (E.puts-done A.expands h N.growing p ρ s M);
        }
