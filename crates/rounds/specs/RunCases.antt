-- The start of a run: the root, "a state with the empty set", and the rounds after it, on plain values.
use Rattle.std.specs.Prelude.{◌≡◌, refl, List, [], ℕ, ◌<◌, length, Ok, Err}
use Rattle.std.proofs.Common.{sym, ap, ◌∙◌, subst, arith}
use Rattle.concepts.specs.Lists.{Bytes, range}
use Rattle.concepts.specs.RowSet.{RowSet, empty}
use Rattle.procedure.specs.Graph.{Graph, Capacity, ◌>>=◌, add_node}
use Rattle.procedure.specs.Tableau.{state, run}
use Rattle.procedure.proofs.Bare.{bare}
use Rattle.procedure.proofs.Setting.{Setting}
use Rattle.procedure.proofs.Whole.{root_only, first-inv, first-quiet}
use Rattle.procedure.proofs.ExpandFit.{Still}
use Rattle.problem.specs.Decoded.{problem_of, Decoded}
use Rattle.problem.specs.DecodedLaws.{decoded-posed}
use Rattle.graph.specs.Chains.{no_records}
use Rattle.graph.specs.Graphs.{Work, work, graph_of, capacity_of, Step, Refines, AddsNode}
use Rattle.graph.specs.GraphLaws.{sized-refl, sized-places, held_none, count-nodes}
use Rattle.graph.specs.AddLaws.{added-node}
use Rattle.graph.specs.RefineLaws.{refines-answer, refines-as, refines-held, refines-then, refines-short}
use Rattle.graph.specs.declared.Counts.{Counts}
use Rattle.graph.specs.declared.Area.{Area}
use Rattle.rounds.specs.Clauses.{RoundsAsks, all_rounds, RoundsGives, RunGives}

abbrev none : Graph
none = record { nodes = []; edges = []; alternatives = [] }

-- no records make no graph
nothing-held : (w : Work) → graph_of w no_records ≡ none
unfolding graph_of range
nothing-held w = refl

-- the run is the root, and the rounds from there
run_is : (ws : List ℕ) (w : Work) → run (problem_of ws) (capacity_of w) ≡
    (add_node (capacity_of w) (state empty) (graph_of w no_records) >>= all_rounds ws (capacity_of w))
unfolding run
run_is ws w = ap (λ (g : Graph). add_node (capacity_of w) (state empty) g >>= all_rounds ws (capacity_of w)) (sym (nothing-held w))

module _ {ws : List ℕ} (D : Decoded ws) (e a : Bytes) {n n₁ : Bytes} {r : Step} {s : RowSet} (none_in : s ≡ empty)
    (R : AddsNode n n₁ no_records r (λ k g. add_node k (state s) g)) where
  rooted : {z : Step} → r ≡ z → Refines (work n e a) no_records z (work n₁ e a) (λ k g. add_node k (state empty) g)
  rooted er =
      refines-answer (subst (λ (u : RowSet). AddsNode n n₁ no_records r (λ k g. add_node k (state u) g)) none_in R e a (held_none (work n e a))) er

  pub root-short : {p : Area} → r ≡ Err p → RunGives ws (work n e a) (Err p) (work n₁ e a)
  root-short er = refines-as (refines-short (rooted er) (λ u. all_rounds ws) sized-refl) (run_is ws (work n e a))

  module _ {d : Counts} (er : r ≡ Ok d) where
    abbrev S : Setting
    S = bare (problem_of ws) (capacity_of (work n e a)) (decoded-posed D)

    root-graph : graph_of (work n₁ e a) d ≡ root_only S
    root-graph =
        added-node (capacity_of (work n e a)) (state empty) none (graph_of (work n₁ e a) d)
        ((rooted er).meets ∙ ap (λ (g : Graph). add_node (capacity_of (work n e a)) (state empty) g) (nothing-held (work n e a)))

    places : capacity_of (work n₁ e a) ≡ capacity_of (work n e a)
    places = sized-places (rooted er).sized

    room : 0 < (capacity_of (work n e a)).node_room
    room =
        let l : 1 ≡ d.nodes = sym (ap (λ (g : Graph). length g.nodes) root-graph) ∙ count-nodes (work n₁ e a) d in
        omega (arith, (refines-held (rooted er)).nodes, ap (λ (q : Capacity). q.node_room) places)

    first-still : Still (problem_of ws) (capacity_of (work n e a)) (root_only S)
    first-still = record { well_posed = decoded-posed D; inv = first-inv S room; quiet = first-quiet S }

    pub rounds-asks : RoundsAsks ws (work n₁ e a) d
    rounds-asks = record {
      decoded = D;
      held = refines-held (rooted er);
      still = subst (λ (q : Capacity). Still (problem_of ws) q (graph_of (work n₁ e a) d)) (sym places)
          (subst (Still (problem_of ws) (capacity_of (work n e a))) (sym root-graph) first-still);
    }

    pub rounds-give : {w₂ : Work} {z : Step} → RoundsGives ws (work n₁ e a) d z w₂ → RunGives ws (work n e a) z w₂
    rounds-give G = refines-as (refines-then (rooted er) (λ u. all_rounds ws) G) (run_is ws (work n e a))
