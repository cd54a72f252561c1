-- The cases of a whole expansion, on plain values: the children (`WithChildren`), the judgement (`WithStatus`), and then a node that is merely open,
-- or the updates.
use Rattle.std.specs.Prelude.{◌≡◌, refl, true, List, ℕ, suc, ◌<◌, length, Ok, Err}
use Rattle.std.proofs.Common.{sym, ap, ◌∙◌, subst, arith}
use Rattle.concepts.specs.Lists.{Bytes}
use Rattle.concepts.specs.Tests.{from-true}
use Rattle.concepts.specs.RowSetLaws.{missing-all}
use Rattle.procedure.specs.Status.{«open», is_open}
use Rattle.procedure.proofs.StatusLaws.{is_open_lem}
use Rattle.procedure.specs.SetTests.{lowest_conj}
use Rattle.procedure.specs.Graph.{Graph, Capacity, reached, ◌>>=◌, node_at, node_count}
use Rattle.procedure.specs.Tableau.{judge, put, update_parents, update, expand_conj}
use Rattle.procedure.specs.TableauLaws.{expand-is}
use Rattle.procedure.proofs.Fit.{Fit, JudgeFit}
use Rattle.procedure.proofs.ExpandFit.{judge-fit, judged-fit, open-unmoved}
use Rattle.words.specs.Sizes.{node_size}
use Rattle.problem.specs.Decoded.{table_of, problem_of}
use Rattle.records.specs.Areas.{Fits}
use Rattle.graph.specs.Graphs.{Work, work, graph_of, capacity_of, Held, Operation, Step, Refines}
use Rattle.graph.specs.GraphLaws.{sized-refl, sized-places, count-nodes, held-node}
use Rattle.graph.specs.RefineLaws.{refines-answer, refines-as, refines-held, refines-then, refines-short, refines-none}
use Rattle.graph.specs.declared.Counts.{Counts}
use Rattle.graph.specs.declared.Area.{Area}
use Rattle.tableau.specs.Clauses.{JudgeAsks, JudgeGives}
use Rattle.updates.specs.Clauses.{UpdateAsks, ParentsGives}
use Rattle.updates.specs.UpdateCases.{Loaded, loaded-open}
use Rattle.expansion.specs.Clauses.{ExpandAsks, ConjGives, ExpandGives}
use Rattle.expansion.specs.PutCases.{P, cap, g}

module _ {ws : List ℕ} {w : Work} {c : Counts} {x : ℕ} (A : ExpandAsks ws w c x) where
  -- the three parts
  abbrev children : Operation
  children k u = expand_conj (problem_of ws) k x (lowest_conj (table_of ws) (node_at u x).rows) u

  abbrev judging : Operation
  judging k u = judge (put (problem_of ws) k) x u

  abbrev updating : Operation
  updating k u = update_parents (update (problem_of ws) k) x u

  -- the children are put
  pub record WithChildren (w₁ : Work) (d : Counts) : Type 0 where
    pub gives : Refines w c (Ok d) w₁ children

  -- and the node is judged
  pub record WithStatus (w₂ : Work) (b : Counts) : Type 0 where
    pub gives : Refines w c (Ok b) w₂ (λ k u. children k u >>= judging k)
    pub fit : Fit (problem_of ws) (capacity_of w) (graph_of w₂ b)
    pub there : x < node_count (graph_of w₂ b)
    -- where it is merely open, updates change nothing
    pub unmoved : (node_at (graph_of w₂ b) x).status ≡ «open» → updating (capacity_of w) (graph_of w₂ b) ≡ reached (graph_of w₂ b)

  module _ {w₁ : Work} {r : Step} (K : ConjGives ws w c x r w₁) where
    pub children-short : {p : Area} → r ≡ Err p → ExpandGives ws w c x (Err p) w₁
    children-short er =
        refines-as (refines-short (refines-short (refines-answer K er) (λ u. judging) sized-refl) (λ u. updating) sized-refl)
        (expand-is (P A) (cap A) x (g A))

    pub children-done : {d : Counts} → r ≡ Ok d → WithChildren w₁ d
    children-done er = record { gives = refines-answer K er }

-- ---- the judgement

module _ {ws : List ℕ} {w : Work} {c : Counts} {x : ℕ} {A : ExpandAsks ws w c x} {w₁ : Work} {d : Counts} (K : WithChildren A w₁ d) where
  abbrev h : Graph
  h = graph_of w₁ d

  places : capacity_of w₁ ≡ capacity_of w
  places = sized-places K.gives.sized

  pub judge-asks : JudgeAsks ws w₁ d x
  judge-asks = record {
    decoded = A.decoded;
    held = refines-held K.gives;
    fit = subst (λ (q : Capacity). JudgeFit (P A) q h x) (sym places) (judge-fit A.expands h (sym K.gives.meets));
  }

  module _ {w₂ : Work} {r : Step} (J : JudgeGives ws w₁ d x r w₂) where
    judged : {z : Step} → r ≡ z → Refines w₁ d z w₂ (judging A)
    unfolding put
    judged er = refines-answer (J (suc (length (table_of ws))) (omega (arith, missing-all (length (table_of ws)) (node_at h x).rows))) er

    both : {z : Step} → r ≡ z → Refines w c z w₂ (λ k u. children A k u >>= judging A k)
    both er = refines-then K.gives (λ u. judging A) (judged er)

    pub judge-short : {p : Area} → r ≡ Err p → ExpandGives ws w c x (Err p) w₂
    judge-short er = refines-as (refines-short (both er) (λ u. updating A) sized-refl) (expand-is (P A) (cap A) x (g A))

    pub judge-done : {b : Counts} → r ≡ Ok b → WithStatus A w₂ b
    judge-done {b} er =
        let q = (judged er).meets ∙ ap (λ (k : Capacity). judging A k h) places in
        let (f, l) = judged-fit A.expands h (sym K.gives.meets) (graph_of w₂ b) (sym q) in
        record {
          gives = both er;
          fit = f;
          there = l;
          unmoved = open-unmoved A.expands h (sym K.gives.meets) (graph_of w₂ b) (sym q);
        }

-- ---- after the judgement

module _ {ws : List ℕ} {w : Work} {c : Counts} {x : ℕ} {A : ExpandAsks ws w c x} {n₂ e₂ a₂ : Bytes} {b : Counts}
    (J : WithStatus A (work n₂ e₂ a₂) b) where
  abbrev w₂ : Work
  w₂ = work n₂ e₂ a₂

  held : Held w₂ b
  held = refines-held J.gives

  places₂ : capacity_of w₂ ≡ capacity_of w
  places₂ = sized-places J.gives.sized

  still : x < b.nodes
  still = omega (arith, J.there, count-nodes w₂ b)

  -- what is left gives the whole
  finished : {w₃ : Work} {r : Step} → Refines w₂ b r w₃ (updating A) → ExpandGives ws w c x r w₃
  finished U = refines-as (refines-then J.gives (λ u. updating A) U) (expand-is (P A) (cap A) x (g A))

  pub judged-fits : Fits node_size n₂ x
  judged-fits = held-node held still

  -- the node is merely open
  pub judged-open : Loaded n₂ x true → ExpandGives ws w c x (Ok b) (work n₂ e₂ a₂)
  judged-open L =
      let v = (node_at (graph_of w₂ b) x).status in
      let o = is_open_lem v (from-true (is_open v) (loaded-open w₂ b still L)) in
      finished (refines-as (refines-none held) (ap (λ (q : Capacity). updating A q (graph_of w₂ b)) places₂ ∙ J.unmoved o))

  -- the updates
  pub parents-asks : UpdateAsks ws (work n₂ e₂ a₂) b x
  parents-asks = record {
    decoded = A.decoded;
    held = held;
    fit = subst (λ (q : Capacity). Fit (P A) q (graph_of w₂ b)) (sym places₂) J.fit;
    there =
        J.there;
  }

  pub parents-gives : {w₃ : Work} {r : Step} → ParentsGives ws (work n₂ e₂ a₂) b x r w₃ → ExpandGives ws w c x r w₃
  unfolding update
  parents-gives U = finished (refines-as (U (suc (capacity_of w₂).node_room) (omega arith)) refl)
