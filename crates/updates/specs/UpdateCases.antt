-- The cases of a node that is judged again, on plain values.
--
-- In order: a node that is not open; one that is (`Opened`), which is judged: no place; done (`JudgedAgain`), and then still open, or settled
-- (`Settles`), with its parents to update.
use Rattle.std.specs.Prelude.{◌≡◌, Bool, true, false, List, ℕ, zero, suc, ◌<◌, length, Ok, Err}
use Rattle.std.proofs.Common.{sym, ap, ◌∙◌, subst, arith}
use Rattle.concepts.specs.Lists.{Bytes}
use Rattle.concepts.specs.Tests.{from-true}
use Rattle.concepts.specs.RowSetLaws.{missing-all}
use Rattle.procedure.specs.Status.{«open», is_open}
use Rattle.procedure.proofs.StatusLaws.{is_open_lem}
use Rattle.procedure.specs.Problem.{Problem}
use Rattle.procedure.specs.Graph.{Node, Graph, Capacity, Result, node_at}
use Rattle.procedure.proofs.Sure.{Sure}
use Rattle.procedure.specs.Tableau.{judge, put, update_changed}
use Rattle.procedure.specs.TableauLaws.{update-settled, update-open, changed-not, changed-parents}
use Rattle.procedure.proofs.Measure.{settled}
use Rattle.procedure.proofs.Fit.{Fit, open-fit, OpenJudged, open_done, settled-fits}
use Rattle.words.specs.Sizes.{node_size}
use Rattle.problem.specs.Decoded.{problem_of}
use Rattle.records.specs.Areas.{Fits}
use Rattle.records.specs.Codes.{status_of}
use Rattle.records.specs.Records.{node_in, IsStatus}
use Rattle.graph.specs.Graphs.{Work, work, graph_of, capacity_of, Step, Operation, Refines}
use Rattle.graph.specs.GraphLaws.{sized-refl, sized-places, count-nodes, graph-node, held-node}
use Rattle.graph.specs.RefineLaws.{refines-answer, refines-as, refines-held, refines-then, refines-short, refines-none}
use Rattle.graph.specs.declared.Counts.{Counts}
use Rattle.records.specs.declared.Status.{Status}
use Rattle.graph.specs.declared.Area.{Area}
use Rattle.tableau.specs.Clauses.{JudgeAsks, JudgeGives}
use Rattle.updates.specs.Clauses.{UpdateAsks, Enough, unsettled, updates, UpdateGives, ParentsGives, Settles}

-- a node whose status was loaded is open, or is not
pub record Loaded (n : Bytes) (x : ℕ) (b : Bool) : Type 0 where
  pub status : is_open (node_in n x).status ≡ b

pub loaded : {n : Bytes} {x : ℕ} {b v : Bool} (s : Status) → IsStatus n x s → b ≡ is_open (status_of s) → b ≡ v → Loaded n x v
loaded s hs hb hv = record { status = ap is_open (sym hs) ∙ sym hb ∙ hv }

-- so it is in the graph
pub loaded-open : {x : ℕ} {b : Bool} (w : Work) (c : Counts) → x < c.nodes → Loaded w.nodes x b → is_open (node_at (graph_of w c) x).status ≡ b
loaded-open {x} w c l L = ap (λ (u : Node). is_open u.status) (graph-node w c x l) ∙ L.status

module _ {ws : List ℕ} {n e a : Bytes} {c : Counts} {x : ℕ} (A : UpdateAsks ws (work n e a) c x) where
  -- the problem, the areas and the graph of the call
  abbrev P : Problem
  P = problem_of ws

  abbrev w : Work
  w = work n e a

  abbrev g : Graph
  g = graph_of w c

  -- node x is open
  pub record Opened : Type 0 where
    pub is : is_open (node_at g x).status ≡ true

  -- it was judged, and nothing was short
  pub record JudgedAgain (w₁ : Work) (d : Counts) : Type 0 where
    pub opened : Opened
    pub gives : Refines w c (Ok d) w₁ (λ k h. judge (put P k) x h)

  there : x < c.nodes
  there = omega (arith, A.there, count-nodes w c)

  pub update-fits : Fits node_size n x
  update-fits = held-node A.held there

  -- with no fuel there would be more settled nodes than places
  fueled : {r : Step} {w' : Work} → ((f : ℕ) → Enough w c (suc f) → Refines w c r w' (λ k h. updates ws (suc f) k x h))
      → UpdateGives ws w c x r w'
  fueled h zero few = absurd (omega (arith, few, settled-fits P (capacity_of w) g A.fit))
  fueled h (suc f) few = h f few

  pub update-not : Loaded n x false → UpdateGives ws (work n e a) c x (Ok c) (work n e a)
  update-not L = fueled (λ f few. refines-as (refines-none A.held) (update-settled P (capacity_of w) f x g (loaded-open w c there L)))

  pub update-opened : Loaded n x true → Opened
  update-opened L = record { is = loaded-open w c there L }

-- ---- an open node

module _ {ws : List ℕ} {n e a : Bytes} {c : Counts} {x : ℕ} {A : UpdateAsks ws (work n e a) c x} (o : Opened A) where
  -- what is done with a changed status, with so much fuel
  abbrev changing : ℕ → Graph → Operation
  changing f u k h = update_changed (updates ws f k) x h

  is : (node_at (g A) x).status ≡ «open»
  is = is_open_lem (node_at (g A) x).status (from-true (is_open (node_at (g A) x).status) o.is)

  pub update-asks : JudgeAsks ws (work n e a) c x
  update-asks = record { decoded = A.decoded; held = A.held; fit = open-fit (P A) (capacity_of (w A)) (g A) x A.fit is }

  module _ {w₁ : Work} {r₁ : Step} (J : JudgeGives ws (work n e a) c x r₁ w₁) where
    judged : {r : Step} → r₁ ≡ r → Refines (w A) c r w₁ (λ k h. judge (put (P A) k) x h)
    unfolding put
    judged er = refines-answer (J (suc (length (P A).table)) (omega (arith, missing-all (length (P A).table) (node_at (g A) x).rows))) er

    pub update-short : {p : Area} → r₁ ≡ Err p → UpdateGives ws (work n e a) c x (Err p) w₁
    update-short er =
        fueled A (λ f few. refines-as (refines-short (judged er) (changing f) sized-refl) (update-open (P A) (capacity_of (w A)) f x (g A) o.is))

    pub update-judged : {d : Counts} → r₁ ≡ Ok d → JudgedAgain A w₁ d
    update-judged er = record { opened = o; gives = judged er }

-- ---- a node that was judged

module _ {ws : List ℕ} {n e a : Bytes} {c : Counts} {x : ℕ} {A : UpdateAsks ws (work n e a) c x} {n₁ e₁ a₁ : Bytes} {d : Counts}
    (j : JudgedAgain A (work n₁ e₁ a₁) d) where
  abbrev w₁ : Work
  w₁ = work n₁ e₁ a₁

  abbrev h : Graph
  h = graph_of w₁ d

  places : capacity_of w₁ ≡ capacity_of (w A)
  places = sized-places j.gives.sized

  still : x < d.nodes
  still = omega (arith, there A, j.gives.held.1.nodes)

  pub update-refits : Fits node_size n₁ x
  update-refits = held-node (refines-held j.gives) still

  -- the update is the judgement, and then what is done with a changed status
  changed : {r : Step} {w₂ : Work} → ((f : ℕ) → Enough (w A) c (suc f) → Refines w₁ d r w₂ (changing j.opened f (g A)))
      → UpdateGives ws (w A) c x r w₂
  changed next =
      fueled A (λ f few. refines-as (refines-then j.gives (changing j.opened f) (next f few))
      (update-open (P A) (capacity_of (w A)) f x (g A) j.opened.is))

  pub update-kept : Loaded n₁ x true → UpdateGives ws (work n e a) c x (Ok d) (work n₁ e₁ a₁)
  update-kept L =
      changed (λ f few. refines-as (refines-none (refines-held j.gives)) (changed-not (updates ws f (capacity_of w₁)) x h (loaded-open w₁ d still L)))

  module _ (L : Loaded n₁ x false) where
    after : OpenJudged (P A) (capacity_of (w A)) (g A) x A.fit (is j.opened) h
    after =
        subst (λ (r : Result). Sure (P A) (OpenJudged (P A) (capacity_of (w A)) (g A) x A.fit (is j.opened)) r) (sym j.gives.meets)
        (open_done (P A) (capacity_of (w A)) (g A) x A.fit (is j.opened))

    rises : settled (g A) < settled h
    rises = after.rises (loaded-open w₁ d still L)

    -- one node more is settled
    falls : unsettled w₁ d < unsettled (w A) c
    falls = omega (arith, rises, settled-fits (P A) (capacity_of (w A)) h after.fit, ap (λ (q : Capacity). q.node_room) places)

    parents-ask : UpdateAsks ws w₁ d x
    parents-ask = record {
      decoded = A.decoded;
      held = refines-held j.gives;
      fit = subst (λ (q : Capacity). Fit (P A) q h) (sym places) after.fit;
      there = omega (arith, still, count-nodes w₁ d);
    }

    whole : {r : Step} {w₂ : Work} → ParentsGives ws w₁ d x r w₂ → UpdateGives ws (w A) c x r w₂
    whole G = changed (λ f few.
        refines-as (G f (omega (arith, few, rises, ap (λ (q : Capacity). q.node_room) places)))
        (changed-parents (updates ws f (capacity_of w₁)) x h (loaded-open w₁ d still L)))

    pub update-settles : Settles ws (work n e a) c x (work n₁ e₁ a₁) d
    update-settles = record {
      later = record { held = j.gives.held.0; grown = j.gives.held.1; sized = j.gives.sized; grows = after.grows };
      asks = parents-ask;
      falls = falls;
      whole = whole;
    }
