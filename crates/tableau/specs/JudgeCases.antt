-- The cases of judge, on plain values.
--
-- In order: a node, by its link and its kind; one that is linked, by the status of its state; one whose state is small.
use Rattle.std.specs.Prelude.{◌≡◌, ◌⊎◌, Bool, true, false, List, ℕ, ◌*◌, ◌≤◌, ◌<◌, None, Some, Ok}
use Rattle.std.proofs.Common.{inl, inr, sym, ap, ◌∙◌, subst, arith}
use Rattle.concepts.specs.Lists.{Bytes}
use Rattle.procedure.specs.Status.{Status}
use Rattle.procedure.specs.Graph.{to_state, Graph, reached, node_at, set_status}
use Rattle.procedure.specs.GraphLaws.{Child}
use Rattle.procedure.specs.Tableau.{Put, judge_linked, judge_branch, judge_state, judge}
use Rattle.procedure.specs.TableauLaws.{judge-linked, judge-lapsed, judge-state, judge-branch, linked-sat, linked-unsat}
use Rattle.procedure.specs.TableauLaws.{linked-open, linked-toosmall}
use Rattle.procedure.proofs.Bare.{bare}
use Rattle.procedure.proofs.Setting.{Setting}
use Rattle.procedure.proofs.Invariant.{LinkShape}
use Rattle.problem.specs.Decoded.{problem_of}
use Rattle.records.specs.Areas.{room_of, Fits}
use Rattle.graph.specs.Graphs.{Work, work, graph_of, capacity_of, Step, Changes, ChangesNodes}
use Rattle.procedure.specs.Graph as G
use Rattle.words.specs.Sizes.{node_size}
use Rattle.rowset.specs.SetOf.{set_of}
use Rattle.records.specs.Codes.{status_of, link_of}
use Rattle.records.specs.Records.{node_of, IsNode, IsStatus}
use Rattle.graph.specs.GraphLaws.{count-nodes, graph-node, held-node}
use Rattle.graph.specs.RefineLaws.{refines-as, changes-refines}
use Rattle.records.specs.declared.Node.{Node}
use Rattle.records.specs.declared.Link as DLink
use Rattle.records.specs.declared.Link.TheVariants as Link
use Rattle.records.specs.declared.Status as DStatus
use Rattle.records.specs.declared.Status.TheVariants as Is
use Rattle.steps.specs.Tables.{Judges, JudgesAs}
use Rattle.graph.specs.declared.Counts.{Counts}
use Rattle.tableau.specs.Clauses.{puts, JudgeAsks, JudgeGives, LinkedAsks, IsTaken, SmallAsks, SmallGives}

-- ---- a node x

module _ {ws : List ℕ} {n e a : Bytes} {c : Counts} {x : ℕ} (A : JudgeAsks ws (work n e a) c x) where
  abbrev g : Graph
  g = graph_of (work n e a) c

  abbrev S : Setting
  S = bare (problem_of ws) (capacity_of (work n e a)) A.fit.fit.well_posed

  there : x < c.nodes
  there = omega (arith, A.fit.there, count-nodes (work n e a) c)

  child-there : (y : ℕ) → Child g x y → y < c.nodes
  child-there y m = omega (arith, (A.fit.fit.inv.ends x y m).1, count-nodes (work n e a) c)

  -- its children are nodes
  pub judge-judges : Judges n e c x
  judge-judges = record { alternatives = a; held = A.held; node = there; inside = λ y m. child-there y m }

  -- a change of the nodes alone, as the judgement
  nodes-only : {n' : Bytes} (h : Graph → Graph) → ((put : Put) → judge put x g ≡ reached (h g)) → Changes (work n e a) c (work n' e a) h
      → JudgeGives ws (work n e a) c x (Ok c) (work n' e a)
  nodes-only h q C f few = refines-as (changes-refines C) (q (puts ws f (capacity_of (work n e a))))

  -- with the node as it was loaded
  module _ (v : Node) (loaded : IsNode n x v) where
    is : node_at g x ≡ node_of (set_of n (node_size * x)) v
    is = graph-node (work n e a) c x there ∙ sym loaded

    linked-as : {l : DLink.Link} → v.link ≡ l → (node_at g x).link ≡ link_of l
    linked-as q = ap (λ (u : G.Node). u.link) is ∙ ap link_of q

    kind : {b : Bool} → v.is_state ≡ b → (node_at g x).is_state ≡ b
    kind q = ap (λ (u : G.Node). u.is_state) is ∙ q

    pub judge-links : {y : ℕ} → v.link ≡ Link.State y → LinkedAsks ws (work n e a) c x y
    judge-links q = record { judge = A; link = linked-as q }

    pub judge-lapses : v.link ≡ Link.Lapsed → {n' : Bytes} → JudgesAs n n' e c (judge_branch x)
        → JudgeGives ws (work n e a) c x (Ok c) (work n' e a)
    judge-lapses q J = nodes-only (judge_branch x) (λ put. judge-lapsed put x g (linked-as q)) (J a A.held)

    pub judge-states : v.link ≡ Link.None → v.is_state ≡ true → {n' : Bytes} → JudgesAs n n' e c (judge_state x)
        → JudgeGives ws (work n e a) c x (Ok c) (work n' e a)
    judge-states q k J = nodes-only (judge_state x) (λ put. judge-state put x g (linked-as q) (kind k)) (J a A.held)

    pub judge-branches : v.link ≡ Link.None → v.is_state ≡ false → {n' : Bytes} → JudgesAs n n' e c (judge_branch x)
        → JudgeGives ws (work n e a) c x (Ok c) (work n' e a)
    judge-branches q k J = nodes-only (judge_branch x) (λ put. judge-branch put x g (linked-as q) (kind k)) (J a A.held)

-- ---- a node x that is linked to state y

-- yes and never are taken as they are, and open
pub taken-kept : (v : DStatus.Status) → (v ≡ Is.Sat) ⊎ ((v ≡ Is.Unsat) ⊎ (v ≡ Is.Open)) → IsTaken v (Some v)
taken-kept v (inl q) put z y g = rw q (linked-sat put z y g)
taken-kept v (inr (inl q)) put z y g = rw q (linked-unsat put z y g)
taken-kept v (inr (inr q)) put z y g = rw q (linked-open put z y g)

module _ {ws : List ℕ} {n e a : Bytes} {c : Counts} {x y : ℕ} (A : LinkedAsks ws (work n e a) c x y) where
  pub linked-there : y < c.nodes
  linked-there =
      let B = A.judge in
      let L : LinkShape (S B) (g B) (node_at (g B) x) (to_state y) =
      subst (λ (k : G.Link). LinkShape (S B) (g B) (node_at (g B) x) k) A.link (B.fit.fit.inv.fact x B.fit.there).link in
      omega (arith, L.1.there, count-nodes (work n e a) c)

  pub linked-fits : Fits node_size n y
  linked-fits = held-node A.judge.held linked-there

  pub linked-sets : (x < c.nodes) × (c.nodes ≤ room_of node_size n)
  linked-sets = (there A.judge, A.judge.held.nodes)

  -- with the state's status as it was loaded
  module _ (v : DStatus.Status) (loaded : IsStatus n y v) where
    status : (node_at (g A.judge) y).status ≡ status_of v
    status = ap (λ (u : G.Node). u.status) (graph-node (work n e a) c y linked-there) ∙ sym loaded

    pub linked-takes : (u : DStatus.Status) → IsTaken v (Some u) → {n' : Bytes} → ChangesNodes n n' c (set_status x (status_of u))
        → JudgeGives ws (work n e a) c x (Ok c) (work n' e a)
    linked-takes u taken C = nodes-only A.judge (set_status x (status_of u))
        (λ put. judge-linked put x (g A.judge) y A.link ∙ ap (λ (q : Status). judge_linked put x y q (g A.judge)) status ∙ taken put x y (g A.judge))
        (C e a A.judge.held)

    pub linked-small : IsTaken v None → SmallAsks ws (work n e a) c x y
    linked-small small = record { linked = A; small = status ∙ small }

-- its state is small
pub small-judges : {ws : List ℕ} {w : Work} {c : Counts} {x y : ℕ} → SmallAsks ws w c x y → {r : Step} {w' : Work} → SmallGives ws w c x y r w'
    → JudgeGives ws w c x r w'
small-judges {ws} {w} {c} {x} {y} A G f few =
    let put : Put = puts ws f (capacity_of w) in
    refines-as (G f few)
    (judge-linked put x (graph_of w c) y A.linked.link ∙ ap (λ (u : Status). judge_linked put x y u (graph_of w c)) A.small
    ∙ linked-toosmall put x y (graph_of w c))
