-- The cases of put, on plain values.
--
-- In order: the places (`Finished`, `Weighed`, `Complete`, `Linked`); a node with no status or never; a lapsed special node; a linked one; its
-- judgement, and its edge.
use Rattle.std.specs.Prelude.{◌≡◌, Bool, true, false, not, List, ℕ, zero, suc, ◌+◌, ◌*◌, ◌≤◌, ◌<◌, eqb, length, Ok, Err}
use Rattle.std.proofs.Common.{sym, ap, ◌∙◌, subst, not-suc-le-zero, arith, eqb→eq}
use Rattle.std.proofs.Math.Decide.{dec_lt}
use Rattle.std.proofs.lemmas.Bool.{not-true, not-false}
use Rattle.concepts.specs.Lists.{Bytes}
use Rattle.concepts.specs.Tests.{from-true, from_false}
use Rattle.concepts.specs.Role.{inverse, inverse-high, Turned}
use Rattle.concepts.specs.RowSet.{RowSet, empty}
use Rattle.procedure.specs.Status.{unset, unsat}
use Rattle.procedure.specs.Problem.{Problem}
use Rattle.procedure.specs.SetTests.{clash, unfinished, lacking}
use Rattle.procedure.proofs.SetTestLaws.{lacking-no-role}
use Rattle.procedure.specs.Graph.{Node, Graph, Capacity, Result, ◌>>=◌, add_edge, node_at, node_count}
use Rattle.procedure.specs.GraphLaws.{Child}
use Rattle.procedure.proofs.Sure.{Sure}
use Rattle.procedure.specs.Tableau.{link_special, judge}
use Rattle.procedure.specs.TableauLaws.{put-clash, put-unfinished, put-lapsed, put_linked}
use Rattle.procedure.proofs.Bare.{bare}
use Rattle.procedure.proofs.Setting.{Setting}
use Rattle.procedure.proofs.Special.{Started, special-started}
use Rattle.procedure.proofs.Fit.{Anyone, anyone-quiet, JudgeFit}
use Rattle.problem.specs.Decoded.{problem_of}
use Rattle.words.specs.Sizes.{node_size, set_size}
use Rattle.rowset.specs.SetOf.{set_of}
use Rattle.records.specs.Areas.{room_of}
use Rattle.records.specs.Records.{node_of}
use Rattle.graph.specs.Graphs.{Work, work, graph_of, capacity_of, Held, EdgesHeld, Step, Operation, Refines, AddsEdge}
use Rattle.graph.specs.GraphLaws.{sized-refl, sized-places, count-nodes, graph-set, held-set}
use Rattle.graph.specs.RefineLaws.{refines-answer, refines-as, refines-held, refines-then, refines-short}
use Rattle.records.specs.declared.Node as D
use Rattle.graph.specs.declared.Counts.{Counts}
use Rattle.graph.specs.declared.Area.{Area}
use Rattle.steps.specs.Steps.{AddsBelow, add_child, add_lapsed}
use Rattle.tableau.specs.Clauses.{lacks, puts, Below, PutAsks, PutGives, JudgeAsks, JudgeGives}

-- ---- the places

module _ {ws : List ℕ} {n e a : Bytes} {c : Counts} {m p ρ : ℕ} {s : RowSet} (A : PutAsks ws (work n e a) c m p ρ s) where
  abbrev P : Problem
  P = problem_of ws

  abbrev w : Work
  w = work n e a

  abbrev cap : Capacity
  cap = capacity_of w

  abbrev g : Graph
  g = graph_of w c

  -- what is lacking in the state above
  abbrev lacked : RowSet
  lacked = lacking P s (inverse ρ) (node_at g p).rows

  -- the set is finished, without a clash
  pub record Finished : Type 0 where
    pub clean : clash P s ≡ false
    pub finished : unfinished P.table s ≡ false

  -- and b says whether something is lacking, along a code that is ρ's turned round
  pub record Weighed (ι : ℕ) (b : Bool) : Type 0 where
    pub finished : Finished
    pub turned : lacking P s ι (set_of n (node_size * p)) ≡ lacked
    pub test : b ≡ not (eqb lacked empty)

  -- and nothing is lacking
  pub record Complete : Type 0 where
    pub finished : Finished
    pub nothing : eqb lacked empty ≡ true

  -- and the special node is made and linked
  pub record Linked (w₁ : Work) (c₁ : Counts) : Type 0 where
    pub complete : Complete
    pub gives : Refines w c (Ok c₁) w₁ (λ k h. link_special k p ρ s h)

  -- what holds one unit of fuel up holds with any that suffices
  fueled : {r : Step} {w' : Work} → ((f : ℕ) → lacks ws s ≤ f → Refines w c r w' (λ k h. puts ws (suc f) k m p ρ s h))
      → PutGives ws w c m p ρ s r w'
  fueled h zero few = absurd (not-suc-le-zero few)
  fueled h (suc f) few = h f (omega arith)

  above-there : p < c.nodes
  above-there = omega (arith, A.fit.pre.place.there, count-nodes w c)

  here : m < c.nodes
  here = omega (arith, A.fit.pre.there, count-nodes w c)

  -- what adding a child, and adding a lapsed node, ask
  pub put-adds : (m < c.nodes) × EdgesHeld n e c
  put-adds = (here, record { alternatives = a; held = A.held })

  pub put-joins : (m < c.nodes) × (p < c.nodes) × Held (work n e a) c
  put-joins = (here, above-there, A.held)

  -- ---- a node that needs no more

  child : {n' e' : Bytes} {r : Step} {v u : Node} → v ≡ u → AddsBelow n n' e e' c r (add_child m v)
      → Refines w c r (work n' e' a) (add_child m u)
  child {n'} {e'} {r} q B = subst (λ (u : Node). Refines w c r (work n' e' a) (add_child m u)) q (B a A.held)

  module _ {b : Bool} (hb : b ≡ clash P s) where
    pub put-clashes : b ≡ true → (v : D.Node) → Below v p ρ unsat
        → {n' e' : Bytes} {r : Step} → AddsBelow n n' e e' c r (add_child m (node_of s v))
        → PutGives ws (work n e a) c m p ρ s r (work n' e' a)
    put-clashes q v hv B = fueled (λ f few. refines-as (child (hv s) B) (put-clash P cap f m p ρ s g (sym hb ∙ q)))

    module _ (q : b ≡ false) {d : Bool} (hd : d ≡ unfinished P.table s) where
      pub put-waits : d ≡ true → (v : D.Node) → Below v p ρ unset
          → {n' e' : Bytes} {r : Step} → AddsBelow n n' e e' c r (add_child m (node_of s v))
          → PutGives ws (work n e a) c m p ρ s r (work n' e' a)
      put-waits u v hv B = fueled (λ f few. refines-as (child (hv s) B) (put-unfinished P cap f m p ρ s g (sym hb ∙ q) (sym hd ∙ u)))

      pub put-finished : d ≡ false → Finished
      put-finished u = record { clean = sym hb ∙ q; finished = sym hd ∙ u }

  -- what is lacking along a code that is turned round by cases: along one that is no role's nothing is, turned round or not
  turned-lacks : {ι : ℕ} → Turned ρ ι → (q : RowSet) → lacking P s ι q ≡ lacking P s (inverse ρ) q
  turned-lacks {ι} H q = elim (dec_lt ρ 32) [
    | yes h ↦ ap (λ (i : ℕ). lacking P s i q) (H.role h)
    | no h ↦
        let none : (σ : ℕ) → 32 ≤ σ → lacking P s σ q ≡ 0 = λ σ. lacking-no-role P s σ q A.fit.fit.well_posed in
        none ι (subst (λ (σ : ℕ). 32 ≤ σ) (sym (H.other (omega arith))) (omega arith)) ∙ sym (none (inverse ρ) (inverse-high ρ (omega arith)))
  ]

  -- against the set of the state above, where it stands
  pub put-weighed : Finished → {ι : ℕ} → Turned ρ ι → {b : Bool} → b ≡ not (eqb (lacking P s ι (set_of n (node_size * p))) empty) → Weighed ι b
  put-weighed F {ι} hι hb =
      let is : lacking P s ι (set_of n (node_size * p)) ≡ lacked =
      turned-lacks hι (set_of n (node_size * p)) ∙ ap (λ (q : RowSet). lacking P s (inverse ρ) q) (sym (graph-set w c p above-there)) in
      record { finished = F; turned = is; test = hb ∙ ap (λ (q : RowSet). not (eqb q empty)) is }

  -- the same where the tests were made, one after another: b of a clash, d of what is unfinished, v of what is lacking at place k
  module _ {b d : Bool} (hb : b ≡ clash P s) (clean : b ≡ false) (hd : d ≡ unfinished P.table s) (finished : d ≡ false)
      {ι : ℕ} (turned : Turned ρ ι) {k : ℕ} (at : k ≡ node_size * p) {v : Bool} (hv : v ≡ not (eqb (lacking P s ι (set_of n k)) empty)) where
    pub put-weighs : Weighed ι v
    put-weighs = put-weighed (put-finished hb clean hd finished) turned (hv ∙ ap (λ (q : ℕ). not (eqb (lacking P s ι (set_of n q)) empty)) at)

    pub put-completes : v ≡ false → Complete
    put-completes q = record { finished = put-weighs.finished; nothing = not-false (eqb lacked empty) (sym put-weighs.test ∙ q) }

  -- where that stands
  pub put-above : node_size * p + set_size ≤ length n
  put-above = held-set A.held above-there

-- ---- a finished set

module _ {ws : List ℕ} {n e a : Bytes} {c : Counts} {m p ρ : ℕ} {s : RowSet} {A : PutAsks ws (work n e a) c m p ρ s} {ι : ℕ} {b : Bool}
    (W : Weighed A ι b) where
  pub put-lapses : b ≡ true → {l : RowSet} → l ≡ lacking (P A) s ι (set_of n (node_size * p)) → {w' : Work} {r : Step}
      → Refines (work n e a) c r w' (add_lapsed m p ρ s l)
      → PutGives ws (work n e a) c m p ρ s r w'
  put-lapses q hl {w'} {r} B = fueled A (λ f few.
      refines-as (subst (λ (x : RowSet). Refines (w A) c r w' (add_lapsed m p ρ s x)) (hl ∙ W.turned) B)
      (put-lapsed (P A) (cap A) f m p ρ s (g A) W.finished.clean W.finished.finished (not-true (eqb (lacked A) empty) (sym W.test ∙ q))))

  pub put-complete : b ≡ false → Complete A
  put-complete q = record { finished = W.finished; nothing = not-false (eqb (lacked A) empty) (sym W.test ∙ q) }

-- ---- nothing is lacking: the special node

module _ {ws : List ℕ} {n e a : Bytes} {c : Counts} {m p ρ : ℕ} {s : RowSet} {A : PutAsks ws (work n e a) c m p ρ s} (K : Complete A) where
  -- the judgement that follows, with so much fuel, and the edge that comes last
  abbrev pub judging : ℕ → Graph → Operation
  judging f u k h = judge (puts ws f k) (node_count u) h

  abbrev pub closing : Graph → Operation
  closing u k h = add_edge k m (node_count u) h

  -- the put is this
  pub put_is : (f : ℕ) → puts ws (suc f) (cap A) m p ρ s (g A) ≡ (link_special (cap A) p ρ s (g A) >>= judging f (g A) (cap A) >>= closing (g A) (cap A))
  put_is f = put_linked (P A) (cap A) f m p ρ s (g A) K.finished.clean K.finished.finished K.nothing

  module _ {n₁ e₁ : Bytes} {r₁ : Step} (L : AddsBelow n n₁ e e₁ c r₁ (λ k h. link_special k p ρ s h)) where
    pub put-link-short : {x : Area} → r₁ ≡ Err x → PutGives ws (work n e a) c m p ρ s (Err x) (work n₁ e₁ a)
    put-link-short er =
        fueled A (λ f few. refines-as (refines-short (refines-short (refines-answer (L a A.held) er) (judging f) sized-refl) closing sized-refl) (put_is f))

    pub put-links : {c₁ : Counts} → r₁ ≡ Ok c₁ → Linked A (work n₁ e₁ a) c₁
    put-links er = record { complete = K; gives = refines-answer (L a A.held) er }

-- ---- the special node is made: its judgement, and its edge

module _ {ws : List ℕ} {n e a : Bytes} {c : Counts} {m p ρ : ℕ} {s : RowSet} {A : PutAsks ws (work n e a) c m p ρ s} {w₁ : Work} {c₁ : Counts}
    (L : Linked A w₁ c₁) where
  abbrev g₁ : Graph
  g₁ = graph_of w₁ c₁

  abbrev S : Setting
  S = bare (P A) (cap A) A.fit.fit.well_posed

  started : Started S Anyone (g A) p ρ s g₁
  started =
      let B = A.fit.pre in
      let K = L.complete in
      subst (λ (r : Result). Sure S.problem (Started S Anyone (g A) p ρ s) r) (sym L.gives.meets)
      (special-started S
      (record { inv = A.fit.fit.inv; quiet = anyone-quiet S (g A); place = B.place; standing = B.standing; rules = B.rules })
      (eqb→eq (lacked A) empty (from-true (eqb (lacked A) empty) K.nothing))
      (from_false (clash (P A) s) K.finished.clean) (from_false (unfinished (P A).table s) K.finished.finished))

  -- the judgement of the new node may rely on this
  pub put-judge-asks : JudgeAsks ws w₁ c₁ c.nodes
  put-judge-asks =
      let K = started in
      subst (λ (i : ℕ). JudgeAsks ws w₁ c₁ i) (count-nodes (w A) c) (
      record {
        decoded = A.decoded;
        held = refines-held L.gives;
        fit = subst (λ (k : Capacity). JudgeFit (P A) k g₁ (node_count (g A))) (sym (sized-places L.gives.sized)) (record {
          fit = record { well_posed = A.fit.fit.well_posed; inv = K.made.inv };
          there = K.made.fresh.there;
          live = K.live;
          edge = λ y v. let u : K.state ≡ y = cc (K.link, v) in subst (λ (i : ℕ). Child g₁ (node_count (g A)) i) u K.edge;
        });
      })

  -- it has the set that is put
  new-rows : (node_at g₁ c.nodes).rows ≡ s
  new-rows = subst (λ (i : ℕ). (node_at g₁ i).rows ≡ s) (count-nodes (w A) c) started.made.fresh.rows

  pub put-judge-falls : 4 * lacks ws (node_at g₁ c.nodes).rows + 2 < 4 * lacks ws s + 3
  put-judge-falls = rw new-rows (omega arith)

  module _ {n₂ e₂ a₂ : Bytes} {r₂ : Step} (J : JudgeGives ws w₁ c₁ c.nodes r₂ (work n₂ e₂ a₂)) where
    judged : {r : Step} → r₂ ≡ r → (f : ℕ) → lacks ws s ≤ f → Refines (w A) c r (work n₂ e₂ a₂)
        (λ k h. link_special k p ρ s h >>= judging L.complete f h k)
    judged {r} er f few = refines-then L.gives (judging L.complete f)
        (subst (λ (i : ℕ). Refines w₁ c₁ r (work n₂ e₂ a₂) (λ k h. judge (puts ws f k) i h)) (sym (count-nodes (w A) c))
        (refines-answer (J f (subst (λ (x : RowSet). lacks ws x ≤ f) (sym new-rows) few)) er))

    pub put-judge-short : {x : Area} → r₂ ≡ Err x → PutGives ws (work n e a) c m p ρ s (Err x) (work n₂ e₂ a₂)
    put-judge-short er = fueled A (λ f few. refines-as (refines-short (judged er f few) (closing L.complete) sized-refl) (put_is L.complete f))

    -- what the edge to the new node asks
    pub put-edge-asks : {c₂ : Counts} → r₂ ≡ Ok c₂ → (m < c₂.nodes) × (c.nodes < c₂.nodes) × (c₂.nodes ≤ room_of node_size n₂)
    put-edge-asks er =
        let B = refines-answer (J (lacks ws (node_at g₁ c.nodes).rows) (omega arith)) er in
        let more : c.nodes < c₁.nodes = omega (arith, started.made.fresh.there, count-nodes (w A) c, count-nodes w₁ c₁) in
        (omega (arith, here A, more, B.held.1.nodes), omega (arith, more, B.held.1.nodes), B.held.0.nodes)

    pub put-judged : {c₂ : Counts} → r₂ ≡ Ok c₂ → {n₃ e₃ : Bytes} {r₃ : Step}
        → AddsEdge n₂ n₃ e₂ e₃ c₂ r₃ (λ k h. add_edge k m c.nodes h)
        → PutGives ws (work n e a) c m p ρ s r₃ (work n₃ e₃ a₂)
    put-judged {c₂} er {n₃} {e₃} {r₃} E = fueled A (λ f few.
        let B = judged er f few in
        refines-as (refines-then B (closing L.complete)
        (subst (λ (i : ℕ). Refines (work n₂ e₂ a₂) c₂ r₃ (work n₃ e₃ a₂) (λ k h. add_edge k m i h))
        (sym (count-nodes (w A) c)) (E a₂ (refines-held B)))) (put_is L.complete f))
