-- The alternatives of a small state, put one after the other under the node that was linked to it: a turn of the loop, on plain values.
--
-- In order: what the call is about; the loop's invariant (`AlternativesPut`); its start; alternatives that were there stay where they are; the end;
-- the next alternative (`AlternativeFound`, `AlternativeJoined`), and its put.
use Rattle.std.specs.Prelude.{◌≡◌, ◌⊎◌, ℕ, ◌+◌, ◌-◌, ◌*◌, ◌≤◌, ◌<◌, length, Option, None, Some, Ok, Err}
use Rattle.std.proofs.Common.{sym, ap, ◌∙◌, subst, inl, arith}
use mathlib.Core.List.{List, [], ◌∷◌, Memᴰ}
use Rattle.concepts.specs.Lists.{Bytes}
use Rattle.concepts.specs.RowSet.{RowSet, union}
use Rattle.procedure.specs.Problem.{Problem}
use Rattle.procedure.specs.Graph.{lapsed, Node, Graph, Capacity, Result, reached, node_at, children, alternatives_of, set_link}
use Rattle.procedure.specs.GraphLaws.{Child, children-edges}
use Rattle.procedure.proofs.Sure.{Sure}
use Rattle.procedure.specs.Tableau.{judge_branch, put_within}
use Rattle.procedure.specs.TableauLaws.{alternatives-put}
use Rattle.procedure.proofs.Bare.{bare}
use Rattle.procedure.proofs.Setting.{Setting}
use Rattle.procedure.proofs.Invariant.{QuietBut}
use Rattle.procedure.proofs.Linked.{PutPre, PutPost, LinkedTo, Alternated, alternated-none, alternate-pre, alternate-fewer, alternate-done}
use Rattle.procedure.proofs.Put.{within-right}
use Rattle.procedure.proofs.Fit.{Anyone, pre-anyone, PutFit, JudgeFit}
use Rattle.words.specs.Sizes.{node_size, alternative_size, set_size, most_records}
use Rattle.rowset.specs.SetOf.{set_of}
use Rattle.problem.specs.Decoded.{problem_of}
use Rattle.records.specs.Areas.{room_of}
use Rattle.records.specs.Records.{node_of, IsNode}
use Rattle.graph.specs.Graphs.{Work, work, graph_of, capacity_of, Sized, Step, Refines, Changes, ChangesNodes, WithAlternatives}
use Rattle.graph.specs.Graphs.{alternatives_from, AmongAlternatives, Walks, IsNextAlternative}
use Rattle.graph.specs.GraphLaws.{sized-refl, sized-trans, sized-places, count-nodes, graph-node, graph-set, held-most, held-set, held-alternative}
use Rattle.graph.specs.SearchLaws.{alternatives-all, alternatives-kept, among-alternatives-same, next-alternative-same}
use Rattle.graph.specs.RefineLaws.{refines-answer, refines-as, refines-short, refines-changes, changes-both}
use Rattle.graph.specs.RefineLaws.{Course, course-start, course-next, course-short, course-end}
use Rattle.records.specs.declared.Node as D
use Rattle.steps.specs.Tables.{Judges, JudgesAs}
use Rattle.graph.specs.declared.Counts.{Counts}
use Rattle.graph.specs.declared.Area.{Area}
use Rattle.tableau.specs.Clauses.{lacks, puts, PutAsks, PutGives, SmallAsks, SmallGives}
use Rattle.tableau.specs.JudgeCases.{linked-there}

-- ---- what the call is about

module _ {ws : List ℕ} {w : Work} {c : Counts} {z y : ℕ} (A : SmallAsks ws w c z y) where
  abbrev P : Problem
  P = problem_of ws

  abbrev g : Graph
  g = graph_of w c

  abbrev J : JudgeFit P (capacity_of w) g z
  J = A.linked.judge.fit

  abbrev S : Setting
  S = bare P (capacity_of w) J.fit.well_posed

  abbrev k : ℕ
  k = lacks ws (node_at g z).rows

  abbrev joined : RowSet → RowSet
  joined b = union b (node_at g y).rows

  -- the put of one alternative
  abbrev step : ℕ → Capacity → RowSet → Graph → Result
  step f q b = puts ws f q z (node_at g z).pst (node_at g z).prl (joined b)

  pub everyone : QuietBut S (λ x. Anyone x ⊎ (x ≡ z)) g
  everyone x hx = inl (inl tt)

  -- the correctness proof is about this
  pub linked-node : LinkedTo S (put_within P (capacity_of w) k) k Anyone g z y
  linked-node = record {
    right = within-right S k;
    inv = J.fit.inv;
    there = J.there;
    link = A.linked.link;
    live = J.live;
    edge = J.edge y A.linked.link;
    few = omega arith;
    quiet = everyone;
  }

  -- its invariant, with these alternatives left
  abbrev Alternates : List RowSet → Graph → Type 0
  Alternates todo h = Alternated S linked-node todo h

  none_yet : Alternates (alternatives_of g y) g
  none_yet = alternated-none S linked-node

  module _ (b : RowSet) (todo : List RowSet) (h : Graph) (alternates : Alternates (b ∷ todo) h) where
    pre : PutPre S (λ x. Anyone x ⊎ (x ≡ z)) h z (node_at g z).pst (node_at g z).prl (joined b)
    pre = alternate-pre S linked-node b todo h alternates

    fewer : lacks ws (joined b) < k
    fewer = alternate-fewer S linked-node b todo h alternates

    one_less : (u : Graph) → reached u ≡ step k (capacity_of w) b h → Alternates todo u
    one_less u q =
        alternate-done S linked-node b todo h alternates u
        (subst (λ (r : Result). Sure S.problem (PutPost S (λ x. Anyone x ⊎ (x ≡ z)) h z (node_at g z).pst (node_at g z).prl (joined b)) r) (sym q)
        (within-right S k (λ x. Anyone x ⊎ (x ≡ z)) h z (node_at g z).pst (node_at g z).prl (joined b) alternates.inv alternates.quiet pre fewer))

-- ---- the loop's invariant

-- the alternatives from record i on are left
pub record AlternativesPut (ws : List ℕ) (w : Work) (c : Counts) (z y : ℕ) (w' : Work) (d : Counts) (i : ℕ) : Type 0 where
  pub asks : SmallAsks ws w c z y
  pub place : i ≤ c.alternatives
  pub among : AmongAlternatives (graph_of w c) y i
  pub sized : Sized w w'
  pub alternates : Alternates asks (alternatives_from (graph_of w c) y i) (graph_of w' d)
  pub course : (f : ℕ) → k asks ≤ f → Course (step asks f) (alternatives_of (graph_of w c) y) w c (alternatives_from (graph_of w c) y i) w' d

pub turn-start : {ws : List ℕ} {w : Work} {c : Counts} {z y : ℕ} → SmallAsks ws w c z y → AlternativesPut ws w c z y w c 0
turn-start {w = w} {c = c} {y = y} A = record {
  asks = A;
  place = omega arith;
  among = tt;
  sized = sized-refl;
  alternates = rw (alternatives-all (g A) y) (none_yet A);
  course = λ f few. rw (alternatives-all (g A) y) (course-start (step A f) (alternatives_of (g A) y) A.linked.judge.held);
}

-- ---- a turn

module _ {ws : List ℕ} {w : Work} {c : Counts} {z y : ℕ} {n' e' a' : Bytes} {d : Counts} {i : ℕ}
    (t : AlternativesPut ws w c z y (work n' e' a') d i) where
  abbrev A : SmallAsks ws w c z y
  A = t.asks

  abbrev h : Graph
  h = graph_of (work n' e' a') d

  pub so_far : Course (step A (k A)) (alternatives_of (g A) y) w c (alternatives_from (g A) y i) (work n' e' a') d
  so_far = t.course (k A) (omega arith)

  -- record j has the next alternative, b
  pub record AlternativeFound (j : ℕ) (b : RowSet) : Type 0 where
    pub from : i ≤ j
    pub below : j < c.alternatives
    pub here : alternatives_from (g A) y i ≡ b ∷ alternatives_from (g A) y (j + 1)
    pub among : AmongAlternatives (g A) y (j + 1)

  -- it is joined to the set of state y, and put under node z, which was loaded as v
  pub record AlternativeJoined (j : ℕ) (v : D.Node) (σ : RowSet) : Type 0 where
    pub set : RowSet
    pub chosen : AlternativeFound j set
    pub node : node_at (g A) z ≡ node_of (node_at (g A) z).rows v
    pub join : σ ≡ union set (node_at (g A) y).rows

  -- what the step to the next alternative asks
  pub turn-walks : Walks alternative_size n' a' c.nodes c.alternatives y i
  turn-walks = record {
    node = linked-there A.linked;
    nodes = omega (arith, so_far.held.nodes, so_far.grown.nodes);
    place = t.place;
    records = omega (arith, so_far.held.alternatives, so_far.grown.alternatives);
  }

  there : z < d.nodes
  there = omega (arith, (J A).there, count-nodes w c, so_far.grown.nodes)

  pub turn-sets : (z < d.nodes) × (d.nodes ≤ room_of node_size n')
  turn-sets = (there, so_far.held.nodes)

  -- what the step says of the next alternative
  abbrev Tells : Option ℕ → Type 0
  Tells v = WithAlternatives n' a' c (λ u. AmongAlternatives u y i → IsNextAlternative a' v i c.alternatives (alternatives_from u y)
      (AmongAlternatives u y))

  module _ {v : Option ℕ} (W : Tells v) where
    -- the alternatives of the start stand where they stood
    told : {u : Option ℕ} → v ≡ u → IsNextAlternative a' u i c.alternatives (alternatives_from (g A) y) (AmongAlternatives (g A) y)
    told ev =
        let (more, q) = t.alternates.grows.alternatives in
        let same = alternatives-kept w (work n' e' a') so_far.grown more q in
        subst (λ (u : Option ℕ). IsNextAlternative a' u i c.alternatives (alternatives_from (g A) y) (AmongAlternatives (g A) y)) ev
        (next-alternative-same (g A) (graph_of (work n' e' a') c) y i c.alternatives a' same v
        (W e' d so_far.held so_far.grown (among-alternatives-same (graph_of (work n' e' a') c) (g A) y i (sym same) t.among)))

    pub turn-next : {j : ℕ} → v ≡ Some j → AlternativeFound j (set_of a' (alternative_size * j))
    turn-next ev = let (l, m, q, o) = told ev in record { from = l; below = m; here = q; among = o }

    none_left : v ≡ None → alternatives_from (g A) y i ≡ []
    none_left ev = told ev

  -- ---- the end: the node lapses, and is judged by its children

  module _ {n₁ : Bytes} (L : ChangesNodes n' n₁ d (set_link z lapsed)) where
    C : Changes (work n' e' a') d (work n₁ e' a') (set_link z lapsed)
    C = L e' a' so_far.held

    pub turn-judges : Judges n₁ e' d z
    turn-judges =
        let q : children (graph_of (work n₁ e' a') d) z ≡ children h z =
        children-edges (graph_of (work n₁ e' a') d) h (ap (λ (u : Graph). u.edges) C.meets) z in
        let inside : (v : ℕ) → Child h z v → v < d.nodes = λ v m. omega
        (arith, (t.alternates.inv.ends z v m).1, count-nodes (work n' e' a') d) in
        record { alternatives = a'; held = C.held; node = there; inside = λ v m. inside v (subst (λ (l : List ℕ). Memᴰ v l) q m) }

    pub turn_end : {v : Option ℕ} → Tells v → v ≡ None
        → {n₂ : Bytes} → JudgesAs n₁ n₂ e' d (judge_branch z) → SmallGives ws w c z y (Ok d) (work n₂ e' a')
    turn_end W ev B f few =
        let all : Course (step A f) (alternatives_of (g A) y) w c [] (work n' e' a') d = rw (none_left W ev) at (t.course f few) in
        refines-as (refines-changes (course-end all) (changes-both C (B a' C.held))) (alternatives-put (puts ws f (capacity_of w)) z y (g A))

-- ---- the next alternative

module _ {ws : List ℕ} {n e a : Bytes} {c : Counts} {z y : ℕ} {n' e' a' : Bytes} {d : Counts} {i : ℕ}
    {t : AlternativesPut ws (work n e a) c z y (work n' e' a') d i} {j : ℕ} {b : RowSet}
    (p : AlternativeFound t j b) where
  pub turn-index : j + 1 ≤ most_records
  turn-index = omega (arith, p.below, (held-most (A t).linked.judge.held).2)

  pub turn-less : c.alternatives - (j + 1) < c.alternatives - i
  turn-less = omega (arith, p.from, p.below)

  -- the set of state y stands where it stood
  state-set : set_of n' (node_size * y) ≡ (node_at (g (A t)) y).rows
  state-set =
      let l = linked-there (A t).linked in
      sym (graph-set (work n' e' a') d y (omega (arith, (so_far t).grown.nodes)))
      ∙ ap (λ (q : Node). q.rows) (t.alternates.kept y (omega (arith, count-nodes (work n e a) c)))

  pub turn-joined : (v : D.Node) → IsNode n z v → {σ : RowSet} → σ ≡ union b (set_of n' (node_size * y)) → AlternativeJoined t j v σ
  turn-joined v hv eσ =
      let l : z < c.nodes = omega (arith, (J (A t)).there, count-nodes (work n e a) c) in
      record {
        set = b;
        chosen = p;
        node = graph-node (work n e a) c z l ∙ sym hv ∙ ap (λ (q : RowSet). node_of q v) (sym (graph-set (work n e a) c z l));
        join = eσ ∙ ap (union b) state-set;
      }

  -- where both sets stand
  pub turn-sets-inside : (alternative_size * j + set_size ≤ length a') × (node_size * y + set_size ≤ length n')
  turn-sets-inside =
      let l = linked-there (A t).linked in (
        held-alternative (so_far t).held (omega (arith, p.below, (so_far t).grown.alternatives)),
        held-set (so_far t).held (omega (arith, (so_far t).grown.nodes)),
      )

-- ---- its put

module _ {ws : List ℕ} {w : Work} {c : Counts} {z y : ℕ} {n' e' a' : Bytes} {d : Counts} {i : ℕ} {t : AlternativesPut ws w c z y
    (work n' e' a') d i}
    {j : ℕ} {v : D.Node} {σ : RowSet} (q : AlternativeJoined t j v σ) where
  abbrev b : RowSet
  b = q.set

  abbrev w' : Work
  w' = work n' e' a'

  abbrev todo : List RowSet
  todo = alternatives_from (g (A t)) y (j + 1)

  at_here : Alternates (A t) (b ∷ todo) (h t)
  at_here = subst (λ (l : List RowSet). Alternates (A t) l (h t)) q.chosen.here t.alternates

  pub turn-asks : PutAsks ws (work n' e' a') d z v.pst v.prl σ
  turn-asks =
      let u = node_at (g (A t)) z in
      let asks : PutAsks ws w' d z u.pst u.prl (joined (A t) b) = record {
        decoded = (A t).linked.judge.decoded;
        held = (so_far t).held;
        fit = subst (λ (q : Capacity). PutFit (P (A t)) q (h t) z u.pst u.prl (joined (A t) b)) (sym (sized-places t.sized)) (record {
          fit = record { well_posed = (J (A t)).fit.well_posed; inv = at_here.inv };
          pre = pre-anyone (S (A t)) (λ x. Anyone x ⊎ (x ≡ z)) (h t) z u.pst u.prl (joined (A t) b) (pre (A t) b todo (h t) at_here);
        });
      } in
      subst (λ (x : RowSet). PutAsks ws w' d z v.pst v.prl x) (sym q.join)
      (subst (λ (u : Node). PutAsks ws w' d z u.pst u.prl (joined (A t) b)) q.node asks)

  -- it lacks fewer rows
  pub turn-falls : 4 * lacks ws σ + 3 < 4 * lacks ws (node_at (graph_of w c) z).rows
  turn-falls = rw q.join (omega (arith, fewer (A t) b todo (h t) at_here))

  module _ {w'' : Work} {r : Step} (G : PutGives ws (work n' e' a') d z v.pst v.prl σ r w'') where
    did : {s : Step} → r ≡ s → (f : ℕ) → k (A t) ≤ f → Refines w' d s w'' (λ k h. step (A t) f k b h)
    did er f few =
        refines-answer
        (subst (λ (u : Node). PutGives ws w' d z u.pst u.prl (joined (A t) b) r w'') (sym q.node)
        (subst (λ (x : RowSet). PutGives ws w' d z v.pst v.prl x r w'') q.join G) f (omega (arith, fewer (A t) b todo (h t) at_here))) er

    course-here : (f : ℕ) → k (A t) ≤ f → Course (step (A t) f) (alternatives_of (g (A t)) y) w c (b ∷ todo) w' d
    course-here f few = rw q.chosen.here at (t.course f few)

    pub turn-short : {x : Area} → r ≡ Err x → SmallGives ws w c z y (Err x) w''
    turn-short er f few =
        refines-as (refines-short (course-short (course-here f few) (did er f few)) (λ u k h. reached (judge_branch z (set_link z lapsed h))) sized-refl)
        (alternatives-put (puts ws f (capacity_of w)) z y (g (A t)))

    pub turn-put : {d₂ : Counts} → r ≡ Ok d₂ → AlternativesPut ws w c z y w'' d₂ (j + 1)
    turn-put {d₂} er =
        let B = did er (k (A t)) (omega arith) in
        record {
          asks = A t;
          place = omega (arith, q.chosen.below);
          among = q.chosen.among;
          sized = sized-trans t.sized B.sized;
          alternates =
              one_less (A t) b todo (h t) at_here (graph_of w'' d₂)
              (B.meets ∙ ap (λ (q : Capacity). step (A t) (k (A t)) q b (h t)) (sized-places t.sized));
          course = λ f few. course-next (course-here f few) (did er f few);
        }
