-- The elements walked one after another: a turn of the loop, on plain values.
--
-- In order: what the definition's walk gives (`Whole`); the loop's invariant (`ElementTurn`); its end; a turn (`Element`); the start.
use Rattle.std.specs.Prelude.{◌≡◌, ℕ, suc, ◌+◌, ◌-◌, ◌≤◌, ◌<◌, length, get_or, take, Some}
use Rattle.std.proofs.Common.{sym, ap, ◌∙◌, subst, arith}
use mathlib.Core.List.{List, map, map-map, Memᴰ}
use Rattle.std.proofs.Math.Seq.{take-length}
use Rattle.concepts.specs.Lists.{Bytes, range}
use Rattle.concepts.specs.ListLaws.{get_or-mem, map_same, range-mem}
use Rattle.concepts.specs.Begins.{begins-length, begins-get_or}
use Rattle.concepts.specs.Counting.{share-le}
use Rattle.concepts.specs.Concept.{exist, Table, concept_at}
use Rattle.concepts.specs.RowSet.{RowSet}
use Rattle.procedure.specs.Problem.{Problem}
use Rattle.procedure.specs.Graph.{Node, Graph, node_at}
use Rattle.procedure.specs.Example.{Walk, descend, walk_rows, rows_of, walk, example}
use Rattle.procedure.specs.ExampleLaws.{example-some}
use Rattle.procedure.specs.WalkLaws.{Ends, ends_next, ends_last, ends-grows, ends-start}
use Rattle.procedure.proofs.Finished.{Finished}
use Rattle.procedure.proofs.Descend.{Usable}
use Rattle.procedure.proofs.Walk.{edges_from, right-few, walk-walked}
use Rattle.procedure.proofs.Way.{Way, row-way, root-way}
use Rattle.words.specs.Sizes.{most_records}
use Rattle.problem.specs.Decoded.{table_of, problem_of}
use Rattle.problem.specs.DecodedLaws.{decoded-posed}
use Rattle.records.specs.AreaLaws.{length-records, get_or-records}
use Rattle.records.specs.Records.{node_in}
use Rattle.graph.specs.Graphs.{Work, graph_of}
use Rattle.graph.specs.GraphLaws.{count-nodes, count-edges, graph-node}
use Rattle.graph.specs.declared.Counts.{Counts}
use Rattle.marks.specs.Marks.{state_in, role_link_in}
use Rattle.marks.specs.declared.Sizes.{Sizes}
use Rattle.walk.specs.Clauses.{nodes_edges, Kept, DescendAsks, DescendGives, walk_in, Numbered}
use Rattle.walk.specs.Clauses.{RowsAsks, RowsGives, StartAsks, StartGives, WalkAsks, WalkGives}
use Rattle.walk.specs.KeptLaws.{kept_refl, kept_trans, kept-beside, kept-node, kept-graph, kept-held, kept-holds, finished-bare, example-bare}

-- ---- what the definition's walk gives

module _ {ws : List ℕ} {w : Work} {c : Counts} (A : WalkAsks ws w c) where
  abbrev P : Problem
  P = problem_of ws

  abbrev t : Table
  t = table_of ws

  abbrev g : Graph
  g = graph_of w c

  finished : Finished P g A.good
  finished = finished-bare w A.holds.alternatives c A.finished

  codes : (k ρ l : ℕ) → concept_at t k ≡ exist ρ l → ρ < 32
  codes = (decoded-posed A.decoded).exist_role

  -- it ends, its elements are usable states, and it finds place
  record Whole (v : Walk) : Type 0 where
    pub ends : walk t g ≡ Some v
    pub usable : (y : ℕ) → Memᴰ y v.states → Usable g A.good y
    pub few_states : length v.states ≤ c.nodes
    pub few_links : length v.links ≤ c.edges

  whole : (v : Walk) × Whole v
  whole =
      let (v, ends, W, _, _) = walk-walked P g A.good codes finished in
      let all : edges_from g (take (length v.states) v.states) ≡ edges_from g v.states = ap (edges_from g) (take-length v.states) in (
        v,
        record {
          ends = ends;
          usable = W.right.usable;
          few_states = omega (arith, right-few P g A.good v W.right, count-nodes w c);
          few_links = omega (arith, W.few, share-le (λ u. u.from) g.edges v.states W.right.distinct, all, count-edges w c);
        },
      )

  pub walk-asks : DescendAsks w c 0
  walk-asks = let (y, v) = root-way P g A.good finished in record { holds = A.holds; end = y; way = v }

-- ---- the loop's invariant

-- what is left from element d on gives the whole
pub record ElementTurn (ws : List ℕ) (w : Work) (c : Counts) (w' : Work) (s : Sizes) (d : ℕ) : Type 0 where
  pub asks : WalkAsks ws w c
  pub kept : Kept w w'
  pub numbered : Numbered w'.nodes c s.elements
  pub few : s.elements ≤ c.nodes
  pub rest : (v : Walk) → walk (table_of ws) (graph_of w c) ≡ Some v → Ends (table_of ws) (graph_of w c) d (walk_in w' s) v

module _ {ws : List ℕ} {w : Work} {c : Counts} {w' : Work} {s : Sizes} {d : ℕ} (T : ElementTurn ws w c w' s d) where
  abbrev table : Table
  table = table_of ws

  abbrev h : Graph
  h = graph_of w c

  abbrev so_far : Walk
  so_far = walk_in w' s

  same : graph_of w' c ≡ h
  same = kept-graph T.kept c

  -- element d is there
  pub record Element : Type 0 where
    pub is : d < s.elements

  pub element-there : d < s.elements → Element
  element-there l = record { is = l }

  -- ---- the end

  elements-held : map (λ y. (node_at h y).rows) so_far.states ≡ map (λ i. (node_in w'.nodes (state_in w'.nodes i)).rows) (range 0 s.elements)
  elements-held =
      map-map (λ y. (node_at h y).rows) (state_in w'.nodes) (range 0 s.elements)
      ∙ map_same (λ i. (node_at h (state_in w'.nodes i)).rows) (λ i. (node_in w'.nodes (state_in w'.nodes i)).rows) (range 0 s.elements)
      (λ i m.
      let l : i < s.elements = omega (arith, (range-mem 0 s.elements i m).1) in
      let y = state_in w'.nodes i in
      ap (λ (x : Node). x.rows) (graph-node w c y (T.numbered.inside i l) ∙ sym (kept-node T.kept y)))

  pub element-end : s.elements ≤ d → WalkGives ws w c s w'
  element-end l =
      let (v, O) = whole T.asks in
      let p : so_far ≡ v = ends_last table h d so_far v (omega (arith, length-records state_in w'.nodes s.elements)) (T.rest v O.ends) in
      record {
        same = λ a. kept-graph (kept-beside T.kept a) c;
        walked = λ a.
            example-bare w a c table
            ∙ example-some table h so_far (O.ends ∙ ap Some (sym p))
            ∙ ap (λ (xs : List RowSet). Some (record { elements = xs; links = so_far.links })) elements-held;
        few_elements = T.few;
        few_links = omega (arith, O.few_links, ap (λ (x : Walk). length x.links) p, length-records role_link_in w'.edges s.links);
        inside = T.numbered.inside;
      }

-- ---- a turn

module _ {ws : List ℕ} {w : Work} {c : Counts} {w' : Work} {s : Sizes} {d : ℕ} {T : ElementTurn ws w c w' s d} (E : Element T) where
  pub element-few : d + 1 ≤ most_records
  element-few = omega (arith, E.is, T.few, T.asks.holds.held.nodes)

  pub element-less : c.nodes - (d + 1) < c.nodes - d
  element-less = omega (arith, E.is, T.few)

  -- the state for which it stands, and the rows of that
  abbrev state : ℕ
  state = state_in w'.nodes d

  abbrev rows : Graph → List (ℕ × ℕ)
  rows k = rows_of (table T) k state

  inside : d < length (so_far T).states
  inside = omega (arith, E.is, length-records state_in w'.nodes s.elements)

  state-here : get_or (so_far T).states d 0 ≡ state
  state-here = get_or-records state_in w'.nodes s.elements d 0 E.is

  -- the rows of this element, and what is left after them
  here : (v : Walk) → walk (table T) (h T) ≡ Some v → (u : Walk) × (walk_rows (h T) d (rows (h T)) (so_far T) ≡ Some u)
      × Ends (table T) (h T) (suc d) u v
  here v ends =
      subst (λ (x : ℕ). (u : Walk) × (walk_rows (h T) d (rows_of (table T) (h T) x) (so_far T) ≡ Some u) × Ends (table T) (h T) (suc d) u v) state-here
      (ends_next (table T) (h T) d (so_far T) v inside (T.rest v ends))

  state-usable : (v : Walk) → Whole T.asks v → Usable (h T) T.asks.good state
  state-usable v O =
      let (B, _) = ends-grows (table T) (h T) d (so_far T) v (T.rest v O.ends) in
      let p : get_or v.states d 0 ≡ state = begins-get_or (so_far T).states v.states d 0 B inside ∙ state-here in
      subst (Usable (h T) T.asks.good) p
      (O.usable (get_or v.states d 0) (get_or-mem v.states d 0 (omega (arith, inside, begins-length (so_far T).states v.states B))))

  pub element-asks : RowsAsks ws w' c s d
  element-asks =
      let A = T.asks in
      let (v, O) = whole A in
      let (u, r, F) = here v O.ends in
      let (B, m) = ends-grows (table T) (h T) (suc d) u v F in
      record {
        decoded = A.decoded;
        holds = kept-holds T.kept c A.holds;
        numbered = T.numbered;
        element = E.is;
        ways = subst (λ (k : Graph). (a : ℕ × ℕ) → Memᴰ a (rows k) → (y : ℕ) × Way k a.1 y) (sym (same T))
            (row-way (problem_of ws) (h T) A.good (finished A) (codes A) state (state-usable v O));
        end = u;
        walks = subst (λ (k : Graph). walk_rows k d (rows k) (so_far T) ≡ Some u) (sym (same T)) r;
        few_states = omega (arith, begins-length u.states v.states B, O.few_states);
        few_links = omega (arith, m, O.few_links);
      }

  pub element-walked : {w'' : Work} {r : Sizes} → RowsGives ws w' c s d r w'' → ElementTurn ws w c w'' r (d + 1)
  element-walked {w''} {r} G = record {
    asks = T.asks;
    kept = kept_trans T.kept G.kept;
    numbered = G.numbered;
    few =
        let (v, O) = whole T.asks in
        let (B, _) = ends-grows (table T) (h T) (d + 1) (walk_in w'' r) v (on v O.ends) in
        omega (arith, begins-length (walk_in w'' r).states v.states B, O.few_states, length-records state_in w''.nodes r.elements);
    rest = on;
  }
    where
      on : (v : Walk) → walk (table T) (h T) ≡ Some v → Ends (table T) (h T) (d + 1) (walk_in w'' r) v
      on v ends =
          let (u, f, F) = here v ends in
          let k : walk_rows (h T) d (rows (h T)) (so_far T) ≡ Some (walk_in w'' r) =
          subst (λ (k : Graph). walk_rows k d (rows k) (so_far T) ≡ Some (walk_in w'' r)) (same T) G.walked in
          let p : u ≡ walk_in w'' r = cc in
          let q : suc d ≡ d + 1 = omega arith in
          subst (λ (i : ℕ). Ends (table T) (h T) i (walk_in w'' r) v) q (subst (λ (x : Walk). Ends (table T) (h T) (suc d) x v) p F)

-- ---- the start: the marks of the first state change no record

module _ {ws : List ℕ} {n e : Bytes} {c : Counts} (A : WalkAsks ws (nodes_edges n e) c) {y : ℕ} (D : DescendGives (nodes_edges n e) c 0 y) where
  pub start-asks : StartAsks n c y
  start-asks = record { room = A.holds.held.nodes; inside = D.inside }

  module _ {n' : Bytes} {s : Sizes} (G : StartGives n c y s n') where
    pub started-asks : WalkAsks ws (nodes_edges n' e) c
    started-asks = record {
      decoded = A.decoded;
      holds = record { alternatives = A.holds.alternatives; held = kept-held (G.kept e) c A.holds.held };
      good = A.good;
      finished =
          let same = kept-graph (kept-beside (G.kept e) A.holds.alternatives) c in
          subst (λ (k : Graph). Finished (problem_of ws) k A.good) (sym same) A.finished;
    }

    pub element-start : ElementTurn ws (nodes_edges n' e) c (nodes_edges n' e) s 0
    element-start = record {
      asks = started-asks;
      kept = kept_refl;
      numbered = G.numbered;
      few = omega (arith, D.inside, length-records state_in n' s.elements, ap (λ (v : Walk). length v.states) (G.starts e));
      rest = λ v q.
          let f = graph_of (nodes_edges n' e) c in
          let finds : descend f 0 ≡ Some y = subst (λ (k : Graph). descend k 0 ≡ Some y) (sym (kept-graph (G.kept e) c)) D.finds in
          subst (λ (u : Walk). Ends (table_of ws) f 0 u v) (sym (G.starts e)) (ends-start (table_of ws) f y v finds q);
    }

    pub started-gives : {r : Sizes} {w'' : Work} → WalkGives ws (nodes_edges n' e) c r w'' → WalkGives ws (nodes_edges n e) c r w''
    started-gives W = record {
      same = λ a. W.same a ∙ kept-graph (kept-beside (G.kept e) a) c;
      walked = λ a. ap (example (table_of ws)) (sym (kept-graph (kept-beside (G.kept e) a) c)) ∙ W.walked a;
      few_elements = W.few_elements;
      few_links = W.few_links;
      inside = W.inside;
    }
