-- Laws of Graphs: a step that adds a record, with its place in the chains.
--
-- In order: a node more; an edge more; an alternative more. Each has a law for a record that finds its place, and one for none.
use Rattle.std.specs.Prelude.{◌≡◌, true, false, List, [], ◌∷◌, ℕ, ◌+◌, ◌≤◌, ◌<◌, ltb, length, Ok, Err}
use Rattle.std.proofs.Math.Path.{refl, sym, ap}
use Rattle.std.proofs.Common.{◌∙◌, lt-ltb, le-ltb, length-append}
use Rattle.std.proofs.Math.Decide.{dec_lt}
use native.Mathlib.Omega.{arith}
use Rattle.concepts.specs.Lists.{Bytes}
use Rattle.concepts.specs.RowSet.{RowSet}
use Rattle.concepts.specs.Tests.{impossible, picks_first, picks_second}
use Rattle.procedure.specs.Graph as G
use Rattle.words.specs.Sizes.{node_size, edge_size, alternative_size}
use Rattle.records.specs.Areas.{room_of, records_in, Stored}
use Rattle.records.specs.AreaLaws.{records-append, records-same, stored-then, within-beside, within_wider, within-then, beside-wider, beside-then}
use Rattle.records.specs.Layout.{node_chains, alternatives_at, node_free, edge_chains, edge_free}
use Rattle.records.specs.Records.{node_in, NodeWritten, edge_in, EdgeWritten, alternative_of, alternative_in, AlternativeWritten}
use Rattle.records.specs.RecordLaws.{node-beside, edge_beside, alternative-beside}
use Rattle.chains.specs.Places.{Appended, Begun}
use Rattle.graph.specs.Chains.{child_places, parent_places, alternative_places, more_nodes, more_edges, more_alternatives}
use Rattle.graph.specs.ChainsLaws.{chained-node, chained-edge, chained-alternative}
use Rattle.graph.specs.Graphs.{Work, work, graph_of, capacity_of, AddsNode, AddsEdge, AddsAlternative}
use Rattle.graph.specs.GraphLaws.{grown-refl, sized-refl, count-nodes, count-edges, count-alternatives}
use Rattle.graph.specs.declared.Counts.{Counts}
use Rattle.graph.specs.declared.Area.TheVariants.{Nodes, Edges, Alternatives}

-- ---- a node more

module _ (k : G.Capacity) (v : G.Node) (g : G.Graph) where
  node-room : G.node_count g < k.node_room → G.add_node k v g ≡ G.reached (G.append_node v g)
  unfolding G.add_node
  node-room h = picks_first (G.reached (G.append_node v g)) (G.no_place G.node_area g) (ltb (length g.nodes) k.node_room) (lt-ltb _ _ h)

  node-none : k.node_room ≤ G.node_count g → G.add_node k v g ≡ G.no_place G.node_area g
  unfolding G.add_node
  node-none h = picks_second (G.reached (G.append_node v g)) (G.no_place G.node_area g) (ltb (length g.nodes) k.node_room) (le-ltb _ _ h)

  -- where a node found its place, the graph has it at the end
  pub added-node : (h : G.Graph) → G.reached h ≡ G.add_node k v g → h ≡ G.append_node v g
  added-node h e = elim (dec_lt (G.node_count g) k.node_room) [
    | yes l ↦ let f = node-room l in cc
    | no l ↦ let f = node-none (omega arith) in impossible cc
  ]

-- where a node found its place, there is one more
pub added-count : (w : Work) (c : Counts) (v : G.Node) (k : G.Capacity) (w' : Work) (d : Counts)
    → G.reached (graph_of w' d) ≡ G.add_node k v (graph_of w c) → d.nodes ≡ c.nodes + 1
added-count w c v k w' d p =
    let q : G.node_count (graph_of w' d) ≡ length (graph_of w c).nodes + 1 =
    ap G.node_count (added-node k v (graph_of w c) (graph_of w' d) p) ∙ length-append (graph_of w c).nodes (v ∷ []) in
    omega (arith, count-nodes w c, count-nodes w' d)

graph-append-node : {n n' : Bytes} (c : Counts) (v : G.Node) → Stored node_in n n' c.nodes v → (e a : Bytes)
    → graph_of (work n' e a) (more_nodes c) ≡ G.append_node v (graph_of (work n e a) c)
unfolding graph_of
graph-append-node c v s e a =
    ap (λ (ns : List G.Node). record { nodes = ns; edges = records_in edge_in e c.edges; alternatives = records_in alternative_in a c.alternatives })
    (records-append node_in s)

module _ {n n' : Bytes} (c : Counts) (v : G.Node) where
  pub add-node-done : {n₂ n₃ n₄ : Bytes} → NodeWritten n n' c.nodes v
      → Begun child_places n' n₂ c.nodes → Begun parent_places n₂ n₃ c.nodes → Begun alternative_places n₃ n₄ c.nodes
      → c.nodes < room_of node_size n → AddsNode n n₄ c (Ok (more_nodes c)) (λ k g. G.add_node k v g)
  add-node-done W X Y Z l e a h =
      let B = within-beside (within-then (within_wider node_chains node_free (omega arith) (omega arith) X.within)
      (within-then (within_wider node_chains node_free (omega arith) (omega arith) Y.within)
      (within_wider node_chains node_free (omega arith) (omega arith) Z.within))) in
      let t = stored-then node_in W.stored B.long (node-beside (omega arith) B) in
      record {
        meets = ap G.reached (graph-append-node c v t e a)
            ∙ sym (node-room (capacity_of (work n e a)) v (graph_of (work n e a) c) (omega (arith, count-nodes (work n e a) c)));
        held = (
          record { nodes = omega (arith, t.size); edges = h.edges; alternatives = h.alternatives; chains = chained-node h.chains W.within X Y Z },
          record { nodes = omega arith; edges = omega arith; alternatives = omega arith },
        );
        sized = record { nodes = t.size; edges = refl; alternatives = refl };
      }

pub add-node-full : {n : Bytes} (c : Counts) (v : G.Node) → room_of node_size n ≤ c.nodes → AddsNode n n c (Err Nodes) (λ k g. G.add_node k v g)
add-node-full {n} c v l e a h = record {
  meets = (graph_of (work n e a) c, node-none (capacity_of (work n e a)) v (graph_of (work n e a) c) (omega (arith, count-nodes (work n e a) c)));
  held = tt;
  sized = sized-refl;
}

-- ---- an edge more

module _ (k : G.Capacity) (x y : ℕ) (g : G.Graph) where
  edge-room : length g.edges < k.edge_room → G.add_edge k x y g ≡ G.reached (G.append_edge x y g)
  unfolding G.add_edge
  edge-room h = picks_first (G.reached (G.append_edge x y g)) (G.no_place G.edge_area g) (ltb (length g.edges) k.edge_room) (lt-ltb _ _ h)

  edge_none : k.edge_room ≤ length g.edges → G.add_edge k x y g ≡ G.no_place G.edge_area g
  unfolding G.add_edge
  edge_none h = picks_second (G.reached (G.append_edge x y g)) (G.no_place G.edge_area g) (ltb (length g.edges) k.edge_room) (le-ltb _ _ h)

-- nodes that read as before, and one edge more
graph-append-edge : (n n' : Bytes) {e e' : Bytes} (c : Counts) (x y : ℕ) → ((z : ℕ) → node_in n' z ≡ node_in n z)
    → Stored edge_in e e' c.edges (record { from = x; to = y }) → (a : Bytes)
    → graph_of (work n' e' a) (more_edges c) ≡ G.append_edge x y (graph_of (work n e a) c)
unfolding graph_of
graph-append-edge n n' c x y same s a = cc (records-same node_in same c.nodes, records-append edge_in s)

module _ {n n₁ n₂ e e₁ e₂ e₃ : Bytes} (c : Counts) (x y : ℕ) where
  pub add-edge-done : x < c.nodes → y < c.nodes → EdgeWritten e e₁ c.edges (record { from = x; to = y })
      → Appended child_places n n₁ e₁ e₂ c.edges x → Appended parent_places n₁ n₂ e₂ e₃ c.edges y
      → c.edges < room_of edge_size e → AddsEdge n n₂ e e₃ c (Ok (more_edges c)) (λ k g. G.add_edge k x y g)
  unfolding edge_in
  add-edge-done hx hy W J K l a h =
      let B = beside-then (beside-wider edge_chains edge_free (omega arith) (omega arith) J.area)
      (beside-wider edge_chains edge_free (omega arith) (omega arith) K.area) in
      let t = stored-then edge_in W.stored B.long (edge_beside (omega arith) B) in
      let N = beside-then (beside-wider node_chains alternatives_at (omega arith) (omega arith) (within-beside J.nodes))
      (beside-wider node_chains alternatives_at (omega arith) (omega arith) (within-beside K.nodes)) in
      record {
        meets = ap G.reached (graph-append-edge n n₂ c x y (node-beside (omega arith) N) t a)
            ∙ sym (edge-room (capacity_of (work n e a)) x y (graph_of (work n e a) c) (omega (arith, count-edges (work n e a) c)));
        held = (
          record {
            nodes = omega (arith, h.nodes, N.long);
            edges = omega (arith, t.size);
            alternatives = h.alternatives;
            chains = chained-edge h.chains hx hy (omega arith) W.within (ap (λ (d : G.Edge). d.from) W.stored.here)
                (ap (λ (d : G.Edge). d.to) W.stored.here) J K;
          },
          record { nodes = omega arith; edges = omega arith; alternatives = omega arith },
        );
        sized = record { nodes = N.long; edges = t.size; alternatives = refl };
      }

pub add-edge-full : {n e : Bytes} (c : Counts) (x y : ℕ) → room_of edge_size e ≤ c.edges → AddsEdge n n e e c (Err Edges) (λ k g. G.add_edge k x y g)
add-edge-full {n} {e} c x y l a h = record {
  meets = (graph_of (work n e a) c, edge_none (capacity_of (work n e a)) x y (graph_of (work n e a) c) (omega (arith, count-edges (work n e a) c)));
  held = tt;
  sized = sized-refl;
}

-- ---- an alternative more

module _ (k : G.Capacity) (x : ℕ) (s : RowSet) (g : G.Graph) where
  abbrev where_room : G.Result
  where_room = elim (ltb (length g.alternatives) k.alternative_room) as (λ _. G.Result) [
    | true ↦ G.reached (G.append_alternative x s g)
    | false ↦ G.no_place G.alternative_area g
  ]

  alternative-known : G.has_alternative x s g ≡ true → G.add_alternative k x s g ≡ G.reached g
  unfolding G.add_alternative
  alternative-known e = picks_first (G.reached g) where_room (G.has_alternative x s g) e

  alternative-room : G.has_alternative x s g ≡ false → length g.alternatives < k.alternative_room
      → G.add_alternative k x s g ≡ G.reached (G.append_alternative x s g)
  unfolding G.add_alternative
  alternative-room e h =
      picks_second (G.reached g) where_room (G.has_alternative x s g) e
      ∙ picks_first (G.reached (G.append_alternative x s g)) (G.no_place G.alternative_area g)
      (ltb (length g.alternatives) k.alternative_room) (lt-ltb _ _ h)

  alternative-none : G.has_alternative x s g ≡ false → k.alternative_room ≤ length g.alternatives
      → G.add_alternative k x s g ≡ G.no_place G.alternative_area g
  unfolding G.add_alternative
  alternative-none e h =
      picks_second (G.reached g) where_room (G.has_alternative x s g) e
      ∙ picks_second (G.reached (G.append_alternative x s g)) (G.no_place G.alternative_area g)
      (ltb (length g.alternatives) k.alternative_room) (le-ltb _ _ h)

graph-append-alternative : (n n' : Bytes) {a a' : Bytes} (c : Counts) (x : ℕ) (s : RowSet) → ((z : ℕ) → node_in n' z ≡ node_in n z)
    → Stored alternative_in a a' c.alternatives (alternative_of s x) → (e : Bytes)
    → graph_of (work n' e a') (more_alternatives c) ≡ G.append_alternative x s (graph_of (work n e a) c)
unfolding graph_of
graph-append-alternative n n' c x s same t e = cc (records-same node_in same c.nodes, records-append alternative_in t)

module _ {n n₁ a a₁ a₂ : Bytes} (c : Counts) (x : ℕ) (s : RowSet) where
  pub add-alternative-done : x < c.nodes → ((e : Bytes) → G.has_alternative x s (graph_of (work n e a) c) ≡ false)
      → AlternativeWritten a a₁ c.alternatives (alternative_of s x)
      → Appended alternative_places n n₁ a₁ a₂ c.alternatives x
      → c.alternatives < room_of alternative_size a → AddsAlternative n n₁ a a₂ c (Ok (more_alternatives c)) (λ k g. G.add_alternative k x s g)
  unfolding alternative_in
  add-alternative-done hx had W J l e h =
      let t = stored-then alternative_in W.stored J.area.long (alternative-beside (omega arith) J.area) in
      let N = within-beside J.nodes in
      record {
        meets = ap G.reached (graph-append-alternative n n₁ c x s (node-beside (omega arith) N) t e)
            ∙ sym (alternative-room (capacity_of (work n e a)) x s (graph_of (work n e a) c) (had e) (omega (arith, count-alternatives (work n e a) c)));
        held = (
          record {
            nodes = omega (arith, h.nodes, N.long);
            edges = h.edges;
            alternatives = omega (arith, t.size);
            chains = chained-alternative h.chains hx (omega arith) W.within (ap (λ (d : G.Alternative). d.owner) W.stored.here) J;
          },
          record { nodes = omega arith; edges = omega arith; alternatives = omega arith },
        );
        sized = record { nodes = N.long; edges = refl; alternatives = t.size };
      }

module _ {n a : Bytes} (c : Counts) (x : ℕ) (s : RowSet) where
  pub add-alternative-known : ((e : Bytes) → G.has_alternative x s (graph_of (work n e a) c) ≡ true)
      → AddsAlternative n n a a c (Ok c) (λ k g. G.add_alternative k x s g)
  add-alternative-known had e h =
      record {
        meets = sym (alternative-known (capacity_of (work n e a)) x s (graph_of (work n e a) c) (had e));
        held = (h, grown-refl);
        sized = sized-refl;
      }

  pub add-alternative-full : ((e : Bytes) → G.has_alternative x s (graph_of (work n e a) c) ≡ false) → room_of alternative_size a ≤ c.alternatives
      → AddsAlternative n n a a c (Err Alternatives) (λ k g. G.add_alternative k x s g)
  add-alternative-full had l e h = record {
    meets = (
      graph_of (work n e a) c,
      alternative-none (capacity_of (work n e a)) x s (graph_of (work n e a) c) (had e)
          (omega (arith, count-alternatives (work n e a) c)),
    );
    held = tt;
    sized = sized-refl;
  }
