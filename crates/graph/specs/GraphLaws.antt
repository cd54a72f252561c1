-- Laws of Graphs.
--
-- In order: counts and lengths (`CountsGrown`, `Sized`); areas that hold a graph; looking at the graph; storing a node.
-- Not here: a step that adds a record, which is in AddLaws; searches, and the records of a node, which are in SearchLaws.
use Rattle.std.specs.Prelude.{◌≡◌, refl, ℕ, ◌+◌, ◌*◌, ◌≤◌, ◌<◌, length}
use Rattle.std.proofs.Common.{sym, ◌∙◌, arith}
use Rattle.std.proofs.Math.Path.{ap}
use mathlib.Core.List.{List}
use Rattle.concepts.specs.Lists.{Bytes}
use Rattle.procedure.specs.Graph as G
use Rattle.words.specs.Sizes.{node_size, edge_size, alternative_size, set_size, most_records}
use Rattle.rowset.specs.SetOf.{set_of}
use Rattle.records.specs.Areas.{room_of, Fits, records_in, Stored, Beside}
use Rattle.records.specs.AreaLaws.{length-records, get_or-records, records-set, within-beside}
use Rattle.records.specs.Layout.{node_chains, edge_extent, edge_chains}
use Rattle.records.specs.Records.{node_in, NodeWritten, edge_in, alternative_in}
use Rattle.records.specs.RecordLaws.{node-rows}
use Rattle.graph.specs.Chains.{no_records}
use Rattle.graph.specs.ChainsLaws.{chained-none, chained-nodes, chained-edges}
use Rattle.graph.specs.Graphs.{Work, work, graph_of, capacity_of, Held, CountsGrown, Sized, ChangesNodes}
use Rattle.graph.specs.declared.Counts.{Counts}

-- ---- counts that grow, areas that keep their lengths

pub grown-refl : {c : Counts} → CountsGrown c c
grown-refl = record { nodes = omega arith; edges = omega arith; alternatives = omega arith }

pub grown-trans : {c d b : Counts} → CountsGrown c d → CountsGrown d b → CountsGrown c b
grown-trans p q = record {
  nodes = omega (arith, p.nodes, q.nodes);
  edges = omega (arith, p.edges, q.edges);
  alternatives = omega (arith, p.alternatives, q.alternatives);
}

pub sized-refl : {w : Work} → Sized w w
sized-refl = record { nodes = refl; edges = refl; alternatives = refl }

module _ {w w' : Work} (p : Sized w w') where
  pub sized-trans : {w'' : Work} → Sized w' w'' → Sized w w''
  sized-trans q = record { nodes = q.nodes ∙ p.nodes; edges = q.edges ∙ p.edges; alternatives = q.alternatives ∙ p.alternatives }

  -- the places are by the lengths alone
  pub sized-places : capacity_of w' ≡ capacity_of w
  sized-places = cc (p.nodes, p.edges, p.alternatives)

-- ---- areas that hold a graph

pub held_none : (w : Work) → Held w no_records
held_none w = record { nodes = omega arith; edges = omega arith; alternatives = omega arith; chains = chained-none _ _ _ }

module _ {w : Work} {c : Counts} (h : Held w c) where
  pub held-most : (c.nodes ≤ most_records) × (c.edges ≤ most_records) × (c.alternatives ≤ most_records)
  held-most = (omega (arith, h.nodes), omega (arith, h.edges), omega (arith, h.alternatives))

  pub held-room : (c.nodes ≤ room_of node_size w.nodes) × (c.edges ≤ room_of edge_size w.edges)
      × (c.alternatives ≤ room_of alternative_size w.alternatives)
  held-room = (h.nodes, h.edges, h.alternatives)

  -- what is written beside the chains keeps all: in nodes, and in edges
  pub held-nodes : {n' : Bytes} {lo hi : ℕ} → Beside node_size lo hi w.nodes n' → hi ≤ node_chains
      → Held (work n' w.edges w.alternatives) c
  held-nodes B s = record { nodes = omega (arith, h.nodes, B.long); edges = h.edges; alternatives = h.alternatives; chains = chained-nodes h.chains B s }

  pub held-edges : {e' : Bytes} {lo hi : ℕ} → Beside edge_size lo hi w.edges e' → edge_extent ≤ lo → hi ≤ edge_chains
      → Held (work w.nodes e' w.alternatives) c
  held-edges B s t = record {
    nodes = h.nodes;
    edges = omega (arith, h.edges, B.long);
    alternatives = h.alternatives;
    chains = chained-edges h.chains B s t;
  }

  pub held-node : {x : ℕ} → x < c.nodes → Fits node_size w.nodes x
  held-node l = (omega (arith, h.nodes), omega (arith, h.nodes))

  -- the set of a node, and of an alternative, is in its area
  pub held-set : {x : ℕ} → x < c.nodes → node_size * x + set_size ≤ length w.nodes
  held-set l = omega (arith, h.nodes)

  pub held-alternative : {i : ℕ} → i < c.alternatives → alternative_size * i + set_size ≤ length w.alternatives
  held-alternative l = omega (arith, h.alternatives)

-- ---- looking at the graph

module _ (w : Work) (c : Counts) where
  pub count-nodes : G.node_count (graph_of w c) ≡ c.nodes
  unfolding graph_of
  count-nodes = length-records node_in w.nodes c.nodes

  pub count-edges : length (graph_of w c).edges ≡ c.edges
  unfolding graph_of
  count-edges = length-records edge_in w.edges c.edges

  pub count-alternatives : length (graph_of w c).alternatives ≡ c.alternatives
  unfolding graph_of
  count-alternatives = length-records alternative_in w.alternatives c.alternatives

  pub graph-node : (x : ℕ) → x < c.nodes → G.node_at (graph_of w c) x ≡ node_in w.nodes x
  unfolding graph_of
  graph-node x h = get_or-records node_in w.nodes c.nodes x G.no_node h

  -- its set, where it stands
  pub graph-set : (x : ℕ) → x < c.nodes → (G.node_at (graph_of w c) x).rows ≡ set_of w.nodes (node_size * x)
  graph-set x h = ap (λ (v : G.Node). v.rows) (graph-node x h) ∙ node-rows w.nodes x

-- ---- storing a node

module _ {n n' : Bytes} {x : ℕ} where
  graph-store : {v : G.Node} → Stored node_in n n' x v → (e a : Bytes) (c : Counts) → x < c.nodes
      → graph_of (work n' e a) c ≡ G.replace_node x v (graph_of (work n e a) c)
  unfolding graph_of
  graph-store s e a c h =
      ap (λ (ns : List G.Node). record { nodes = ns; edges = records_in edge_in e c.edges; alternatives = records_in alternative_in a c.alternatives })
      (records-set node_in s c.nodes h)

  -- a node changed by what it was
  pub graph-change : (f : G.Node → G.Node) → NodeWritten n n' x (f (node_in n x)) → (c : Counts) → x < c.nodes
      → ChangesNodes n n' c (λ g. G.replace_node x (f (G.node_at g x)) g)
  graph-change f s c l e a h =
      record {
        meets = graph-store s.stored e a c l ∙ ap (λ (v : G.Node). G.replace_node x (f v) (graph_of (work n e a) c)) (sym (graph-node (work n e a) c x l));
        held = held-nodes h (within-beside s.within) (omega arith);
        sized = record { nodes = s.stored.size; edges = refl; alternatives = refl };
      }
