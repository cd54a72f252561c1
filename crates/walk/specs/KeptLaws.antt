-- Areas that differ by marks alone hold the same graph; what is known of the graph without its alternatives.
--
-- In order: `Kept`; the graph, and the set of a node where it stands; a step along the children of a node (`NextChild`); a finished graph, and the example,
-- without alternatives.
use Rattle.std.specs.Prelude.{◌≡◌, refl, Bool, [], ◌∷◌, ℕ, ◌+◌, ◌*◌, ◌≤◌, ◌<◌, Option, None, Some}
use Rattle.std.proofs.Common.{sym, ap, ◌∙◌, arith}
use Rattle.concepts.specs.Lists.{Bytes}
use Rattle.concepts.specs.Concept.{Table}
use Rattle.procedure.specs.Problem.{Problem}
use Rattle.procedure.specs.Status.{Status}
use Rattle.procedure.specs.Graph as G
use Rattle.procedure.specs.Example.{example}
use Rattle.procedure.specs.WalkLaws.{example-same}
use Rattle.procedure.proofs.Finished.{Under, Finished}
use Rattle.words.specs.Sizes.{node_size, edge_size}
use Rattle.rowset.specs.SetOf.{set_of}
use Rattle.records.specs.Areas.{records_in}
use Rattle.records.specs.AreaLaws.{records-same, beside-refl, beside-then}
use Rattle.records.specs.Records.{node_in, edge_in, alternative_in}
use Rattle.records.specs.RecordLaws.{node-beside, edge_beside}
use Rattle.graph.specs.Graphs.{Work, graph_of, Held, EdgesHeld, WithEdges, children_from, AmongChildren, Walks, IsNext}
use Rattle.graph.specs.GraphLaws.{grown-refl, held-nodes, held-edges, graph-set}
use Rattle.graph.specs.declared.Counts.{Counts}
use Rattle.walk.specs.Clauses.{beside, Kept}

-- ---- areas that differ by marks alone

pub kept_refl : {w : Work} → Kept w w
kept_refl = record { nodes = beside-refl; edges = beside-refl; alternatives = refl }

pub kept_trans : {w w' w'' : Work} → Kept w w' → Kept w' w'' → Kept w w''
kept_trans K L = record {
  nodes = beside-then K.nodes L.nodes;
  edges = beside-then K.edges L.edges;
  alternatives = L.alternatives ∙ K.alternatives;
}

-- and so with other alternatives
pub kept-beside : {w w' : Work} → Kept w w' → (a : Bytes) → Kept (beside w a) (beside w' a)
kept-beside K a = record { nodes = K.nodes; edges = K.edges; alternatives = refl }

-- ---- the graph

pub kept-node : {w w' : Work} → Kept w w' → (x : ℕ) → node_in w'.nodes x ≡ node_in w.nodes x
kept-node K x = node-beside (omega arith) K.nodes x

module _ {w w' : Work} (K : Kept w w') (c : Counts) where
  pub kept-graph : graph_of w' c ≡ graph_of w c
  unfolding graph_of
  kept-graph =
      let nodes = records-same node_in (kept-node K) c.nodes in
      let edges = records-same edge_in (edge_beside (omega arith) K.edges) c.edges in
      cc (nodes, edges, K.alternatives)

  pub kept_set : (x : ℕ) → x < c.nodes → set_of w'.nodes (node_size * x) ≡ (G.node_at (graph_of w c) x).rows
  kept_set x h = sym (graph-set w' c x h) ∙ ap (λ (g : G.Graph). (G.node_at g x).rows) kept-graph

  pub kept-held : {a : Bytes} → Held (beside w a) c → Held (beside w' a) c
  kept-held h = held-edges (held-nodes h K.nodes (omega arith)) K.edges (omega arith) (omega arith)

  pub kept-holds : EdgesHeld w.nodes w.edges c → EdgesHeld w'.nodes w'.edges c
  kept-holds H = record { alternatives = H.alternatives; held = kept-held H.held }

-- ---- a step along the children of a node

-- what `next_child` answers, from edge i on
abbrev pub Answer : Work → Counts → ℕ → ℕ → Option (ℕ × ℕ) → Type 0
Answer w c x i r = WithEdges w.nodes w.edges c (λ g. AmongChildren g x i → IsNext r i c.edges (children_from g x) (AmongChildren g x))

-- y is the next child of x from edge i on, by edge k; behind that edge the chain goes on
pub record NextChild (w : Work) (c : Counts) (x i k y : ℕ) : Type 0 where
  pub from : i ≤ k
  pub below : k < c.edges
  pub more : children_from (graph_of w c) x i ≡ y ∷ children_from (graph_of w c) x (k + 1)
  pub among : AmongChildren (graph_of w c) x (k + 1)

module _ (w : Work) {c : Counts} (H : EdgesHeld w.nodes w.edges c) (x i : ℕ) where
  pub next-walks : x < c.nodes → i ≤ c.edges → Walks edge_size w.nodes w.edges c.nodes c.edges x i
  next-walks h l = record { node = h; nodes = H.held.nodes; place = l; records = H.held.edges }

  module _ (o : AmongChildren (graph_of w c) x i) where
    as-next : (r : Option (ℕ × ℕ)) → Answer w c x i r → IsNext r i c.edges (children_from (graph_of w c) x) (AmongChildren (graph_of w c) x)
    unfolding graph_of children_from
    as-next r all = all H.alternatives c H.held grown-refl o

    pub next-at : {k y : ℕ} → Answer w c x i (Some (k, y)) → NextChild w c x i k y
    next-at {k} {y} all =
        let (from, below, more, among) = as-next (Some (k, y)) all in
        record { from = from; below = below; more = more; among = among }

    pub next-end : Answer w c x i None → children_from (graph_of w c) x i ≡ []
    next-end all = as-next None all

-- ---- without alternatives

module _ (w : Work) (a : Bytes) (c : Counts) where
  under-bare : {x ρ y : ℕ} → Under (graph_of (beside w a) c) x ρ y → Under (graph_of w c) x ρ y
  unfolding graph_of
  under-bare U = record { there = U.there; no_state = U.no_state; pst = U.pst; prl = U.prl }

  pub finished-bare : {P : Problem} {good : Status → Bool} → Finished P (graph_of (beside w a) c) good → Finished P (graph_of w c) good
  unfolding graph_of G.children
  finished-bare F = record {
    sat-good = F.sat-good;
    good-live = F.good-live;
    next = F.next;
    down = λ x y h s k m l. let (up, U, more) = F.down x y h s k m l in (up, under-bare U, more);
    linked = F.linked;
    linked-good = F.linked-good;
    linked-back = F.linked-back;
    saturated = F.saturated;
    good-children = F.good-children;
    answers-length = F.answers-length;
    answers = λ x i h s z q l. let A = F.answers x i h s z q l in record { under = under-bare A.under; argument = A.argument; along = A.along };
    root = F.root;
    root-child = F.root-child;
  }

  pub example-bare : (t : Table) → example t (graph_of (beside w a) c) ≡ example t (graph_of w c)
  unfolding graph_of
  example-bare t =
      example-same t (records_in node_in w.nodes c.nodes) (records_in edge_in w.edges c.edges) (records_in alternative_in a c.alternatives)
      (records_in alternative_in w.alternatives c.alternatives)
