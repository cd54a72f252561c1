-- The cases of the search for a child and the way down, on plain values.
--
-- In order: the status of a node; the first child with a status (`Looking`); the child that the walk goes to; a node on the way down (`Going`).
use Rattle.std.specs.Prelude.{◌≡◌, refl, Bool, true, false, List, ◌∷◌, ◌≢◌, ℕ, ◌+◌, ◌-◌, ◌≤◌, ◌<◌, Option, None, Some, IsSome}
use Rattle.std.proofs.Common.{sym, ◌∙◌, arith}
use Rattle.std.proofs.Math.Path.{ap}
use Rattle.std.proofs.Math.ListN.{get_or-eq_default}
use Rattle.concepts.specs.Tests.{impossible}
use Rattle.concepts.specs.Lists.{Bytes, first}
use Rattle.procedure.specs.Status.{Status, unset, is_open, is_sat}
use Rattle.procedure.specs.Graph.{Link, to_state, Node, Graph, no_node, node_at}
use Rattle.procedure.specs.Example.{first_child, live_child}
use Rattle.procedure.proofs.Way.{Way, way-there, way-linked, way-child, way-descends, way-lands}
use Rattle.words.specs.Sizes.{node_size, edge_size, most_records}
use Rattle.records.specs.Areas.{room_of, Fits}
use Rattle.records.specs.Codes.{status_of, link_of}
use Rattle.records.specs.Records.{IsStatus, IsLink}
use Rattle.records.specs.declared.Status as DStatus
use Rattle.records.specs.declared.Link as DLink
use Rattle.records.specs.declared.Link.TheVariants as V
use Rattle.graph.specs.Graphs.{Work, graph_of, children_from, AmongChildren, Walks}
use Rattle.graph.specs.GraphLaws.{count-nodes, graph-node, held-node, held-most}
use Rattle.graph.specs.SearchLaws.{children-all}
use Rattle.graph.specs.declared.Counts.{Counts}
use Rattle.walk.specs.Clauses.{nodes_edges, StatusAt, asked, ChildAsks, DescendAsks, DescendGives}
use Rattle.walk.specs.KeptLaws.{Answer, NextChild, next-walks, next-at, next-end}

-- ---- the status of a node

module _ {n : Bytes} {c : Counts} {y : ℕ} where
  pub status-here : (v : DStatus.Status) → y < c.nodes → IsStatus n y v → StatusAt n c y (status_of v)
  status-here v h p = record { is = λ e. p ∙ ap (λ (m : Node). m.status) (sym (graph-node (nodes_edges n e) c y h)) }

  pub status-past : c.nodes ≤ y → StatusAt n c y unset
  status-past h = record {
    is = λ e.
        let g = graph_of (nodes_edges n e) c in
        ap (λ (m : Node). m.status) (sym (get_or-eq_default g.nodes no_node (omega (arith, count-nodes (nodes_edges n e) c))));
  }

-- ---- the first child with a status

module _ (f : Status → Bool) (g : Graph) where
  abbrev pub ask : ℕ → Option ℕ
  ask y = elim (f (node_at g y).status) as (λ _. Option ℕ) [ true ↦ Some y | false ↦ None ]

  first-here : (y : ℕ) (ys : List ℕ) → f (node_at g y).status ≡ true → first ask (y ∷ ys) ≡ Some y
  unfolding first
  first-here y ys t = rw (t, first)

  first-over : (y : ℕ) (ys : List ℕ) → f (node_at g y).status ≡ false → first ask (y ∷ ys) ≡ first ask ys
  unfolding first
  first-over y ys t = rw (t, first)

-- from edge i on, a place of the chain of children, the search finds what it finds from the start
pub record Looking (w : Work) (c : Counts) (x : ℕ) (wanted : Status) (i : ℕ) : Type 0 where
  pub asks : ChildAsks w c x
  pub place : i ≤ c.edges
  pub among : AmongChildren (graph_of w c) x i
  pub finds : first (ask (asked wanted) (graph_of w c)) (children_from (graph_of w c) x i) ≡ first_child (asked wanted) (graph_of w c) x

pub looking-start : {w : Work} {c : Counts} {x : ℕ} {wanted : Status} → ChildAsks w c x → Looking w c x wanted 0
unfolding first_child
looking-start {w} {c} {x} {wanted} A = record {
  asks = A;
  place = omega arith;
  among = tt;
  finds = ap (first (ask (asked wanted) (graph_of w c))) (children-all (graph_of w c) x);
}

module _ {w : Work} {c : Counts} {x : ℕ} {wanted : Status} {i : ℕ} (L : Looking w c x wanted i) where
  pub looking-walks : Walks edge_size w.nodes w.edges c.nodes c.edges x i
  looking-walks = next-walks w L.asks.holds x i L.asks.inside L.place

  pub looking-nodes : c.nodes ≤ room_of node_size w.nodes
  looking-nodes = L.asks.holds.held.nodes

  -- the next child
  pub record Follows (k y : ℕ) : Type 0 where
    pub next : NextChild w c x i k y

  pub looking-next : {k y : ℕ} → Answer w c x i (Some (k, y)) → Follows k y
  looking-next all = record { next = next-at w L.asks.holds x i L.among all }

  pub looking-end : Answer w c x i None → None ≡ first_child (asked wanted) (graph_of w c) x
  unfolding first
  looking-end all = ap (first (ask (asked wanted) (graph_of w c))) (sym (next-end w L.asks.holds x i L.among all)) ∙ L.finds

module _ {w : Work} {c : Counts} {x : ℕ} {wanted : Status} {i : ℕ} {L : Looking w c x wanted i} {k y : ℕ} (F : Follows L k y) where
  pub looking-index : k + 1 ≤ most_records
  looking-index = omega (arith, F.next.below, (held-most L.asks.holds.held).1)

  pub looking-less : c.edges - (k + 1) < c.edges - i
  looking-less = omega (arith, F.next.from, F.next.below)

-- the status v of that child is the one looked for, or not
module _ {n e : Bytes} {c : Counts} {x : ℕ} {wanted : Status} {i : ℕ} {L : Looking (nodes_edges n e) c x wanted i} {k y : ℕ} (F : Follows L k y) {v : Status}
    (S : StatusAt n c y v) {b : Bool} (p : b ≡ asked wanted v) where
  abbrev g : Graph
  g = graph_of (nodes_edges n e) c

  -- what is found from here on, by what is found at the child
  by-child : {o : Option ℕ} → first (ask (asked wanted) g) (y ∷ children_from g x (k + 1)) ≡ o → o ≡ first_child (asked wanted) g x
  by-child q = sym q ∙ ap (first (ask (asked wanted) g)) (sym F.next.more) ∙ L.finds

  status-asked : asked wanted (node_at g y).status ≡ b
  status-asked = ap (asked wanted) (sym (S.is e)) ∙ sym p

  pub looking-found : b ≡ true → Some y ≡ first_child (asked wanted) g x
  looking-found t = by-child (first-here (asked wanted) g y (children_from g x (k + 1)) (status-asked ∙ t))

  pub looking-over : b ≡ false → Looking (nodes_edges n e) c x wanted (k + 1)
  looking-over t = record {
    asks = L.asks;
    place = omega (arith, F.next.below);
    among = F.next.among;
    finds = by-child (first-over (asked wanted) g y (children_from g x (k + 1)) (status-asked ∙ t));
  }

-- ---- the child that the walk goes to

module _ (g : Graph) (x : ℕ) where
  else-open : (o : Option ℕ) → o ≡ first_child is_sat g x
      → elim o as (λ _. Option ℕ) [ Some z ↦ Some z | None ↦ first_child is_open g x ] ≡ live_child g x
  unfolding live_child
  else-open o e = ap (λ (u : Option ℕ). elim u as (λ _. Option ℕ) [ Some z ↦ Some z | None ↦ first_child is_open g x ]) e

  -- of what is found as the first that is yes, or else as the first that is open
  pub live-found : (o r : Option ℕ) → o ≡ first_child is_sat g x → ((y : ℕ) → o ≡ Some y → r ≡ Some y)
      → (o ≡ None → r ≡ first_child is_open g x)
      → r ≡ live_child g x
  live-found (Some y) r e some none = some y refl ∙ else-open (Some y) e
  live-found None r e some none = none refl ∙ else-open None e

-- ---- a node on the way down

-- a link that names no state
link-none : (v : DLink.Link) → ((y : ℕ) → v ≢ V.State y) → (k : Link) → link_of v ≡ k → (z : ℕ) → k ≢ to_state z
link-none V.None n k e z p = impossible cc
link-none (V.State y) n k e z p = n y refl
link-none V.Lapsed n k e z p = impossible cc

-- the way down from `start` goes through node x
pub record Going (w : Work) (c : Counts) (start x : ℕ) : Type 0 where
  pub asks : DescendAsks w c start
  pub way : Way (graph_of w c) x asks.end

pub going_start : {w : Work} {c : Counts} {x : ℕ} → DescendAsks w c x → Going w c x x
going_start A = record { asks = A; way = A.way }

module _ {w : Work} {c : Counts} {start x : ℕ} (G : Going w c start x) where
  there : x < c.nodes
  there = omega (arith, way-there (graph_of w c) G.way, count-nodes w c)

  pub going-fits : Fits node_size w.nodes x
  going-fits = held-node G.asks.holds.held there

  pub going-asks : ChildAsks w c x
  going-asks = record { holds = G.asks.holds; inside = there }

  abbrev h : Graph
  h = graph_of w c

  link-is : (v : DLink.Link) → IsLink w.nodes x v → link_of v ≡ (node_at h x).link
  link-is v p = p ∙ ap (λ (m : Node). m.link) (sym (graph-node w c x there))

  -- its link names a state: it is the one
  pub going-lands : {y : ℕ} → IsLink w.nodes x (V.State y) → DescendGives w c start y
  going-lands {y} p =
      let end : G.asks.end ≡ y = way-linked h G.way y (sym (link-is (V.State y) p)) in
      record {
        finds = way-descends h G.asks.way ∙ ap Some end;
        inside = omega (arith, way-lands h G.asks.way, count-nodes w c);
      }

  -- it names none: the way goes on
  module _ {v : DLink.Link} (p : IsLink w.nodes x v) (none : (y : ℕ) → v ≢ V.State y) where
    goes_on : (b : ℕ) × (live_child h x ≡ Some b) × (x < b) × Way h b G.asks.end
    goes_on = way-child h G.way (link-none v none (node_at h x).link (link-is v p))

    pub going-some : {r : Option ℕ} → r ≡ live_child h x → IsSome r
    going-some {r} l = let (b, found, up, on) = goes_on in rw (l, found) refl

    module _ {b : ℕ} (l : Some b ≡ live_child h x) where
      pub going_on : Going w c start b
      going_on =
          let (d, found, up, on) = goes_on in
          let same : d ≡ b = cc in
          record { asks = G.asks; way = rw same at on }

      pub going_less : c.nodes - b < c.nodes - x
      going_less =
          let (d, found, up, on) = goes_on in
          let same : d ≡ b = cc in
          omega (arith, there)
