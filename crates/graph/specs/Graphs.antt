-- The graph that the work areas hold, and how code on the areas refines a definition on the graph. Laws are in GraphLaws, AddLaws, SearchLaws and RefineLaws.
--
-- In order: the work areas; refinement (`Refines`, `Changes`); some areas, whatever the others hold; searches; the records of a node, from a place on.
use Rattle.std.specs.Prelude.{◌≡◌, Bool, ◌&&◌, List, [], ◌∷◌, ℕ, ◌+◌, ◌*◌, ◌≤◌, ◌<◌, eqb, ltb, length, get_or, Option, None, Some, Result, Ok, Err}
use Rattle.concepts.specs.Lists.{Bytes, NoneBelow}
use Rattle.concepts.specs.RowSet.{RowSet, empty}
use Rattle.procedure.specs.Graph as G
use Rattle.words.specs.Sizes.{node_size, edge_size, alternative_size}
use Rattle.rowset.specs.SetOf.{set_of}
use Rattle.records.specs.Areas.{room_of, records_in, chosen_from}
use Rattle.records.specs.Records.{node_in, edge_in, alternative_in}
use Rattle.chains.specs.Chain.{Behind}
use Rattle.graph.specs.Chains.{Chained}
use Rattle.graph.specs.declared.Counts.{Counts}
use Rattle.graph.specs.declared.Area.{Area}
use Rattle.graph.specs.declared.Area.TheVariants.{Nodes, Edges, Alternatives}

-- ---- the work areas, and the graph that they hold

-- "Three work areas hold nodes .., graph edges .. and alternatives" (01, Areas)
pub record Work : Type 0 where
  pub nodes : Bytes
  pub edges : Bytes
  pub alternatives : Bytes

abbrev pub work : Bytes → Bytes → Bytes → Work
work n e a = record { nodes = n; edges = e; alternatives = a }

unfoldable pub graph_of : Work → Counts → G.Graph
graph_of w c =
    record {
      nodes = records_in node_in w.nodes c.nodes;
      edges = records_in edge_in w.edges c.edges;
      alternatives = records_in alternative_in w.alternatives c.alternatives;
    }

abbrev pub capacity_of : Work → G.Capacity
capacity_of w = record {
  node_room = room_of node_size w.nodes;
  edge_room = room_of edge_size w.edges;
  alternative_room = room_of alternative_size w.alternatives;
}

-- the areas have the records that the counts count, and their chains
pub record Held (w : Work) (c : Counts) : Type 0 where
  pub nodes : c.nodes ≤ room_of node_size w.nodes
  pub edges : c.edges ≤ room_of edge_size w.edges
  pub alternatives : c.alternatives ≤ room_of alternative_size w.alternatives
  pub chains : Chained w.nodes w.edges w.alternatives c

-- no count is less than before
pub record CountsGrown (c d : Counts) : Type 0 where
  pub nodes : c.nodes ≤ d.nodes
  pub edges : c.edges ≤ d.edges
  pub alternatives : c.alternatives ≤ d.alternatives

-- the areas are as long as before
pub record Sized (w w' : Work) : Type 0 where
  pub nodes : length w'.nodes ≡ length w.nodes
  pub edges : length w'.edges ≡ length w.edges
  pub alternatives : length w'.alternatives ≡ length w.alternatives

-- ---- refinement: code on areas does as a definition does with the graph

abbrev pub area_of : Area → G.Area
area_of Nodes = G.node_area
area_of Edges = G.edge_area
area_of Alternatives = G.alternative_area

-- the answer is the place behind `count` records in an area with room for so many, or the area, which has none
abbrev pub IsPlace : Result ℕ Area → ℕ → ℕ → Area → Type 0
IsPlace (Ok x) room count p = (x ≡ count) × (count < room)
IsPlace (Err q) room count p = (q ≡ p) × (room ≤ count)

-- what a step answers: the new counts, or the area that had no place
abbrev pub Step : Type 0
Step = Result Counts Area

-- an answer, with the areas that it leaves, says a result; where a record found no place the areas may hold anything
abbrev pub Meets : Step → Work → G.Result → Type 0
Meets (Ok c) w r = G.reached (graph_of w c) ≡ r
Meets (Err p) w r = G.FindsNoPlace (area_of p) r

abbrev pub HeldAfter : Step → Counts → Work → Type 0
HeldAfter (Ok d) c w = Held w d × CountsGrown c d
HeldAfter (Err p) c w = Unit {0}

-- a step of the definitions, in areas that hold so many records
abbrev pub Operation : Type 0
Operation = G.Capacity → G.Graph → G.Result

-- from the areas w with counts c, the answer r and the areas w' are those of f
pub record Refines (w : Work) (c : Counts) (r : Step) (w' : Work) (f : Operation) : Type 0 where
  pub meets : Meets r w' (f (capacity_of w) (graph_of w c))
  pub held : HeldAfter r c w'
  pub sized : Sized w w'

-- the same of a change that makes no record: the counts stay, and there is no answer
pub record Changes (w : Work) (c : Counts) (w' : Work) (f : G.Graph → G.Graph) : Type 0 where
  pub meets : graph_of w' c ≡ f (graph_of w c)
  pub held : Held w' c
  pub sized : Sized w w'

-- ---- some areas, whatever the others hold

-- of the graph with these nodes, P holds
abbrev pub WithNodes : Bytes → Counts → (G.Graph → Type 0) → Type 0
WithNodes n c P = (e a : Bytes) → Held (work n e a) c → P (graph_of (work n e a) c)

-- of the graph that these nodes and edges have with counts c, P holds; and so with these alternatives. By now the areas may hold more
abbrev pub WithEdges : Bytes → Bytes → Counts → (G.Graph → Type 0) → Type 0
WithEdges n e c P = (a : Bytes) (d : Counts) → Held (work n e a) d → CountsGrown c d → P (graph_of (work n e a) c)

abbrev pub WithAlternatives : Bytes → Bytes → Counts → (G.Graph → Type 0) → Type 0
WithAlternatives n a c P = (e : Bytes) (d : Counts) → Held (work n e a) d → CountsGrown c d → P (graph_of (work n e a) c)

-- a step from counts c made the nodes n' of n, and answered r, as f does with the graph
abbrev pub AddsNode : Bytes → Bytes → Counts → Step → Operation → Type 0
AddsNode n n' c r f = (e a : Bytes) → Held (work n e a) c → Refines (work n e a) c r (work n' e a) f

-- .. and the edges e' of e; .. and the alternatives a' of a
abbrev pub AddsEdge : Bytes → Bytes → Bytes → Bytes → Counts → Step → Operation → Type 0
AddsEdge n n' e e' c r f = (a : Bytes) → Held (work n e a) c → Refines (work n e a) c r (work n' e' a) f

abbrev pub AddsAlternative : Bytes → Bytes → Bytes → Bytes → Counts → Step → Operation → Type 0
AddsAlternative n n' a a' c r f = (e : Bytes) → Held (work n e a) c → Refines (work n e a) c r (work n' e a') f

-- nodes n became n', as f does with the graph
abbrev pub ChangesNodes : Bytes → Bytes → Counts → (G.Graph → G.Graph) → Type 0
ChangesNodes n n' c f = (e a : Bytes) → Held (work n e a) c → Changes (work n e a) c (work n' e a) f

-- these nodes and edges hold a graph, with some alternatives
pub record EdgesHeld (n e : Bytes) (c : Counts) : Type 0 where
  pub alternatives : Bytes
  pub held : Held (work n e alternatives) c

-- these nodes and alternatives, with some edges, hold a graph that has the node x
pub record Owns (n a : Bytes) (c : Counts) (x : ℕ) : Type 0 where
  pub edges : Bytes
  pub held : Held (work n edges a) c
  pub node : x < c.nodes

-- r says whether state x of these nodes and alternatives has the set s among them, whatever the edges
abbrev pub TellsAlternative : Bytes → Bytes → Counts → ℕ → RowSet → Bool → Type 0
TellsAlternative n a c x s r = (e : Bytes) → r ≡ G.has_alternative x s (graph_of (work n e a) c)

-- ---- searches

-- node x of an area is a state with the set s, and not the root
unfoldable pub is_state_with : Bytes → RowSet → ℕ → Bool
is_state_with n s x = ltb 0 x && ((node_in n x).is_state && eqb (node_in n x).rows s)

-- no node below the one that was found passes
abbrev pub PassedOver : Option ℕ → (ℕ → Bool) → Type 0
PassedOver (Some x) f = NoneBelow f x
PassedOver None f = Unit {0}

-- ---- the records of a node, from a place on

unfoldable pub children_from : G.Graph → ℕ → ℕ → List ℕ
children_from g x i = chosen_from (λ (d : G.Edge). eqb d.from x) (λ (d : G.Edge). d.to) g.edges i

unfoldable pub parents_from : G.Graph → ℕ → ℕ → List ℕ
parents_from g x i = chosen_from (λ (d : G.Edge). eqb d.to x) (λ (d : G.Edge). d.from) g.edges i

unfoldable pub alternatives_from : G.Graph → ℕ → ℕ → List RowSet
alternatives_from g x i = chosen_from (λ (d : G.Alternative). eqb d.owner x) (λ (d : G.Alternative). d.rows) g.alternatives i

-- what stands for a record that is not there
abbrev pub no_edge : G.Edge
no_edge = record { from = 0; to = 0 }

abbrev pub no_alternative : G.Alternative
no_alternative = record { owner = 0; rows = empty }

-- where edge i starts, and where it ends; whose alternative i is
abbrev pub start_of : G.Graph → ℕ → ℕ
start_of g i = (get_or g.edges i no_edge).from

abbrev pub end_of : G.Graph → ℕ → ℕ
end_of g i = (get_or g.edges i no_edge).to

abbrev pub owner_of : G.Graph → ℕ → ℕ
owner_of g i = (get_or g.alternatives i no_alternative).owner

-- place i is one of the chain of x's children: its start, or behind one of their edges; likewise of its parents, and of its alternatives
abbrev pub AmongChildren : G.Graph → ℕ → ℕ → Type 0
AmongChildren g x i = Behind (start_of g) x i

abbrev pub AmongParents : G.Graph → ℕ → ℕ → Type 0
AmongParents g x i = Behind (end_of g) x i

abbrev pub AmongAlternatives : G.Graph → ℕ → ℕ → Type 0
AmongAlternatives g x i = Behind (owner_of g) x i

-- what a step along a chain relies on: node x of m, and place `from` among `count` records of a size
pub record Walks (size : ℕ) (n b : Bytes) (m count x from : ℕ) : Type 0 where
  pub node : x < m
  pub nodes : m ≤ room_of node_size n
  pub place : from ≤ count
  pub records : count ≤ room_of size b

-- the answer is record i, if there are so many
abbrev pub IsRecord : Option ℕ → ℕ → ℕ → Type 0
IsRecord (Some j) count i = (j ≡ i) × (j < count)
IsRecord None count i = count ≤ i

-- the answer is the first of `rest from`, from a record below n, and the place behind it is among those of the chain; or there is none
abbrev pub IsNext : Option (ℕ × ℕ) → ℕ → ℕ → (ℕ → List ℕ) → (ℕ → Type 0) → Type 0
IsNext (Some (i, y)) from n rest among = (from ≤ i) × (i < n) × (rest from ≡ y ∷ rest (i + 1)) × among (i + 1)
IsNext None from n rest among = rest from ≡ []

-- the same of a set, which is that of a record of a
abbrev pub IsNextAlternative : Bytes → Option ℕ → ℕ → ℕ → (ℕ → List RowSet) → (ℕ → Type 0) → Type 0
IsNextAlternative a (Some i) from n rest among = (from ≤ i) × (i < n) × (rest from ≡ set_of a (alternative_size * i) ∷ rest (i + 1)) × among (i + 1)
IsNextAlternative a None from n rest among = rest from ≡ []
