-- What the walk of the example relies on, and what it gives.
--
-- In order: the areas that it looks at; the way down; the marks; meeting a state; the rows of an element; the walk.
use Rattle.std.specs.Prelude.{◌≡◌, Bool, true, false, ◌≢◌, ℕ, suc, ◌≤◌, ◌<◌, length, Some}
use mathlib.Core.List.{List, [], ◌∷◌, Memᴰ}
use Rattle.concepts.specs.Lists.{Bytes}
use Rattle.procedure.specs.Status.{Status, unset, «open», sat, unsat, toosmall, is_unset, is_open, is_sat}
use Rattle.procedure.specs.Graph.{node_at}
use Rattle.procedure.specs.Example.{Walk, descend, meet, walk_rows, rows_of, example}
use Rattle.procedure.proofs.Finished.{Finished}
use Rattle.procedure.proofs.Way.{Way}
use Rattle.words.specs.Sizes.{node_size}
use Rattle.problem.specs.Decoded.{table_of, problem_of, Decoded}
use Rattle.records.specs.Areas.{room_of, records_in}
use Rattle.graph.specs.Graphs.{Work, work, graph_of, EdgesHeld}
use Rattle.graph.specs.declared.Counts.{Counts}
use Rattle.marks.specs.Marks.{NodesMarked, EdgesMarked, number_in, state_in, role_link_in, example_held}
use Rattle.marks.specs.declared.Sizes.{Sizes}

-- ---- the areas that the walk looks at

-- nodes and edges alone: a walk does not look at alternatives
abbrev pub nodes_edges : Bytes → Bytes → Work
nodes_edges n e = work n e []

-- the same nodes and edges, with these alternatives
abbrev pub beside : Work → Bytes → Work
beside w a = work w.nodes w.edges a

-- nothing but marks has changed
pub record Kept (w w' : Work) : Type 0 where
  pub nodes : NodesMarked w.nodes w'.nodes
  pub edges : EdgesMarked w.edges w'.edges
  pub alternatives : w'.alternatives ≡ w.alternatives

-- ---- the way down

-- node y of nodes n has the status v, whatever the edges
pub record StatusAt (n : Bytes) (c : Counts) (y : ℕ) (v : Status) : Type 0 where
  pub is : (e : Bytes) → v ≡ (node_at (graph_of (nodes_edges n e) c) y).status

-- a status is the one looked for: the walk goes to a child that is yes, or else to one that is open
abbrev pub asked : Status → Status → Bool
asked unset v = is_unset v
asked «open» v = is_open v
asked sat v = is_sat v
asked unsat unset = false
asked unsat «open» = false
asked unsat sat = false
asked unsat unsat = true
asked unsat toosmall = false
asked toosmall unset = false
asked toosmall «open» = false
asked toosmall sat = false
asked toosmall unsat = false
asked toosmall toosmall = true

-- a search among the children of x, which is a node
pub record ChildAsks (w : Work) (c : Counts) (x : ℕ) : Type 0 where
  pub holds : EdgesHeld w.nodes w.edges c
  pub inside : x < c.nodes

pub record DescendAsks (w : Work) (c : Counts) (x : ℕ) : Type 0 where
  pub holds : EdgesHeld w.nodes w.edges c
  pub end : ℕ
  pub way : Way (graph_of w c) x end

pub record DescendGives (w : Work) (c : Counts) (x y : ℕ) : Type 0 where
  pub finds : descend (graph_of w c) x ≡ Some y
  pub inside : y < c.nodes

-- ---- the marks

-- the walk that the marks hold, of so many elements and links
abbrev pub walk_in : Work → Sizes → Walk
walk_in w s = record { states = records_in state_in w.nodes s.elements; links = records_in role_link_in w.edges s.links }

-- every state of an element has the element's number, and no other node has a number
pub record Numbered (n : Bytes) (c : Counts) (count : ℕ) : Type 0 where
  pub inside : (d : ℕ) → d < count → state_in n d < c.nodes
  pub number : (d : ℕ) → d < count → number_in n (state_in n d) ≡ suc d
  pub element : (y : ℕ) → y < c.nodes → number_in n y ≢ 0 → (d : ℕ) × (d < count) × (state_in n d ≡ y)

-- ---- meeting a state

pub record MeetAsks (w : Work) (c : Counts) (s : Sizes) (d role y : ℕ) : Type 0 where
  pub holds : EdgesHeld w.nodes w.edges c
  pub numbered : Numbered w.nodes c s.elements
  pub inside : y < c.nodes
  pub few_states : length (meet d role y (walk_in w s)).states ≤ c.nodes
  pub few_links : s.links < c.edges

pub record MeetGives (w : Work) (c : Counts) (s : Sizes) (d role y : ℕ) (r : Sizes) (w' : Work) : Type 0 where
  pub kept : Kept w w'
  pub numbered : Numbered w'.nodes c r.elements
  pub meets : walk_in w' r ≡ meet d role y (walk_in w s)

-- ---- the rows of an element

-- the rows of element d with the children put for them
abbrev pub element_rows : List ℕ → Work → Counts → ℕ → List (ℕ × ℕ)
element_rows ws w c d = rows_of (table_of ws) (graph_of w c) (state_in w.nodes d)

-- element d walked, the walk is `end`, and that finds place; there is a way down from each child
pub record RowsAsks (ws : List ℕ) (w : Work) (c : Counts) (s : Sizes) (d : ℕ) : Type 0 where
  pub decoded : Decoded ws
  pub holds : EdgesHeld w.nodes w.edges c
  pub numbered : Numbered w.nodes c s.elements
  pub element : d < s.elements
  pub ways : (r : ℕ × ℕ) → Memᴰ r (element_rows ws w c d) → (y : ℕ) × Way (graph_of w c) r.1 y
  pub end : Walk
  pub walks : walk_rows (graph_of w c) d (element_rows ws w c d) (walk_in w s) ≡ Some end
  pub few_states : length end.states ≤ c.nodes
  pub few_links : length end.links ≤ c.edges

pub record RowsGives (ws : List ℕ) (w : Work) (c : Counts) (s : Sizes) (d : ℕ) (r : Sizes) (w' : Work) : Type 0 where
  pub kept : Kept w w'
  pub numbered : Numbered w'.nodes c r.elements
  pub walked : walk_rows (graph_of w c) d (element_rows ws w c d) (walk_in w s) ≡ Some (walk_in w' r)

-- ---- the walk

pub record StartAsks (n : Bytes) (c : Counts) (y : ℕ) : Type 0 where
  pub room : c.nodes ≤ room_of node_size n
  pub inside : y < c.nodes

-- whatever the edges
pub record StartGives (n : Bytes) (c : Counts) (y : ℕ) (r : Sizes) (n' : Bytes) : Type 0 where
  pub kept : (e : Bytes) → Kept (nodes_edges n e) (nodes_edges n' e)
  pub numbered : Numbered n' c r.elements
  pub starts : (e : Bytes) → walk_in (nodes_edges n' e) r ≡ record { states = y ∷ []; links = [] }

-- the graph is that of a finished run that says "can"
pub record WalkAsks (ws : List ℕ) (w : Work) (c : Counts) : Type 0 where
  pub decoded : Decoded ws
  pub holds : EdgesHeld w.nodes w.edges c
  pub good : Status → Bool
  pub finished : Finished (problem_of ws) (graph_of (beside w holds.alternatives) c) good

-- the graph is the same, whatever the alternatives, and the marks hold its example
pub record WalkGives (ws : List ℕ) (w : Work) (c : Counts) (r : Sizes) (w' : Work) : Type 0 where
  pub same : (a : Bytes) → graph_of (beside w' a) c ≡ graph_of (beside w a) c
  pub walked : (a : Bytes) → example (table_of ws) (graph_of (beside w a) c) ≡ Some (example_held w'.nodes w'.edges r.elements r.links)
  pub few_elements : r.elements ≤ c.nodes
  pub few_links : r.links ≤ c.edges
  pub inside : (d : ℕ) → d < r.elements → state_in w'.nodes d < c.nodes
