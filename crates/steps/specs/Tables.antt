-- Judging a node by a table of statuses, on the graph in three areas. Laws are in TableLaws.
use mathlib.Core.List.{List, [], map, Memᴰ}
use Rattle.std.specs.Prelude.{ℕ, ◌<◌}
use Rattle.concepts.specs.Lists.{Bytes}
use Rattle.procedure.specs.Status.{Status, StatusTable}
use Rattle.procedure.specs.Graph as G
use Rattle.records.specs.Records.{node_in}
use Rattle.graph.specs.Graphs.{work, graph_of, Held, Changes, children_from}
use Rattle.graph.specs.declared.Counts.{Counts}
use Rattle.records.specs.Codes as Codes
use Rattle.records.specs.declared.Status as Coded

-- the table that rows of the code's statuses mean
abbrev pub table_of : List (List Coded.Status) → StatusTable
table_of rows = map (map Codes.status_of) rows

-- node x and its children are nodes of a graph with these nodes and edges, and some alternatives
pub record Judges (n e : Bytes) (c : Counts) (x : ℕ) : Type 0 where
  pub alternatives : Bytes
  pub held : Held (work n e alternatives) c
  pub node : x < c.nodes
  pub inside : (y : ℕ) → Memᴰ y (G.children (graph_of (work n e alternatives) c) x) → y < c.nodes

-- nodes n became n', as f does with the graph, whatever the alternatives
abbrev pub JudgesAs : Bytes → Bytes → Bytes → Counts → (G.Graph → G.Graph) → Type 0
JudgesAs n n' e c f = (a : Bytes) → Held (work n e a) c → Changes (work n e a) c (work n' e a) f

-- the ends of the edges from x, from edge i on
unfoldable pub ends_from : Bytes → Counts → ℕ → ℕ → List ℕ
ends_from e c x i = children_from (graph_of (work [] e []) c) x i

-- their statuses
unfoldable pub statuses_from : Bytes → Bytes → Counts → ℕ → ℕ → List Status
statuses_from n e c x i = map (λ y. (node_in n y).status) (ends_from e c x i)
