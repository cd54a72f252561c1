-- The three chains of the work areas: the edges from a node (its children), the edges to it (its parents), the alternatives of a state. Laws are in ChainsLaws.
use Rattle.std.specs.Prelude.{◌+◌}
use Rattle.concepts.specs.Lists.{Bytes}
use Rattle.words.specs.Sizes.{edge_size, alternative_size}
use Rattle.records.specs.Layout.{children_at, parents_at, alternatives_at, from_at, to_at, next_child_at, next_parent_at, owner_at, next_alternative_at}
use Rattle.chains.specs.Places.{ChainIn}
use Rattle.chains.specs.declared.Places.{Places}
use Rattle.graph.specs.declared.Counts.{Counts}

abbrev pub child_places : Places
child_places = record { size = edge_size; key = from_at; next = next_child_at; first = children_at }

abbrev pub parent_places : Places
parent_places = record { size = edge_size; key = to_at; next = next_parent_at; first = parents_at }

abbrev pub alternative_places : Places
alternative_places = record { size = alternative_size; key = owner_at; next = next_alternative_at; first = alternatives_at }

-- the areas n, e and a have the chains of their records
pub record Chained (n e a : Bytes) (c : Counts) : Type 0 where
  pub children : ChainIn child_places n e c.nodes c.edges
  pub parents : ChainIn parent_places n e c.nodes c.edges
  pub alternatives : ChainIn alternative_places n a c.nodes c.alternatives

-- one more record of a kind
abbrev pub more_nodes : Counts → Counts
more_nodes c = record { nodes = c.nodes + 1; edges = c.edges; alternatives = c.alternatives }

abbrev pub more_edges : Counts → Counts
more_edges c = record { nodes = c.nodes; edges = c.edges + 1; alternatives = c.alternatives }

abbrev pub more_alternatives : Counts → Counts
more_alternatives c = record { nodes = c.nodes; edges = c.edges; alternatives = c.alternatives + 1 }

abbrev pub no_records : Counts
no_records = record { nodes = 0; edges = 0; alternatives = 0 }
