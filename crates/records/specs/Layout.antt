-- Where each number stands in its record, in bytes from the record's start (01, Areas). Nothing else says so, but the constants of the code (layout.rt).
--
-- In order, as in a record: what is the graph's own, as far as the record's extent, the set of rows before all; then the marks of the walk (crate marks);
-- then the chains (crate chains), each with the first of a node's records and, 2 bytes behind, the last; the rest is free. The records' sizes are in words.
use Rattle.std.specs.Prelude.{ℕ, ◌+◌}
use Rattle.words.specs.Sizes.{set_size}

-- ---- a node: behind its set

abbrev pub status_at : ℕ
status_at = set_size

abbrev pub is_state_at : ℕ
is_state_at = set_size + 1

abbrev pub pst_at : ℕ
pst_at = set_size + 2

abbrev pub prl_at : ℕ
prl_at = set_size + 4

abbrev pub link_kind_at : ℕ
link_kind_at = set_size + 5

abbrev pub link_number_at : ℕ
link_number_at = set_size + 6

abbrev pub node_extent : ℕ
node_extent = set_size + 8

-- its marks: in record y the number of the element that stands for state y, and in record d the state for which element d stands
abbrev pub number_at : ℕ
number_at = set_size + 8

abbrev pub placed_at : ℕ
placed_at = set_size + 10

-- its chains: of the edges from it, of the edges to it, of its alternatives
abbrev pub node_chains : ℕ
node_chains = set_size + 12

abbrev pub children_at : ℕ
children_at = set_size + 12

abbrev pub parents_at : ℕ
parents_at = set_size + 16

abbrev pub alternatives_at : ℕ
alternatives_at = set_size + 20

abbrev pub node_free : ℕ
node_free = set_size + 24

-- ---- an edge

abbrev pub from_at : ℕ
from_at = 0

abbrev pub to_at : ℕ
to_at = 2

abbrev pub edge_extent : ℕ
edge_extent = 4

-- its marks: a link of the example, from, role and to
abbrev pub mark_from_at : ℕ
mark_from_at = 4

abbrev pub mark_role_at : ℕ
mark_role_at = 6

abbrev pub mark_to_at : ℕ
mark_to_at = 8

-- in its chains the next edge from the same node, and to the same node
abbrev pub edge_chains : ℕ
edge_chains = 10

abbrev pub next_child_at : ℕ
next_child_at = 10

abbrev pub next_parent_at : ℕ
next_parent_at = 12

abbrev pub edge_free : ℕ
edge_free = 14

-- ---- an alternative: behind its set

abbrev pub owner_at : ℕ
owner_at = set_size

abbrev pub alternative_extent : ℕ
alternative_extent = set_size + 2

-- in its chain the next alternative of the same state
abbrev pub next_alternative_at : ℕ
next_alternative_at = set_size + 2
