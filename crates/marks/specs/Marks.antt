-- What the walk of the example keeps in the spare bytes of the records (01, The example): the state of each element, the element of
-- each state, and the links in the order in which they are written. Laws are in MarkLaws.
--
-- In order: where marks may stand; a state's number, an element's state; a link; the example that they hold.
use Rattle.std.specs.Prelude.{map, ℕ}
use Rattle.concepts.specs.Lists.{Bytes, range}
use Rattle.meaning.specs.Given.{RoleLink}
use Rattle.procedure.specs.Example.{Example}
use Rattle.words.specs.Sizes.{node_size, edge_size}
use Rattle.records.specs.Areas.{field, Beside}
use Rattle.records.specs.Layout.{node_extent, number_at, placed_at, node_chains, edge_extent, mark_from_at, mark_role_at, mark_to_at, edge_chains}
use Rattle.records.specs.Records.{node_in}
use Rattle.marks.specs.declared.LinkMark.{LinkMark}

-- ---- where marks may stand: between what is the graph's own and the chains

-- nodes n became n', edges e became e': all is kept but marks
abbrev pub NodesMarked : Bytes → Bytes → Type 0
NodesMarked n n' = Beside node_size node_extent node_chains n n'

abbrev pub EdgesMarked : Bytes → Bytes → Type 0
EdgesMarked e e' = Beside edge_size edge_extent edge_chains e e'

-- ---- the marks

-- 0, or one more than the number of the element that stands for state y: in node record y
unfoldable pub number_in : Bytes → ℕ → ℕ
number_in n y = field node_size n y number_at 2

-- the state for which element d stands: in node record d
unfoldable pub state_in : Bytes → ℕ → ℕ
state_in n d = field node_size n d placed_at 2

-- the link that a value of the code means
abbrev pub role_link_of : LinkMark → RoleLink
role_link_of l = record { from = l.from; role = l.role; to = l.to }

-- link k: in edge record k
unfoldable pub role_link_in : Bytes → ℕ → RoleLink
role_link_in e k = record { from = field edge_size e k mark_from_at 2; role = field edge_size e k mark_role_at 2; to = field edge_size e k mark_to_at 2 }

-- ---- the example

-- the example that the spare bytes hold, of so many elements and links
abbrev pub example_held : Bytes → Bytes → ℕ → ℕ → Example
example_held n e elements links = record {
  elements = map (λ d. (node_in n (state_in n d)).rows) (range 0 elements);
  links = map (role_link_in e) (range 0 links);
}
