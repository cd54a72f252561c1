-- The records as bytes: what the code's values mean, and what stands in a record (01, Areas). Laws are in RecordLaws, the places in Layout.
--
-- A node, an edge and an alternative stand in the first bytes of their records, as far as their extent. Behind it there is place for what belongs to no
-- graph: the marks of the walk (crate marks) and the chains (crate chains). A set of rows stays where it is: a value of the code is what else a record has.
use Rattle.std.specs.Prelude.{◌≡◌, Bool, List, [], ◌∷◌, ℕ, ◌*◌}
use Rattle.concepts.specs.Lists.{Bytes}
use Rattle.concepts.specs.RowSet.{RowSet}
use Rattle.procedure.specs.Status.{is_unset}
use Rattle.procedure.specs.Graph as G
use Rattle.words.specs.Fields.{Field}
use Rattle.words.specs.Sizes.{node_size, edge_size, alternative_size, set_size}
use Rattle.rowset.specs.SetOf.{set_of}
use Rattle.records.specs.Codes.{status_of, status_code, status_in, flag_code, flag_in, link_of, link_kind, link_number, link_in}
use Rattle.records.specs.Areas.{field, Written}
use Rattle.records.specs.Layout.{status_at, is_state_at, pst_at, prl_at, link_kind_at, link_number_at, node_extent}
use Rattle.records.specs.Layout.{from_at, to_at, edge_extent, owner_at, alternative_extent}
use Rattle.records.specs.declared.Status.{Status}
use Rattle.records.specs.declared.Link.{Link}
use Rattle.records.specs.declared.Node.{Node}
use Rattle.records.specs.declared.Edge.{Edge}

-- ---- nodes

-- the node with this set, and with what a value of the code says of the rest
abbrev pub node_of : RowSet → Node → G.Node
node_of s n = record { rows = s; status = status_of n.status; is_state = n.is_state; pst = n.pst; prl = n.prl; link = link_of n.link }

-- node x of an area
unfoldable pub node_in : Bytes → ℕ → G.Node
node_in b x =
    record {
      rows = set_of b (node_size * x);
      status = status_in (field node_size b x status_at 1);
      is_state = flag_in (field node_size b x is_state_at 1);
      pst = field node_size b x pst_at 2;
      prl = field node_size b x prl_at 1;
      link = link_in (field node_size b x link_kind_at 1) (field node_size b x link_number_at 2);
    }

-- the value d is what node x of an area has besides its set
abbrev pub IsNode : Bytes → ℕ → Node → Type 0
IsNode b x d = node_of (set_of b (node_size * x)) d ≡ node_in b x

-- .. what it has as its status, and as its link
abbrev pub IsStatus : Bytes → ℕ → Status → Type 0
IsStatus b x s = status_of s ≡ (node_in b x).status

abbrev pub IsLink : Bytes → ℕ → Link → Type 0
IsLink b x l = link_of l ≡ (node_in b x).link

abbrev pub node_fields : RowSet → Node → List Field
node_fields s n =
    (0, set_size, s)
    ∷ (status_at, 1, status_code n.status)
    ∷ (is_state_at, 1, flag_code n.is_state)
    ∷ (pst_at, 2, n.pst)
    ∷ (prl_at, 1, n.prl)
    ∷ (link_kind_at, 1, link_kind n.link)
    ∷ (link_number_at, 2, link_number n.link)
    ∷ []

-- the area b' is b with v as node x
abbrev pub NodeWritten : Bytes → Bytes → ℕ → G.Node → Type 0
NodeWritten b b' x v = Written node_in node_size node_extent b b' x v

-- node x of an area has no status
unfoldable pub is_unset_at : Bytes → ℕ → Bool
is_unset_at n x = is_unset (node_in n x).status

-- ---- edges

abbrev pub edge_of : Edge → G.Edge
edge_of d = record { from = d.from; to = d.to }

-- edge i of an area
unfoldable pub edge_in : Bytes → ℕ → G.Edge
edge_in b i = record { from = field edge_size b i from_at 2; to = field edge_size b i to_at 2 }

abbrev pub edge_fields : Edge → List Field
edge_fields d = (from_at, 2, d.from) ∷ (to_at, 2, d.to) ∷ []

-- the area b' is b with v as edge i
abbrev pub EdgeWritten : Bytes → Bytes → ℕ → G.Edge → Type 0
EdgeWritten b b' i v = Written edge_in edge_size edge_extent b b' i v

-- ---- alternatives

-- the alternative with this set, of the state `owner`
abbrev pub alternative_of : RowSet → ℕ → G.Alternative
alternative_of s owner = record { owner = owner; rows = s }

-- alternative i of an area
unfoldable pub alternative_in : Bytes → ℕ → G.Alternative
alternative_in b i = record { owner = field alternative_size b i owner_at 2; rows = set_of b (alternative_size * i) }

abbrev pub alternative_fields : RowSet → ℕ → List Field
alternative_fields s owner = (0, set_size, s) ∷ (owner_at, 2, owner) ∷ []

-- the area b' is b with v as alternative i
abbrev pub AlternativeWritten : Bytes → Bytes → ℕ → G.Alternative → Type 0
AlternativeWritten b b' i v = Written alternative_in alternative_size alternative_extent b b' i v
