-- What the writers of the example ask and give (01, Areas: "Two example areas take elements (8 bytes ..) and links (6 bytes ..)"; 02, [2]).
-- Laws are in WritingLaws.
--
-- In order: the names of an element; what is written of the links; a link's fields; what each writer asks; what the whole gives; how far the writer of
-- the links has come.
use Rattle.std.specs.Prelude.{◌≡◌, List, [], ◌∷◌, map, ℕ, ◌*◌, ◌≤◌, ◌<◌, length}
use Rattle.concepts.specs.Lists.{Bytes, range}
use Rattle.concepts.specs.Concept.{Table}
use Rattle.concepts.specs.RowSet.{RowSet}
use Rattle.meaning.specs.Given.{RoleLink}
use Rattle.procedure.specs.SetTests.{names_of}
use Rattle.procedure.specs.Example.{Example}
use Rattle.words.specs.Words.{overwrite}
use Rattle.words.specs.Fields.{Field}
use Rattle.words.specs.Sizes.{node_size, edge_size, set_size, link_size, most_records}
use Rattle.problem.specs.Decoded.{table_of, Decoded}
use Rattle.listing.specs.Layout.{element_bytes, link_bytes}
use Rattle.run.specs.Run.{listing}
use Rattle.records.specs.Areas.{room_of}
use Rattle.records.specs.Records.{node_in}
use Rattle.marks.specs.Marks.{state_in, role_link_in, example_held}
use Rattle.marks.specs.declared.Sizes.{Sizes}

-- ---- what is written

-- the set of element d as the procedure placed it: that of the state for which it stands
abbrev pub set_in : Bytes → ℕ → RowSet
set_in n d = (node_in n (state_in n d)).rows

-- its names
abbrev pub names_in : Table → Bytes → ℕ → RowSet
names_in t n d = names_of t (set_in n d)

-- the bytes of the first k links
abbrev pub links_to : Bytes → ℕ → Bytes
links_to e k = link_bytes (map (role_link_in e) (range 0 k))

-- "links (6 bytes: from, role code, to, 2 bytes each, low byte first)"
abbrev pub link_fields : RoleLink → List Field
link_fields l = (0, 2, l.from) ∷ (2, 2, l.role) ∷ (4, 2, l.to) ∷ []

-- ---- what the writers ask and give

pub record ElementsAsk (nodes : Bytes) (count : ℕ) (elements : Bytes) : Type 0 where
  pub held : count ≤ room_of node_size nodes
  pub states : (d : ℕ) → d < count → state_in nodes d < room_of node_size nodes
  pub room : set_size * count ≤ length elements

pub record LinksAsk (edges : Bytes) (count : ℕ) (links : Bytes) : Type 0 where
  pub held : count ≤ room_of edge_size edges
  pub room : link_size * count ≤ length links

-- the records hold so many elements and links, each element stands for a node of the area, each link goes between elements, and the example areas have room
pub record WriteAsks (ws : List ℕ) (nodes edges : Bytes) (sizes : Sizes) (elements links : Bytes) : Type 0 where
  pub decoded : Decoded ws
  pub few : sizes.elements ≤ most_records
  pub elements_ask : ElementsAsk nodes sizes.elements elements
  pub links_ask : LinksAsk edges sizes.links links
  pub ends : (i : ℕ) → i < sizes.links
      → ((role_link_in edges i).from < sizes.elements) × ((role_link_in edges i).role < 32) × ((role_link_in edges i).to < sizes.elements)

-- the example that the records hold, with every row that holds
abbrev pub listing_held : List ℕ → (nodes edges : Bytes) → Sizes → Example
listing_held ws nodes edges sizes = listing (table_of ws) (example_held nodes edges sizes.elements sizes.links)

-- both areas are written over by its bytes, and keep the rest
pub record WriteGives (ws : List ℕ) (nodes edges : Bytes) (sizes : Sizes) (elements elements' links links' : Bytes) : Type 0 where
  pub elements_written : elements' ≡ overwrite (element_bytes (listing_held ws nodes edges sizes).elements) elements
  pub links_written : links' ≡ overwrite (link_bytes (listing_held ws nodes edges sizes).links) links

-- ---- how far the writer of the links has come

-- i of so many are written over the area
pub record CopiedUpTo (e : Bytes) (count : ℕ) (area area' : Bytes) (i : ℕ) : Type 0 where
  pub within : i ≤ count
  pub size : length area' ≡ length area
  pub here : area' ≡ overwrite (links_to e i) area
