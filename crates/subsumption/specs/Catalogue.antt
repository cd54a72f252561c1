-- The catalogue of names (02, [7]): from the bytes of the file and the four areas to the answer and the areas afterwards.
--
-- In order: what is lent; an entry of the table; the answer; its numbers; the areas afterwards. The names and their rows are in Names.
use Rattle.std.specs.Prelude.{true, false, List, [], ◌∷◌, ℕ, ◌*◌, ltb, length}
use Rattle.concepts.specs.Lists.{Bytes}
use Rattle.concepts.specs.Concept.{Table}
use Rattle.concepts.specs.RowSet.{RowSet, empty, from_list}
use Rattle.rulefile.specs.Format.{Reading, refused, accepted, reading}
use Rattle.words.specs.Words.{overwrite}
use Rattle.run.specs.Run as Run
use Rattle.run.specs.Run.{Lengths, lengths, Answer, refused_file, short, cannot, can, too_long, undefined, answer_for, zeros}
use Rattle.subsumption.specs.Names.{positive, negative, names, row_after_row}

-- ---- what is lent

-- three work areas, and the area for the "square table kept beside the rule file"
pub record Areas : Type 0 where
  pub nodes : Bytes
  pub edges : Bytes
  pub alternatives : Bytes
  pub table : Bytes

abbrev pub areas_of : (nodes edges alternatives table : Bytes) → Areas
areas_of nodes edges alternatives table = record { nodes = nodes; edges = edges; alternatives = alternatives; table = table }

-- what the engine is lent for an entry: the work areas, and no example area
abbrev pub lent : Areas → Lengths
lent a = lengths (Run.areas_of a.nodes a.edges a.alternatives [] [])

-- ---- an entry

-- "1 if an a that isn't a b cannot exist, 0 if it can, 2 if the work areas didn't suffice"; "An entry that would be refused 11 counts as 0"
unfoldable pub entry_of : Answer → ℕ
entry_of (cannot u) = 1
entry_of (can u x) = 0
entry_of (too_long x) = 0
entry_of (short r n) = 2
entry_of (refused_file n) = 3  -- never: the two rows are rows of an accepted file, of kinds 1 and 2
entry_of undefined = 3  -- never, as of the engine

-- "Row a, column b": what the engine answers to the file if a's kind 1 row and b's kind 2 row are wanted together
unfoldable pub entry : Bytes → Lengths → Table → ℕ → ℕ → ℕ
entry file l t a b = entry_of (answer_for (positive t a ∷ negative t b ∷ []) file l)

-- ---- the answer

pub data Catalogue : Type 0 where
  refused_with : ℕ → Catalogue  -- a file check refuses the file: 1 to 8, or 16; or 17
  listed : List ℕ → Bytes → Catalogue  -- these names, and the entries of their table

-- "Refusal 17 .. is given if the area is shorter than the square"
unfoldable pub listed_in : ℕ → List ℕ → Bytes → Catalogue
listed_in room ns entries = elim (ltb room (length ns * length ns)) [ true ↦ refused_with 17 | false ↦ listed ns entries ]

-- "after all file checks"
unfoldable pub catalogue_reading : Bytes → Lengths → ℕ → Reading → Catalogue
catalogue_reading file l room (refused n) = refused_with n
catalogue_reading file l room (accepted f) = listed_in room (names f.table) (row_after_row (entry file l f.table) (names f.table) (names f.table))

-- the catalogue of a file, given what the engine is lent and the length of the area for the table
unfoldable pub catalogue : Bytes → Lengths → ℕ → Catalogue
catalogue file l room = catalogue_reading file l room (reading file)

-- ---- the answer's numbers

pub record CatalogueNumbers : Type 0 where
  pub refusal : ℕ  -- 0 if the table is filled
  pub count : ℕ  -- how many names are listed
  pub names : RowSet  -- which: name n as bit n

-- "Each gives its number and zeros elsewhere" (01)
abbrev pub refusal_alone : ℕ → CatalogueNumbers
refusal_alone n = record { refusal = n; count = 0; names = empty }

unfoldable pub numbers : Catalogue → CatalogueNumbers
numbers (refused_with n) = refusal_alone n
numbers (listed ns entries) = record { refusal = 0; count = length ns; names = from_list ns }

-- ---- the areas afterwards

-- "The work areas end all zero, and bytes past the square are kept"; with 17 "no area is then changed"
unfoldable pub areas_after : Catalogue → Areas → Areas
areas_after (refused_with n) a = a
areas_after (listed ns entries) a = areas_of (zeros a.nodes) (zeros a.edges) (zeros a.alternatives) (overwrite entries a.table)
