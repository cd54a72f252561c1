-- What the functions of a catalogue ask and give (02, [7]): which rows the names have, what a run says that wants two rows, and these answers row after row.
--
-- In order: the rows of the names; the names; an entry; a row of entries; all rows; the answer.
-- Laws are in NameCases, EntryCases, FillCases and ListedLaws.
use Rattle.std.specs.Prelude.{◌≡◌, cond, List, [], ◌∷◌, map, ℕ, ◌+◌, ◌*◌, ◌≤◌, ◌<◌, eqb, length, get_or, drop, Option, None, Some}
use Rattle.concepts.specs.Lists.{Bytes, range, select}
use Rattle.concepts.specs.Concept.{Concept, Table}
use Rattle.concepts.specs.RowSet.{from_list}
use Rattle.procedure.specs.Graph.{Capacity}
use Rattle.procedure.specs.Tableau.{run}
use Rattle.decoding.specs.RowParts.{kind_of, left_of}
use Rattle.words.specs.Words.{overwrite}
use Rattle.run.specs.Said.{Said, says_short, says_cannot, says_can, says_nothing, said}
use Rattle.problem.specs.Decoded.{table_of, problem_of, Decoded}
use Rattle.decoder.specs.Want.{MayServe, AllServe, with_wanted, SameRows}
use Rattle.subsumption.specs.Names.{place_of, of_name, positive, negative, has_both, row_after_row}
use Rattle.subsumption.specs.Catalogue.{Areas, lent, catalogue, CatalogueNumbers, numbers, areas_after}
use Rattle.catalogue.specs.declared.Listed.{Listed}
use Rattle.catalogue.specs.declared.Page.{Page}

-- ---- the rows of the names

-- the name that a row of this kind has; none of any other kind
abbrev pub name_of : ℕ → Concept → Option ℕ
name_of kind c = cond (eqb (kind_of c) kind) (Some (left_of c)) None

-- what stands for the first row that passes, at this place among n rows, or for none
abbrev pub RowAt : Option ℕ → ℕ → ℕ → Type 0
RowAt (Some k) place n = (k ≡ place) × (place < n)
RowAt None place n = n ≤ place

-- at each name, its first row of this kind from row k on, if it has one
pub record PlacesFrom (kind : ℕ) (t : Table) (k : ℕ) (places : List (Option ℕ)) : Type 0 where
  pub within : k ≤ length t
  pub all : length places ≡ 64
  pub rows : (a : ℕ) → a < 64 → RowAt (get_or places a None) (k + place_of (of_name (name_of kind) a) (drop k t)) (length t)

-- ---- the names

-- the names below a
abbrev pub names_below : Table → ℕ → List ℕ
names_below t a = select (has_both t) (range 0 a)

-- these names of the table are listed: name n as bit n, and their rows
pub record Lists (t : Table) (names : List ℕ) (l : Listed) : Type 0 where
  pub names-are : l.names ≡ from_list names
  pub few : length names ≤ 64
  pub positives-are : l.positives ≡ map (positive t) names
  pub negatives-are : l.negatives ≡ map (negative t) names

-- what is asked to list one name more, or to pass it over: all names below it are listed, and these are its rows
pub record NameAsks (t : Table) (a : ℕ) (p n : Option ℕ) (l : Listed) : Type 0 where
  pub below : a < 64
  pub positive-is : RowAt p (positive t a) (length t)
  pub negative-is : RowAt n (negative t a) (length t)
  pub lists : Lists t (names_below t a) l

-- there is place for it
pub record NameFits (a : ℕ) (l : Listed) : Type 0 where
  pub below : a < 64
  pub positives : length l.positives < 64
  pub negatives : length l.negatives < 64

-- ---- an entry

-- "1 if an a that isn't a b cannot exist, 0 if it can, 2 if the work areas didn't suffice"; a run never says nothing
abbrev pub entry_number : Said → ℕ
entry_number says_can = 0
entry_number says_cannot = 1
entry_number says_short = 2
entry_number says_nothing = 3

-- what a run says that wants rows p and q together
abbrev pub ran_entry : List ℕ → Capacity → ℕ → ℕ → ℕ
ran_entry ws c p q = entry_number (said (run (with_wanted (from_list (p ∷ q ∷ [])) (problem_of ws)) c))

pub record EntryAsks (ws : List ℕ) (p q : ℕ) : Type 0 where
  pub decoded : Decoded ws
  pub positive : MayServe (table_of ws) p
  pub negative : MayServe (table_of ws) q

pub record EntryGives (ws : List ℕ) (c : Capacity) (p q r : ℕ) (ws' : List ℕ) : Type 0 where
  pub entry-is : r ≡ ran_entry ws c p q
  pub same : SameRows with_wanted ws ws'

-- ---- a row of entries

pub record RowAsks (ws : List ℕ) (p : ℕ) (negatives row : List ℕ) : Type 0 where
  pub decoded : Decoded ws
  pub positive : MayServe (table_of ws) p
  pub negative : AllServe (table_of ws) negatives
  pub room : length negatives ≤ length row

pub record RowGives (ws : List ℕ) (c : Capacity) (p : ℕ) (negatives row ws' row' : List ℕ) : Type 0 where
  pub row_is : row' ≡ overwrite (map (ran_entry ws c p) negatives) row
  pub same : SameRows with_wanted ws ws'

-- ---- all rows

pub record FillAsks (ws positives negatives table : List ℕ) : Type 0 where
  pub decoded : Decoded ws
  pub positive : AllServe (table_of ws) positives
  pub negative : AllServe (table_of ws) negatives
  pub few : (length positives ≤ 64) × (length negatives ≤ 64)
  pub room : length positives * length negatives ≤ length table

pub record FillGives (ws : List ℕ) (c : Capacity) (positives negatives table ws' table' : List ℕ) : Type 0 where
  pub table_is : table' ≡ overwrite (row_after_row (ran_entry ws c) positives negatives) table
  pub same : SameRows with_wanted ws ws'

-- ---- the answer

-- the numbers that the call gives back
abbrev pub numbers_of : Page → CatalogueNumbers
numbers_of p = record { refusal = p.refusal; count = p.count; names = p.names }

-- an accepted file: the numbers and the areas are those of the definition
pub record Answered (file : Bytes) (before : Areas) (r : CatalogueNumbers) (after : Areas) : Type 0 where
  pub numbers_are : r ≡ numbers (catalogue file (lent before) (length before.table))
  pub areas_are : after ≡ areas_after (catalogue file (lent before) (length before.table)) before
