-- The names that a catalogue lists, and their rows (02, [7]); a square table row after row. Laws are in NameLaws.
--
-- In order: where a concept stands in a table; the rows of a name; the names; a table row after row.
-- Assumes nothing.
use Rattle.std.specs.Prelude.{Bool, ◌&&◌, cond, List, [], ◌∷◌, ◌++◌, map, ℕ, zero, suc, ltb, length, Option, Some}
use Rattle.concepts.specs.Lists.{range, select}
use Rattle.concepts.specs.Concept.{Concept, as_atomic, as_negated, Table}
use Rattle.procedure.specs.Problem.{same_name}

-- the place of the first concept that passes; the number of rows if none does
unfoldable pub place_of : (Concept → Bool) → Table → ℕ
place_of passes [] = zero
place_of passes (c ∷ t) = cond (passes c) zero (suc (place_of passes t))

-- a concept of name a, by a view
unfoldable pub of_name : (Concept → Option ℕ) → ℕ → Concept → Bool
of_name view a c = same_name (Some a) (view c)

-- the kind 1 row of name a, and its kind 2 row; no two rows are equal, so there is one of each or none
abbrev pub positive : Table → ℕ → ℕ
positive t a = place_of (of_name as_atomic a) t

abbrev pub negative : Table → ℕ → ℕ
negative t a = place_of (of_name as_negated a) t

-- "the names with both a kind 1 and a kind 2 row"
abbrev pub has_both : Table → ℕ → Bool
has_both t a = ltb (positive t a) (length t) && ltb (negative t a) (length t)

-- "in order of name"; "name 0 to 63"
unfoldable pub names : Table → List ℕ
names t = select (has_both t) (range 0 64)

-- "one byte an entry, row after row"
unfoldable pub row_after_row : (ℕ → ℕ → ℕ) → List ℕ → List ℕ → List ℕ
row_after_row entry [] columns = []
row_after_row entry (a ∷ rows) columns = map (entry a) columns ++ row_after_row entry rows columns
