-- Written rows as words: each word is a row's four bytes, low byte first. Laws are in WordLaws.
--
-- In order: a row as a word, and back; the rows at the start of a list of words.
use Rattle.std.specs.Prelude.{◌≡◌, List, map, ℕ, ◌+◌, ◌*◌, ◌/◌, ◌%◌, ◌≤◌, ◌<◌, length, get_or}
use Rattle.concepts.specs.Lists.{range}
use Rattle.concepts.specs.Concept.{Concept, Table, role_of}
use Rattle.decoding.specs.RowParts.{kind_of, left_of, right_of, of_parts}
use Rattle.rulefile.specs.Format.{most_rows}

-- ---- a row

abbrev pub word_of : Concept → ℕ
word_of c = kind_of c + 256 * role_of c + 65536 * left_of c + 16777216 * right_of c

unfoldable pub row_in : ℕ → Concept
row_in w = of_parts (w % 256) (w / 256 % 256) (w / 65536 % 256) (w / 16777216 % 256)

-- the word is that of the row that it stands for
abbrev pub Own : ℕ → Type 0
Own w = word_of (row_in w) ≡ w

-- ---- rows

-- the rows in the first n words
unfoldable pub rows_in : List ℕ → ℕ → Table
rows_in ws n = map (λ (i : ℕ). row_in (get_or ws i 0)) (range 0 n)

-- there is a word for each row that a file has at most, and the first n are rows
pub record Held (ws : List ℕ) (n : ℕ) : Type 0 where
  pub size : length ws ≡ most_rows
  pub few : n ≤ most_rows
  pub own : (i : ℕ) → i < n → Own (get_or ws i 0)
