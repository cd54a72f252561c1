-- The set at a place. How many words and bytes a set has, and how many rows it can hold, is in words (Sizes).
use Rattle.std.specs.Prelude.{List, ℕ}
use Rattle.concepts.specs.RowSet.{RowSet}
use Rattle.words.specs.Words.{le_at}
use Rattle.words.specs.Sizes.{set_size}

-- the set in the bytes from place at on: "row k as bit k, low byte first" (01, Areas)
abbrev pub set_of : List ℕ → ℕ → RowSet
set_of b at = le_at b at set_size
