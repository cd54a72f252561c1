-- Rows reached from a row. Theorems on them are in proofs/NeededLaws.
use Rattle.std.specs.Prelude.{ℕ, ◌≤◌, ◌<◌, length}
use mathlib.Core.List.{Memᴰ}
use Rattle.concepts.specs.Concept.{Table, concept_at, arguments}

-- ---- rows reached from row j

pub data Reaches (u : Table) (j : ℕ) : ℕ → Type 0 where
  itself : Reaches u j j
  through : {k l : ℕ} → Reaches u j k → Memᴰ l (arguments (concept_at u k)) → Reaches u j l

-- ---- a row with all that it needs

-- the rows from a length on are reached from row j
abbrev pub NewReached : ℕ → Table → ℕ → Type 0
NewReached from u j = (i : ℕ) → from ≤ i → i < length u → Reaches u j i
