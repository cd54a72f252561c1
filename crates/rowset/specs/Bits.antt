-- The rows of one word, row i as bit i, one after another from the lowest up: what the iterator `Bits` gives.
use Rattle.std.specs.Prelude.{◌≡◌, ℕ, ◌-◌, ◌<◌, Option, Some, None}
use Rattle.std.specs.Int.Bits.{bit_and}
use Rattle.std.specs.Int.Count.{count_trailing_zeros}
use Rattle.rowset.specs.declared.Bits.{Bits}

-- the lowest row is given, and the others are left
pub record TakesLowest (bits : Bits) (i : ℕ) (after : Bits) : Type 0 where
  pub some : bits.rest ≡ 0 → ⊥
  pub is : i ≡ count_trailing_zeros 64 bits.rest
  pub small : i < 64
  pub left : after.rest ≡ bit_and bits.rest (bits.rest - 1)

-- the lowest row, or none if no row is left
abbrev pub GivesLowest : Bits → Option ℕ → Bits → Type 0
GivesLowest bits (Some i) after = TakesLowest bits i after
GivesLowest bits None after = (bits.rest ≡ 0) × (after ≡ bits)
