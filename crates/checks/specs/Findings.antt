-- What the code's decoding of a row of a file gives.
use Rattle.std.specs.Prelude.{List, ℕ, Option}
use Rattle.concepts.specs.Lists.{Bytes}
use Rattle.decoding.specs.Decoding.{Kinds}
use Rattle.decoding.specs.Named.{named_rows}
use Rattle.rulefile.specs.Format.{row_byte}

-- the rows that row k names, none if it is malformed
abbrev pub named_at : Kinds → Bytes → ℕ → Option (List ℕ)
named_at kinds b k = named_rows kinds (row_byte b k 0) (row_byte b k 1) (row_byte b k 2) (row_byte b k 3)
