-- What the reader answers: the answer to a reading; where a part of a file starts; a file with its layout.
use Rattle.std.specs.Prelude.{◌≡◌, List, ℕ, ◌+◌, length, Result, Ok, Err}
use Rattle.concepts.specs.Lists.{Bytes}
use Rattle.decoding.specs.Decoding.{Kinds}
use Rattle.reader.specs.declared.Layout.{Layout}
use Rattle.checks.specs.declared.Refusal.{Refusal}
use Rattle.checks.specs.Refusals.{number_of}
use Rattle.rulefile.specs.Format.{first_row, row_count, rule_count, wanted_rows, RuleFile, Reading, refused, accepted, reading_for}
use Rattle.rulefile.specs.Checks.{Parted}

-- how long each part of a file is
abbrev pub layout_of : RuleFile → Layout
layout_of f = record { text = length f.text; rows = length f.table; rules = length f.tbox }

-- the number of the refusal, or the layout
unfoldable pub read_of : Reading → Result Layout ℕ
read_of (refused n) = Err n
read_of (accepted f) = Ok (layout_of f)

-- what the code answers, with the number of the refusal
abbrev pub numbered : Result Layout Refusal → Result Layout ℕ
numbered (Err r) = Err (number_of r)
numbered (Ok l) = Ok l

-- where a part of the file starts, so many bytes into the file: a place is a block and an offset
abbrev pub Starts : ℕ × ℕ → ℕ × ℕ → ℕ → Type 0
Starts part file from = (part.0 ≡ file.0) × (part.1 ≡ file.1 + from)

-- ---- a file with its layout

-- where the parts fill the file, the layout is what the trailer says
abbrev pub trailer_layout : Bytes → Layout
trailer_layout b = record { text = first_row b; rows = row_count b; rules = rule_count b }

pub record Placed (b : Bytes) (l : Layout) : Type 0 where
  pub parts : Parted b
  pub layout : l ≡ trailer_layout b

-- the file is accepted with these wanted rows, and this is its layout
pub record LaidFor (kinds : Kinds) (wanted : List ℕ) (b : Bytes) (l : Layout) : Type 0 where
  pub file : RuleFile
  pub reads : reading_for kinds wanted b ≡ accepted file
  pub layout : l ≡ layout_of file

-- with its own
abbrev pub Laid : Kinds → Bytes → Layout → Type 0
Laid kinds b l = LaidFor kinds (wanted_rows b) b l
