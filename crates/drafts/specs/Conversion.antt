-- The whole conversion: from the bytes of a draft and the lent area to the answer and the area afterwards (02, [1]).
--
-- In order: what comes of a draft; its numbers; the area afterwards.
use Rattle.std.specs.Prelude.{Bool, true, false, ◌||◌, ℕ, ltb, length}
use Rattle.concepts.specs.Lists.{Bytes}
use Rattle.decoding.specs.Decoding.{draft_kinds}
use Rattle.rulefile.specs.Format.{most_rows, RuleFile, Reading, refused, accepted, reading_of}
use Rattle.words.specs.Words.{overwrite}
use Rattle.drafts.specs.Normalize.{normalized}
use Rattle.drafts.specs.Encoding.{file_bytes}

-- "Drafts pass the checks of 01 with the two kinds added"
abbrev pub draft_reading : Bytes → Reading
draft_reading b = reading_of draft_kinds b

-- ---- what comes of a draft

pub data Conversion : Type 0 where
  refused_with : ℕ → Conversion  -- a check refuses the draft, 1 to 8 or 16, or the result is too large, 12
  written : Bytes → Conversion  -- a file of document 01

-- "if the result needs more than 64 rows, more than 4,096 bytes or more than the area"
unfoldable pub too_large : ℕ → RuleFile → Bool
too_large room f = ltb most_rows (length f.table) || (ltb 4096 (length (file_bytes f)) || ltb room (length (file_bytes f)))

unfoldable pub written_or : Bool → RuleFile → Conversion
written_or true f = refused_with 12
written_or false f = written (file_bytes f)

unfoldable pub conversion_of : ℕ → Reading → Conversion
conversion_of room (refused n) = refused_with n
conversion_of room (accepted draft) = written_or (too_large room (normalized draft)) (normalized draft)

-- of a draft, where the area has so many bytes: what they hold has no say in it
unfoldable pub conversion : Bytes → ℕ → Conversion
conversion draft room = conversion_of room (draft_reading draft)

-- ---- its numbers

pub record ConversionNumbers : Type 0 where
  pub refusal : ℕ  -- 0 if a file is written
  pub length : ℕ  -- of the file, 0 with a refusal

unfoldable pub numbers : Conversion → ConversionNumbers
numbers (refused_with n) = record { refusal = n; length = 0 }
numbers (written b) = record { refusal = 0; length = length b }

-- ---- the area afterwards

-- "Bytes of the area past the result are kept"; with a refusal "the area is then unchanged"
unfoldable pub area_after : Conversion → Bytes → Bytes
area_after (refused_with n) area = area
area_after (written b) area = overwrite b area
