-- What the program writes for a draft: the rule file, or one line. Laws are in OutputLaws.
--
-- In order: what is written; what the function that makes it gives.
use Rattle.std.specs.Prelude.{◌≡◌, [], ◌∷◌, ℕ, ◌≤◌, length, take}
use Rattle.concepts.specs.Lists.{Bytes}
use Rattle.run.specs.Printed.{ascii, line}
use Rattle.drafts.specs.Conversion.{Conversion, refused_with, written, conversion}

-- ---- what is written

-- the bytes of the rule file, or `REFUSED` and the number
unfoldable pub output_of : Conversion → Bytes
output_of (refused_with n) = line (ascii "REFUSED") (n ∷ [])
output_of (written b) = b

-- for a draft: the program lends an area of 4,096 bytes
unfoldable pub output : Bytes → Bytes
output draft = output_of (conversion draft 4096)

-- ---- what is given

-- the first so many bytes of the area are what is written for the draft
pub record Outputs (draft area : Bytes) (count : ℕ) : Type 0 where
  pub within : count ≤ length area
  pub output_is : take count area ≡ output draft
