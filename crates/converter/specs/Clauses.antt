-- What the converter's functions ask and give. Laws are in ConvertCases.
--
-- In order: the answer's numbers; the whole; the file that is to be written.
use Rattle.std.specs.Prelude.{◌≡◌, List, [], ◌∷◌, ℕ, ◌≤◌, length, take, Result, Ok, Err}
use Rattle.concepts.specs.Lists.{Bytes}
use Rattle.decoding.specs.Decoding.{draft_kinds}
use Rattle.rulefile.specs.Format.{RuleFile, contents}
use Rattle.reader.specs.Read.{Laid}
use Rattle.reader.specs.declared.Layout.{Layout}
use Rattle.drafts.specs.Normalize.{normalized}
use Rattle.drafts.specs.Conversion.{ConversionNumbers, numbers, conversion, area_after}
use Rattle.normalize.specs.Words.{Held}
use Rattle.normalize.specs.Clauses.{rows_of}
use Rattle.normalize.specs.declared.Written.{Written}
use Rattle.normalize.specs.declared.TooLarge.{TooLarge}
use Rattle.converter.specs.declared.Conversion.{Conversion}

-- ---- the answer's numbers

abbrev pub numbers_of : Conversion → ConversionNumbers
numbers_of c = record { refusal = c.refusal; length = c.length }

abbrev pub refused_numbers : ℕ → ConversionNumbers
refused_numbers n = record { refusal = n; length = 0 }

-- of a file of this length, or of a result that is too large
abbrev pub numbers_given : Result ℕ TooLarge → ConversionNumbers
numbers_given (Ok n) = record { refusal = 0; length = n }
numbers_given (Err e) = refused_numbers 12

-- ---- the whole

-- the answer and the area are those of the definition
pub record Converts (draft before : Bytes) (r : ConversionNumbers) (after : Bytes) : Type 0 where
  pub numbers_are : r ≡ numbers (conversion draft (length before))
  pub area_is : after ≡ area_after (conversion draft (length before)) before

-- ---- the file that is to be written

-- what the draft becomes
abbrev pub result : Bytes → RuleFile
result b = normalized (contents draft_kinds b)

-- the words hold its rows, and these are its rules and its wanted row
pub record FinishAsks (b : Bytes) (l : Layout) (w : Written) (rules : List ℕ) (wanted : ℕ) : Type 0 where
  pub laid : Laid draft_kinds b l
  pub held : Held w.words w.count
  pub rows : rows_of w ≡ (result b).table
  pub listed : l.rules ≤ length rules
  pub tbox : take l.rules rules ≡ (result b).tbox
  pub kit : wanted ∷ [] ≡ (result b).wanted
