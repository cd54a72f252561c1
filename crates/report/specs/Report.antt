-- What a report gives. The text itself is run's `program_text`; laws are in ReportLaws.
use Rattle.std.specs.Prelude.{◌≡◌, ℕ, ◌≤◌, length, take, drop}
use Rattle.concepts.specs.Lists.{Bytes}
use Rattle.run.specs.Program.{program_text}

-- the text area held `text` and now holds `text'`: its first so many bytes are what the program prints for the file, the others are as they were
pub record Reports (file text text' : Bytes) (count : ℕ) : Type 0 where
  pub within : count ≤ length text'
  pub printed : take count text' ≡ program_text file
  pub rest : drop count text' ≡ drop count text
