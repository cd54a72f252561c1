-- What makes a file one that reads as it was written: no inclusion is an argument, the rows, and the whole.
use Rattle.std.specs.Prelude.{◌≡◌, false, ℕ, ◌≤◌, ◌<◌, T, length}
use mathlib.Core.List.{Memᴰ}
use Rattle.concepts.specs.Concept.{Table, concept_at, arguments, Ordered, NoInclusion, Serves, Normal}
use Rattle.decoding.specs.RowParts.{in_range}
use Rattle.rulefile.specs.Format.{most_rows, most_rules, RuleFile}
use Rattle.drafts.specs.Normalize.{same_row}
use Rattle.drafts.specs.Encoding.{file_bytes}

-- no row names an inclusion
abbrev pub Idle : Table → Type 0
Idle t = (k l : ℕ) → Memᴰ l (arguments (concept_at t k)) → NoInclusion t l

-- arguments are lower rows, and no inclusions; the kinds are those of a rule file, names and roles are in their range, no two rows are equal
pub record Sound (t : Table) : Type 0 where
  pub ordered : Ordered t
  pub idle : Idle t
  pub normal : Normal t
  pub ranged : (k : ℕ) → T (in_range (concept_at t k))
  pub distinct : (j k : ℕ) → j < k → k < length t → same_row (concept_at t k) (concept_at t j) ≡ false

pub record Writable (f : RuleFile) : Type 0 where
  pub sound : Sound f.table
  pub few_rows : length f.table ≤ most_rows
  pub few_rules : length f.tbox ≤ most_rules
  pub rule_rows : (k : ℕ) → Memᴰ k f.tbox → k < length f.table
  pub one_wanted : length f.wanted ≡ 1
  pub wanted_rows : (k : ℕ) → Memᴰ k f.wanted → k < length f.table
  pub serving : (k : ℕ) → Serves f.table f.tbox f.wanted k → NoInclusion f.table k
  pub short : length (file_bytes f) ≤ 4096
