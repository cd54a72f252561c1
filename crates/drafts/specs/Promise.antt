-- What the converter's call promises, for every draft and every area (02, [1] and [6]).
--
-- In order: when a row is needed; rows that hold of the same elements; what a rule file keeps of a draft; an accepted draft; the whole promise.
-- It is kept: proofs/Kept. What the engine then says of the file is true of the draft: proofs/Verdict.
use Rattle.std.specs.Prelude.{◌≡◌, ◌↔◌, ℕ, ◌≤◌, ◌<◌, T, length, get_or, take}
use mathlib.Core.List.{Memᴰ}
use Rattle.concepts.specs.Lists.{Bytes}
use Rattle.concepts.specs.Begins.{Begins}
use Rattle.concepts.specs.Concept.{Table, concept_at, arguments, NoInclusion}
use Rattle.meaning.specs.Meaning.{World, finite, Holds}
use Rattle.rulefile.specs.Format.{RuleFile, refused, accepted, reading}
use Rattle.drafts.specs.Normalize.{inclusion_rows, normalized}
use Rattle.drafts.specs.Conversion.{draft_reading, too_large, ConversionNumbers, numbers, conversion, area_after}

-- "rows needed by the rules .. and then by the wanted row"
pub data Needed (f : RuleFile) : ℕ → Type 0 where
  by_rule : {k : ℕ} → Memᴰ k f.tbox → Needed f k
  by_kit : {k : ℕ} → Memᴰ k f.wanted → Needed f k
  by_row : {k l : ℕ} → Needed f k → Memᴰ l (arguments (concept_at f.table k)) → Needed f l

-- row k of one table and row j of another hold of the same elements of a finite world
abbrev pub Same : World → Table → ℕ → Table → ℕ → Type 0
Same W t k u j = (d : ℕ) → d < W.size → Holds (finite W) t k d ↔ Holds (finite W) u j d

-- the file has the draft's text, its inclusions in their order, and behind these only rows that a rule or the wanted row needs.
-- "The rule list keeps its length and order .. Each rule and the kit must hold of the same elements of every finite world as before"
pub record Keeps (draft file : RuleFile) : Type 0 where
  pub text : file.text ≡ draft.text
  pub inclusions : Begins (inclusion_rows draft.table) file.table
  pub others : (k : ℕ) → length (inclusion_rows draft.table) ≤ k → NoInclusion file.table k
  pub needed : (k : ℕ) → length (inclusion_rows draft.table) ≤ k → k < length file.table → Needed file k
  pub rule_count : length file.tbox ≡ length draft.tbox
  pub rules : (W : World) (i : ℕ) → i < length draft.tbox → Same W draft.table (get_or draft.tbox i 0) file.table (get_or file.tbox i 0)
  pub kit_count : length file.wanted ≡ length draft.wanted
  pub kit : (W : World) (i : ℕ) → i < length draft.wanted → Same W draft.table (get_or draft.wanted i 0) file.table (get_or file.wanted i 0)

-- an accepted draft: r are the numbers of the answer, the area held `before` and holds `after`
pub record ConversionRight (draft : RuleFile) (before : Bytes) (r : ConversionNumbers) (after : Bytes) : Type 0 where
  -- refusal 12 exactly where the result is too large, and no other refusal
  pub too_large : r.refusal ≡ 12 ↔ T (too_large (length before) (normalized draft))
  pub no_other : (r.refusal ≡ 12 → ⊥) → r.refusal ≡ 0
  -- else the bytes written are a file of document 01, and it keeps what the draft says
  pub result : r.refusal ≡ 0 → (f : RuleFile) × (reading (take r.length after) ≡ accepted f) × Keeps draft f

pub record ConversionPromise (draft before : Bytes) (r : ConversionNumbers) (after : Bytes) : Type 0 where
  -- the answer's numbers and every byte of the area are those of the definition
  pub numbers_are : r ≡ numbers (conversion draft (length before))
  pub area_is : after ≡ area_after (conversion draft (length before)) before
  -- a draft that check n refuses: its number, and nothing touched
  pub refusal : (n : ℕ) → draft_reading draft ≡ refused n → (r ≡ record { refusal = n; length = 0 }) × (after ≡ before)
  -- a draft that passes the checks
  pub right : (d : RuleFile) → draft_reading draft ≡ accepted d → ConversionRight d before r after
