-- What the functions that print ask and give. Laws are in PrintingLaws.
--
-- In order: what is asked; what a function that writes a piece of text gives, and how far a loop over pieces has come; what the whole gives.
-- A piece may lie past the end of the area, in part or whole: places are counted all the same, and nothing is stored there.
use Rattle.std.specs.Prelude.{◌≡◌, ◌≢◌, List, ℕ, ◌+◌, ◌*◌, ◌^◌, ◌≤◌, ◌<◌, length, take}
use Rattle.std.proofs.lemmas.List.Edits.{sets}
use Rattle.concepts.specs.Lists.{Bytes}
use Rattle.words.specs.Words.{overwrite}
use Rattle.words.specs.Sizes.{set_size}
use Rattle.run.specs.Run.{Numbers}
use Rattle.run.specs.Printed.{printed}
use Rattle.printing.specs.declared.Text.{Text}

-- ---- what is asked

-- so many places from here on can be counted
abbrev pub Countable : ℕ → ℕ → Type 0
Countable at most = at + most < 2 ^ 64

-- the bytes of the longest line of an element: E, its number of at most 10 digits, two digits for each byte of its set, two spaces and a line feed
abbrev pub element_most : ℕ
element_most = 14 + 2 * set_size

-- the bytes of the longest line of a word and so many numbers: a space and at most 10 digits for each, and a line feed
abbrev pub line_most : Bytes → List ℕ → ℕ
line_most word ns = length word + 11 * length ns + 1

-- ---- what a piece gives

-- the text, of so many bytes at most, is stored from place `at` on, as far as the area goes; what comes after it stands at `next`
pub record Wrote (most : ℕ) (text out : Bytes) (at : ℕ) (out' : Bytes) (next : ℕ) : Type 0 where
  pub stored : out' ≡ sets out at text
  pub after : next ≡ at + length text
  pub bounded : length text ≤ most

-- the same of a text that is written: it stays in the same area
pub record Writes (most : ℕ) (text : Bytes) (t t' : Text) : Type 0 where
  pub wrote : Wrote most text t.out.now t.at t'.out.now t'.at
  pub same_reference : t'.out.ghost_name ≡ t.out.ghost_name

-- how far a loop has come: i of so many pieces, each of so many bytes at most, where `up_to i` is the text of the first i
pub record Pieces (up_to : ℕ → Bytes) (each count : ℕ) (t t' : Text) (i : ℕ) : Type 0 where
  pub within : i ≤ count
  pub writes : Writes (each * i) (up_to i) t t'

-- ---- what the whole gives

-- the count is the length of what is printed: at most 64 bytes, and with "can" so many more for each element and 35 for each link;
-- the area holds what is printed and then what it held before, cut at the area's own length
pub record Prints (n : Numbers) (elements links out out' : Bytes) (count : ℕ) : Type 0 where
  pub counted : count ≡ length (printed n elements links)
  pub shown : out' ≡ take (length out) (overwrite (printed n elements links) out)
  pub bounded : count ≤ 64 + element_most * n.elements + 35 * n.links
  pub brief : n.verdict ≢ 1 → count ≤ 64
