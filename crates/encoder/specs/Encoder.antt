-- The bytes of a rule file (01, The rule file: "text, rows, rule list, trailer"), made of its parts, and what the functions that write them ask.
-- Laws are in EncoderLaws.
--
-- In order: a word's bytes, and those of some words; the trailer; the whole; what the writers ask; how far one has come.
-- A row comes as a word of 32 bits that holds its four bytes.
use Rattle.std.specs.Prelude.{◌≡◌, List, [], ◌∷◌, ◌++◌, ℕ, ◌+◌, ◌*◌, ◌/◌, ◌%◌, ◌≤◌, ◌<◌, length}
use Rattle.std.proofs.lemmas.List.Edits.{sets}
use Rattle.concepts.specs.Lists.{Bytes}
use Rattle.rulefile.specs.Format.{most_rows, most_rules}

-- ---- the bytes

-- the four bytes of a word, low byte first
abbrev pub word_bytes : ℕ → Bytes
word_bytes w = w % 256 ∷ w / 256 % 256 ∷ w / 65536 % 256 ∷ w / 16777216 % 256 ∷ []

-- the bytes of words, one after the other
unfoldable pub words_bytes : List ℕ → Bytes
words_bytes [] = []
words_bytes (w ∷ ws) = word_bytes w ++ words_bytes ws

-- "place of the first row (2 bytes, low byte first), number of rows, number of rules, number of the wanted row (1 byte each), then hexadecimal 46 49 54"
abbrev pub trailer_bytes : (first count rules wanted : ℕ) → Bytes
trailer_bytes first count rules wanted = first % 256 ∷ first / 256 ∷ count ∷ rules ∷ wanted ∷ 0x46 ∷ 0x49 ∷ 0x54 ∷ []

-- the parts of a file, one after the other
unfoldable pub parts_bytes : (text rows rules : Bytes) (count wanted : ℕ) → Bytes
parts_bytes text rows rules count wanted = text ++ (rows ++ (rules ++ trailer_bytes (length text) count (length rules) wanted))

-- ---- what the writers ask

-- each number of the trailer fits its bytes, and the area has room for it from place `at` on
pub record TrailerAsks (area : Bytes) (at first count rules : ℕ) : Type 0 where
  pub place : first < 65536
  pub rows : count < 256
  pub list : rules < 256
  pub room : at + 8 ≤ length area

-- each number of the trailer fits its bytes, and the area has room for the file
pub record FileAsks (area text : Bytes) (written : List ℕ) (rules : Bytes) : Type 0 where
  pub few_rows : length written ≤ most_rows
  pub few_rules : length rules ≤ most_rules
  pub short_text : length text ≤ 4096
  pub room : length text + 4 * length written + length rules + 8 ≤ length area

-- ---- how far a writer has come

-- i of so many pieces are stored from place `at` on, where `up_to i` are the bytes of the first i
pub record Stored (up_to : ℕ → Bytes) (count : ℕ) (area : Bytes) (at : ℕ) (area' : Bytes) (i : ℕ) : Type 0 where
  pub within : i ≤ count
  pub here : area' ≡ sets area at (up_to i)
