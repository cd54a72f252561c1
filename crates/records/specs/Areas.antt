-- An area of bytes as a list of records, whatever the kind of record. Laws are in AreaLaws.
--
-- In order: the room of an area; a number in a record; the list of records; one record written, and what is kept beside it; a search; the records that pass.
use Rattle.std.specs.Prelude.{◌≡◌, Bool, true, false, List, map, ◌≢◌, ◌⊎◌, ℕ, ◌+◌, ◌*◌, ◌≤◌, ◌<◌, length, drop}
use Rattle.concepts.specs.Lists.{Bytes, range, select}
use Rattle.words.specs.Words.{le_at}
use Rattle.words.specs.Sizes.{most_records, records_lent}

-- how many records of a size an area holds: "whole records count, and at most 4,096 of each" (01, Areas)
abbrev pub room_of : ℕ → Bytes → ℕ
room_of size b = records_lent size (length b)

-- the area has record x
abbrev pub Fits : ℕ → Bytes → ℕ → Type 0
Fits size b x = (x < most_records) × (size * x + size ≤ length b)

-- the number in the n bytes at place o of record x
abbrev pub field : ℕ → Bytes → ℕ → ℕ → ℕ → ℕ
field size b x o n = le_at b (size * x + o) n

module _ {A : Type 0} (read : Bytes → ℕ → A) where
  -- the first n records
  abbrev pub records_in : Bytes → ℕ → List A
  records_in b n = map (read b) (range 0 n)

  -- b' is b with v as record x
  pub record Stored (b b' : Bytes) (x : ℕ) (v : A) : Type 0 where
    pub size : length b' ≡ length b
    pub here : read b' x ≡ v
    pub others : (y : ℕ) → y ≢ x → read b' y ≡ read b y

-- b' is b but for bytes lo to hi of record x
pub record Within (size x lo hi : ℕ) (b b' : Bytes) : Type 0 where
  pub long : length b' ≡ length b
  pub elsewhere : (y o w : ℕ) → y ≢ x → o + w ≤ size → field size b' y o w ≡ field size b y o w
  pub beside : (o w : ℕ) → (o + w ≤ lo) ⊎ (hi ≤ o) → o + w ≤ size → field size b' x o w ≡ field size b x o w

-- b' is b but for bytes lo to hi of records
pub record Beside (size lo hi : ℕ) (b b' : Bytes) : Type 0 where
  pub long : length b' ≡ length b
  pub kept : (y o w : ℕ) → (o + w ≤ lo) ⊎ (hi ≤ o) → o + w ≤ size → field size b' y o w ≡ field size b y o w

-- b' is b with v as record x, which is written in its first `extent` bytes
pub record Written {A : Type 0} (read : Bytes → ℕ → A) (size extent : ℕ) (b b' : Bytes) (x : ℕ) (v : A) : Type 0 where
  pub stored : Stored read b b' x v
  pub within : Within size x 0 extent b b'

-- i is the first number from `from` on that passes, or none below n does
pub record FirstAt (f : ℕ → Bool) (from n i : ℕ) : Type 0 where
  pub start : from ≤ i
  pub before : (k : ℕ) → from ≤ k → k < i → f k ≡ false
  pub found : i < n → f i ≡ true

-- what the elements that pass are worth, from place i on
unfoldable pub chosen_from : {A B : Type 0} → (A → Bool) → (A → B) → List A → ℕ → List B
chosen_from pass worth xs i = map worth (select pass (drop i xs))
