-- Chains through records that share a key, whatever the records: which comes next. Laws are in ChainLaws.
--
-- A number below 4,096 is the number of a record; any other says that there is none: no area has more records (01, Areas).
-- Assumes nothing.
use Rattle.std.specs.Prelude.{◌≡◌, ◌≢◌, ℕ, zero, suc, ◌+◌, ◌≤◌, ◌<◌}
use Rattle.words.specs.Sizes.{most_records}

-- i is the first of the records from `from` on, below n, whose key is x; or there is none
pub record First (key : ℕ → ℕ) (x from n i : ℕ) : Type 0 where
  pub found : i < most_records → (from ≤ i) × (i < n) × (key i ≡ x)
  pub least : (k : ℕ) → from ≤ k → k < n → key k ≡ x → i ≤ k

-- i is the last of the first n records whose key is x; or there is none
pub record Last (key : ℕ → ℕ) (x n i : ℕ) : Type 0 where
  pub found : i < most_records → (i < n) × (key i ≡ x)
  pub greatest : (k : ℕ) → k < n → key k ≡ x → (k ≤ i) × (i < most_records)

-- of n records with keys below m: each has the next with its key, and each key the first and the last record that have it
pub record Chain (key next first last : ℕ → ℕ) (m n : ℕ) : Type 0 where
  pub few : n ≤ most_records
  pub keys : (i : ℕ) → i < n → key i < m
  pub nexts : (i : ℕ) → i < n → First key (key i) (i + 1) n (next i)
  pub firsts : (x : ℕ) → x < m → First key x 0 n (first x)
  pub lasts : (x : ℕ) → x < m → Last key x n (last x)

-- record n, the one after all others, was put at the end of the chain of x
pub record Joined (next first last next' first' last' : ℕ → ℕ) (x n : ℕ) : Type 0 where
  pub ends : most_records ≤ next' n
  pub after : last x < n → next' (last x) ≡ n
  pub nexts : (i : ℕ) → i < n → i ≢ last x → next' i ≡ next i
  pub begins : n ≤ last x → first' x ≡ n
  pub goes_on : last x < n → first' x ≡ first x
  pub firsts : (y : ℕ) → y ≢ x → first' y ≡ first y
  pub lastly : last' x ≡ n
  pub lasts : (y : ℕ) → y ≢ x → last' y ≡ last y

-- a place in the chain of x: its start, or the place behind one of its records
abbrev pub Behind : (ℕ → ℕ) → ℕ → ℕ → Type 0
Behind key x zero = Unit {0}
Behind key x (suc j) = key j ≡ x

-- the record from such a place on: the chain's first, or the next of the record before the place
abbrev pub following : (ℕ → ℕ) → (ℕ → ℕ) → ℕ → ℕ → ℕ
following next first x zero = first x
following next first x (suc j) = next j
