-- What the functions that put rows ask and give. Laws are in PutCases and ListCases.
--
-- In order: a draft; places that are remembered; what is written; a row that is shared; a row with all that it needs; a list of rows; the inclusions.
use Rattle.std.specs.Prelude.{◌≡◌, ℕ, ◌≤◌, ◌<◌, length, get_or, take, replicate, Option, None, Some, Result, Ok, Err, OnErr}
use mathlib.Core.List.{List, Memᴰ}
use Rattle.concepts.specs.Lists.{Bytes}
use Rattle.concepts.specs.Begins.{Begins}
use Rattle.concepts.specs.Concept.{Table, NoInclusion}
use Rattle.decoding.specs.Decoding.{draft_kinds}
use Rattle.rulefile.specs.Format.{row_count, wanted_rows, most_rows}
use Rattle.rulefile.specs.Checks.{PassedAll}
use Rattle.drafts.specs.Normalize as Normalize
use Rattle.drafts.specs.Normalize.{Sign, stands, share, put, PutList, put_list, inclusion_rows}
use Rattle.normalize.specs.declared.TooLarge.{TooLarge}
use Rattle.normalize.specs.declared.Written.{Written}
use Rattle.normalize.specs.Words.{Own, row_in, rows_in, Held}
use Rattle.normalize.specs.Shapes.{table_of, slots, slot_of}

-- ---- a draft that passed all checks

pub record Draft (b : Bytes) : Type 0 where
  pub passed : PassedAll draft_kinds (wanted_rows b) b

-- ---- places that are remembered

-- in every table that has these rows, row k or its opposite is found at this place
abbrev pub Settled : Bytes → Sign → ℕ → Table → ℕ → Type 0
Settled b s k out place = (u : Table) → Begins out u → put (table_of b) s k u ≡ stands u place

pub record Remembers (b : Bytes) (out : Table) (memo : List (Option ℕ)) : Type 0 where
  pub size : length memo ≡ slots
  pub settled : (k : ℕ) (s : Sign) (place : ℕ) → k < row_count b → get_or memo (slot_of k s) None ≡ Some place → Settled b s k out place

-- ---- what is written

-- the rows that are written
abbrev pub rows_of : Written → Table
rows_of w = rows_in w.words w.count

-- ---- a row that is shared

pub record ShareAsks (w : Written) (word : ℕ) : Type 0 where
  pub held : Held w.words w.count
  pub own : Own word

-- the words hold the rows that are written, and the row stands at this place
pub record Stands (p : Normalize.Put) (w : Written) (place : ℕ) : Type 0 where
  pub held : Held w.words w.count
  pub rows : rows_of w ≡ p.rows
  pub at : place ≡ p.at

-- or there are more rows than a file can have
abbrev pub Gives : Normalize.Put → Written → Result ℕ TooLarge → Type 0
Gives p w (Ok place) = Stands p w place
Gives p w (Err e) = most_rows < length p.rows

pub record SharesRow (w : Written) (word : ℕ) (w' : Written) (r : Result ℕ TooLarge) : Type 0 where
  pub size : length w'.words ≡ length w.words
  pub memo_is : w'.memo ≡ w.memo
  pub gives : Gives (share (row_in word) (rows_of w)) w' r

-- ---- a row with all that it needs

pub record PutAsks (b : Bytes) (w : Written) (k : ℕ) : Type 0 where
  pub draft : Draft b
  pub row : k < row_count b
  pub idle : NoInclusion (table_of b) k
  pub held : Held w.words w.count
  pub remembered : Remembers b (rows_of w) w.memo

-- what is remembered holds of the rows that are written then
abbrev pub Still : Bytes → Written → Result ℕ TooLarge → Type 0
Still b w (Ok place) = Remembers b (rows_of w) w.memo
Still b w (Err e) = Unit {0}

pub record PutGives (b : Bytes) (w : Written) (k : ℕ) (s : Sign) (w' : Written) (r : Result ℕ TooLarge) : Type 0 where
  pub memo_size : length w'.memo ≡ slots
  pub size : length w'.words ≡ most_rows
  pub gives : Gives (put (table_of b) s k (rows_of w)) w' r
  pub still : Still b w' r

-- ---- a list of rows

pub record ListAsks (b list : List ℕ) (w : Written) (places : List ℕ) : Type 0 where
  pub draft : Draft b
  pub listed : (k : ℕ) → Memᴰ k list → k < row_count b
  pub idle : (k : ℕ) → Memᴰ k list → NoInclusion (table_of b) k
  pub held : Held w.words w.count
  pub remembered : Remembers b (rows_of w) w.memo
  pub room : length list ≤ length places

pub record ListStands (b : Bytes) (q : PutList) (count : ℕ) (w : Written) (places : List ℕ) : Type 0 where
  pub held : Held w.words w.count
  pub remembered : Remembers b (rows_of w) w.memo
  pub rows : rows_of w ≡ q.rows
  pub told : take count places ≡ q.places

abbrev pub ListGot : Bytes → PutList → ℕ → Written → List ℕ → Result (Unit {0}) TooLarge → Type 0
ListGot b q count w places (Ok u) = ListStands b q count w places
ListGot b q count w places (Err e) = most_rows < length q.rows

pub record ListGives (b list : List ℕ) (w w' : Written) (places places' : List ℕ) (r : Result (Unit {0}) TooLarge) : Type 0 where
  pub memo_size : length w'.memo ≡ slots
  pub size : length w'.words ≡ most_rows
  pub place_size : length places' ≡ length places
  pub got : ListGot b (put_list (table_of b) list (rows_of w)) (length list) w' places' r
  -- after a refusal the count is as it was
  pub kept : OnErr r (w'.count ≡ w.count)

-- ---- the inclusions

-- what is written at first
abbrev pub nothing_written : Written
nothing_written = record { words = replicate most_rows 0; count = 0; memo = replicate slots None }

pub record KeepAsks (b : Bytes) (count : ℕ) (w : Written) : Type 0 where
  pub draft : Draft b
  pub rows : count ≡ row_count b
  pub size : length w.words ≡ most_rows

-- the words hold those among the first k rows
pub record Kept (b : Bytes) (k : ℕ) (w : Written) : Type 0 where
  pub draft : Draft b
  pub within : k ≤ row_count b
  pub few : w.count ≤ k
  pub held : Held w.words w.count
  pub rows : rows_of w ≡ inclusion_rows (take k (table_of b))

-- the words hold those of the draft, and the same places are remembered
pub record KeepGives (b : Bytes) (w w' : Written) : Type 0 where
  pub held : Held w'.words w'.count
  pub rows : rows_of w' ≡ inclusion_rows (table_of b)
  pub memo_is : w'.memo ≡ w.memo
