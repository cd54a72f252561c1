-- What decoding writes, and what the words hold in between.
--
-- In order: a row's four bytes as one word; the two masks that a row is marked in; all of one row; the counts; empty words;
-- the words after some rows (`Partly`), and after all that is written of them (`Placed`). Laws are in WritingLaws.
use Rattle.std.specs.Prelude.{◌≡◌, Bool, ◌&&◌, ◌||◌, cond, List, ℕ, ◌+◌, ◌*◌, ◌/◌, ◌≤◌, ◌<◌, eqb, ltb, length, get_or, set}
use Rattle.concepts.specs.RowSet.{mem, from_list}
use Rattle.problem.specs.Rows.{row_byte, table_in}
use Rattle.problem.specs.Layout.{count_at, used_at, kinds_at, rows_at, narrows_at, room, kind_place}
use Rattle.problem.specs.Decoded.{mask_of, table_of, rules_of, wanted_of, RowsDecoded, Reaching}
use Rattle.decoder.specs.Marking.{masks, kind_mask, role_mask, mask_place, mark}

abbrev pub pack : ℕ → ℕ → ℕ → ℕ → ℕ
pack kind role left right = kind + role * 256 + left * 65536 + right * 16777216

abbrev pub packed : List ℕ → ℕ → ℕ
packed b k = pack (row_byte b k 0) (row_byte b k 1) (row_byte b k 2) (row_byte b k 3)

-- a row is marked in the mask of its kind; then, if it is universal, in that of its role, and else in that of its kind again
unfoldable pub along : ℕ → ℕ → ℕ
along kind role = cond (eqb kind 5) (role_mask role) (kind_mask kind)

-- whether a row is marked in mask i
unfoldable pub marked : ℕ → ℕ → ℕ → Bool
marked kind role i = eqb i (kind_mask kind) || eqb i (along kind role)

-- what is written for row k
unfoldable pub put_row : List ℕ → ℕ → List ℕ → List ℕ
put_row b k w = mark (mark (set w (rows_at + k) (packed b k)) (kind_place (row_byte b k 0)) k) (mask_place (along (row_byte b k 0) (row_byte b k 1))) k

-- how many words n rows take
abbrev pub words_for : ℕ → ℕ
words_for n = (n + 63) / 64

-- the number of rows, and of the words in use
abbrev pub put_counts : ℕ → List ℕ → List ℕ
put_counts n w = set (set w count_at n) used_at (words_for n)

-- words to write a problem into: enough of them, and those up to the last mask are empty
pub record EmptyWords (w : List ℕ) : Type 0 where
  pub enough : room ≤ length w
  pub cleared : (i : ℕ) → i < narrows_at → get_or w i 0 ≡ 0

-- the words hold the first n rows; those before the kinds, of the counts, the rules and the wanted rows, are not written yet
pub record Partly (b : List ℕ) (n : ℕ) (w : List ℕ) : Type 0 where
  pub enough : room ≤ length w
  pub unwritten : (i : ℕ) → i < kinds_at → get_or w i 0 ≡ 0
  pub rows : (k : ℕ) → k < n → get_or w (rows_at + k) 0 ≡ packed b k
  pub marks : (i : ℕ) → i < masks → (k : ℕ) → mem k (mask_of w (mask_place i)) ≡ (ltb k n && marked (row_byte b k 0) (row_byte b k 1) i)

-- the words after all rows, the counts, the rules and the wanted rows: an "all" row reaches along its own role so far
pub record Placed (b tbox wanted w : List ℕ) : Type 0 where
  pub rows : RowsDecoded w
  pub universals : Reaching (table_of w) eqb w
  pub table_is : table_of w ≡ table_in b
  pub rules-are : rules_of w ≡ from_list tbox
  pub wanted-are : wanted_of w ≡ from_list wanted
