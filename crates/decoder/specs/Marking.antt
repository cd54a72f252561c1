-- Masks by their numbers, the rules, the wanted rows, the kinds, the role codes; a row that joins a mask, and a list of rows that is written as one.
--
-- A mask's place is that of its first word, and row k is in word k / 64 of it. Laws are in MarkingLaws.
use Rattle.std.specs.Prelude.{◌≡◌, List, ℕ, ◌+◌, ◌*◌, ◌/◌, ◌%◌, get_or, set}
use Rattle.concepts.specs.RowSet.{insert, from_list}
use Rattle.words.specs.Sizes.{set_words}
use Rattle.rowset.specs.Joined.{mask_at}
use Rattle.problem.specs.Layout.{rules_at}
use Rattle.decoder.specs.Remade.{Beside}

-- ---- masks by number

-- how many there are
abbrev pub masks : ℕ
masks = 42

abbrev pub kind_mask : ℕ → ℕ
kind_mask kind = 2 + kind

abbrev pub role_mask : ℕ → ℕ
role_mask ρ = 10 + ρ

abbrev pub mask_place : ℕ → ℕ
mask_place i = rules_at + set_words * i

-- ---- rows in a mask

-- row k joins the mask at a place
abbrev pub mark : List ℕ → ℕ → ℕ → List ℕ
mark w at k = set w (at + k / 64) (insert (k % 64) (get_or w (at + k / 64) 0))

-- the rows of a list are written as the mask of n words at a place, and no other word differs
pub record PutsList (at n : ℕ) (list w w' : List ℕ) : Type 0 where
  pub beside : Beside at n w w'
  pub rows : mask_at w' at n ≡ from_list list
