-- Loops over the rows that a set and a mask of a decoded problem have in common: from word to word, as far as words are in use, and in a word from the lowest
-- row up.
--
-- In order: what such a loop reads (`Reading`) and its state (`Loop`); how it begins, passes a word, ends; its next row (`NextRow`), and its state after it.
use Rattle.std.specs.Prelude.{◌≡◌, Bool, true, List, ℕ, ◌+◌, ◌*◌, ◌≤◌, ◌<◌, length}
use Rattle.std.proofs.Common.{sym, ap, subst, ◌∙◌, arith}
use Rattle.concepts.specs.Concept.{Concept, concept_at}
use Rattle.concepts.specs.RowSet.{RowSet, mem, empty, common, minus, single}
use Rattle.concepts.specs.Lowest.{Lowest}
use Rattle.words.specs.Sizes.{set_size}
use Rattle.rowset.specs.Joined.{joined, Fit}
use Rattle.rowset.specs.declared.Bits.{Bits}
use Rattle.rowset.specs.Bits.{TakesLowest}
use Rattle.rowset.specs.ByteLaws.{AreBytes}
use Rattle.rowset.specs.NextLaws.{Words, picked, picked_fits, picked_all}
use Rattle.rowset.specs.Pending.{left}
use Rattle.rowset.specs.WordLoops.{Midway, midway-begins, midway-passes, midway-ends, midway-also, row_at, lowest-of-word}
use Rattle.rowset.specs.SetOf.{set_of}
use Rattle.problem.specs.Decoded.{count_of, used_of, table_of, mask_of, Mask, Decoded}
use Rattle.problem.specs.DecodedLaws.{length-table_of}
use Rattle.settests.specs.Masks.{common-row, mask-in-use}

-- a decoded problem with a mask of the rows that pass, and a set
pub record Reading (w : List ℕ) (p : Concept → Bool) (mask : ℕ) (b : List ℕ) (at : ℕ) : Type 0 where
  pub decoded : Decoded w
  pub masking : Mask w p mask
  pub words : Words w
  pub bytes : AreBytes b
  pub room : at + set_size ≤ length b

-- word j of their rows
abbrev pub common_word : List ℕ → ℕ → List ℕ → ℕ → ℕ → ℕ
common_word w mask b at = picked b at w mask

-- the rows that are left, m of word j and the words after
abbrev pub left_over : List ℕ → ℕ → List ℕ → ℕ → ℕ → ℕ → RowSet
left_over w mask b at j m = left 64 (common_word w mask b at) j m (used_of w)

-- P holds of them
pub record Loop (w : List ℕ) (p : Concept → Bool) (mask : ℕ) (b : List ℕ) (at : ℕ) (P : RowSet → Type 0) (j m : ℕ) : Type 0 where
  pub reading : Reading w p mask b at
  pub midway : Midway (common_word w mask b at) (used_of w) P j m

module _ {w : List ℕ} {p : Concept → Bool} {mask : ℕ} {b : List ℕ} {at : ℕ} where
  -- all rows, by words
  module _ (r : Reading w p mask b at) where
    fits : Fit 64 (common_word w mask b at)
    fits = picked_fits b at w mask r.bytes

    all : joined 64 (common_word w mask b at) (used_of w) ≡ common (set_of b at) (mask_of w mask)
    all = picked_all b at w mask (used_of w) r.bytes r.words ∙ mask-in-use r.masking r.decoded r.words b r.bytes at

  module _ {P : RowSet → Type 0} where
    pub loop-begins : Reading w p mask b at → P (common (set_of b at) (mask_of w mask)) → Loop w p mask b at P 0 (common_word w mask b at 0)
    loop-begins r h = record { reading = r; midway = midway-begins (fits r) (subst P (sym (all r)) h) }

    module _ {j m : ℕ} (l : Loop w p mask b at P j m) where
      pub loop-passes : m ≡ 0 → Loop w p mask b at P (j + 1) (common_word w mask b at (j + 1))
      loop-passes z = record { reading = l.reading; midway = midway-passes (fits l.reading) j m z l.midway }

      pub loop-ends : used_of w ≤ j → P empty
      loop-ends h = midway-ends (fits l.reading) j m h l.midway

      -- what else holds of the rows that are left
      pub loop-also : {Q : RowSet → Type 0} → Q (left_over w mask b at j m) → Loop w p mask b at Q j m
      loop-also h = record { reading = l.reading; midway = midway-also l.midway h }

    -- the next row, which is the lowest of them, and the rows without it
    module _ {j : ℕ} {bits : Bits} (l : Loop w p mask b at P j bits.rest) where
      pub record NextRow (i : ℕ) (after : Bits) : Type 0 where
        pub low : Lowest (left_over w mask b at j bits.rest) (64 * j + i)
        pub below : 64 * j + i < count_of w
        pub inside : 64 * j + i < length (table_of w)
        pub passes : p (concept_at (table_of w) (64 * j + i)) ≡ true
        pub rest : Midway (common_word w mask b at) (used_of w) (λ x. x ≡ minus (left_over w mask b at j bits.rest) (single (64 * j + i))) j after.rest

      pub next_row : {i : ℕ} {after : Bits} → j < used_of w → TakesLowest bits i after → NextRow i after
      next_row {i} {after} h takes =
          let row = lowest-of-word (fits l.reading) j bits.rest h takes.some l.midway in
          let (below, passes) = common-row l.reading.masking (set_of b at) (row_at j bits.rest) (ap (mem (row_at j bits.rest)) (sym (all l.reading)) ∙ row.whole) in
          rw (takes.is, takes.left) (record {
            low = row.low;
            below = below;
            inside = omega (arith, length-table_of w, below);
            passes = passes;
            rest = row.after;
          })

      -- what holds of the rows without it holds of those that are left then
      pub loop-after : {i : ℕ} {after : Bits} → NextRow i after → {Q : RowSet → Type 0} → Q (minus (left_over w mask b at j bits.rest) (single (64 * j + i)))
          → Loop w p mask b at Q j after.rest
      loop-after row {Q} h = record { reading = l.reading; midway = midway-also row.rest (subst Q (sym row.rest.holds) h) }
