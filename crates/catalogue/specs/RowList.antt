-- The places of rows one after another, at most 64: those behind the rows are 0.
--
-- In order: such places; the list of the rows, which gives them back; a row more.
use Rattle.std.specs.Prelude.{◌≡◌, ℕ, ◌+◌, ◌-◌, ◌≤◌, ◌<◌, List, ◌++◌, length, take, drop, set, replicate}
use Rattle.std.proofs.Common.{ap, sym, ◌∙◌, arith, drop-drop, length-set}
use Rattle.std.proofs.lemmas.List.{length-take-le, take-append-drop, drop-set-lt, drop-replicate}

-- 64 places, of which those from this one on are 0
pub record ZeroesFrom (count : ℕ) (rows : List ℕ) : Type 0 where
  pub within : count ≤ 64
  pub all : length rows ≡ 64
  pub zeroes : drop count rows ≡ replicate (64 - count) 0

module _ {count : ℕ} {rows : List ℕ} (Z : ZeroesFrom count rows) where
  pub list_length : length (take count rows) ≡ count
  list_length = length-take-le count rows (omega (arith, Z.within, Z.all))

  pub list_filled : take count rows ++ replicate (64 - length (take count rows)) 0 ≡ rows
  list_filled =
      ap (λ (n : ℕ). take count rows ++ replicate (64 - n) 0) list_length
      ∙ ap (λ (xs : List ℕ). take count rows ++ xs) (sym Z.zeroes) ∙ take-append-drop count rows

  -- a row more, in no place behind the next
  pub zeroes_next : length (take count rows) < 64 → (at row : ℕ) → at ≤ count → ZeroesFrom (count + 1) (set rows at row)
  zeroes_next more at row h = record {
    within = omega (arith, list_length);
    all = length-set rows at row ∙ Z.all;
    zeroes =
        drop-set-lt (count + 1) rows at row (omega (arith, h)) ∙ sym (drop-drop 1 count rows) ∙ ap (drop 1) Z.zeroes
        ∙ drop-replicate 1 (64 - count) 0 ∙ ap (λ (n : ℕ). replicate n 0) left;
  }
    where
      left : 64 - count - 1 ≡ 64 - (count + 1)
      left = omega arith
