-- The words in use: where a mask has no row beyond m words, the rows that a set and the mask have in common are those of m words, and the mask's words
-- after them are empty.
use Rattle.std.specs.Prelude.{◌≡◌, Bool, false, ◌&&◌, List, ℕ, suc, ◌+◌, ◌-◌, ◌*◌, ◌/◌, ◌%◌, ◌≤◌, ◌<◌, get_or}
use Rattle.std.proofs.Common.{sym, ap, ap₂, ◌∙◌, arith}
use Rattle.std.proofs.Math.Decide.{ℕ_discrete}
use Rattle.std.proofs.Math.Dec.{not_T}
use Rattle.concepts.specs.Tests.{and-nothing, as-false}
use Rattle.concepts.specs.RowSet.{mem, common}
use Rattle.concepts.specs.RowSetLaws.{mem-common, mem-empty, mem-lt, set-ext}
use Rattle.rowset.specs.Joined.{joined, Fit, word_at, set_at, mask_at}
use Rattle.rowset.specs.JoinedLaws.{joined-in-use}
use Rattle.rowset.specs.ByteLaws.{AreBytes, word_fits, set_words_lem}
use Rattle.rowset.specs.NextLaws.{Words, row_of, joined-beyond}

-- a row of the first m words, of n
row_within : (f : ℕ → ℕ) → Fit 64 f → (m n k : ℕ) → m ≤ n → k < 64 * m → mem k (joined 64 f m) ≡ mem k (joined 64 f n)
row_within f fits m n k l h =
    let e : 64 * (k / 64) + k % 64 ≡ k = omega arith in
    let at : (n : ℕ) → m ≤ n → mem k (joined 64 f n) ≡ mem (k % 64) (f (k / 64)) =
    λ n l. ap (λ (x : ℕ). mem x (joined 64 f n)) (sym e) ∙ row_of f fits n 0 (k / 64) (k % 64) (omega arith) (omega arith) in
    at m (omega arith) ∙ sym (at n l)

pub common-in-use : (f g : ℕ → ℕ) → Fit 64 f → Fit 64 g → (m n : ℕ) → m ≤ n
    → ((k : ℕ) → 64 * m ≤ k → mem k (joined 64 g n) ≡ false)
    → common (joined 64 f m) (joined 64 g m) ≡ common (joined 64 f n) (joined 64 g n)
common-in-use f g ff gf m n l none = set-ext (common (joined 64 f m) (joined 64 g m)) (common (joined 64 f n) (joined 64 g n)) (λ k.
    mem-common k (joined 64 f m) (joined 64 g m) ∙ rows k ∙ sym (mem-common k (joined 64 f n) (joined 64 g n)))
  where
    rows : (k : ℕ) → (mem k (joined 64 f m) && mem k (joined 64 g m)) ≡ (mem k (joined 64 f n) && mem k (joined 64 g n))
    rows k = elim (ℕ_discrete (suc k - 64 * m) 0) [
      | yes e ↦ ap₂ (λ (x y : Bool). x && y) (row_within f ff m n k l (omega arith)) (row_within g gf m n k l (omega arith))
      | no d ↦
          ap (λ (x : Bool). mem k (joined 64 f m) && x) (joined-beyond m g gf k (omega arith)) ∙ and-nothing (mem k (joined 64 f m))
          ∙ sym (ap (λ (x : Bool). mem k (joined 64 f n) && x) (none k (omega arith)) ∙ and-nothing (mem k (joined 64 f n)))
    ]

pub set-in-use : (b : List ℕ) → AreBytes b → (ws : List ℕ) → Words ws → (at mask m n : ℕ) → m ≤ n
    → ((k : ℕ) → 64 * m ≤ k → mem k (mask_at ws mask n) ≡ false)
    → common (set_at b at m) (mask_at ws mask m) ≡ common (set_at b at n) (mask_at ws mask n)
unfolding mask_at
set-in-use b hb ws hw at mask m n l none =
    rw (set_words_lem b m at, set_words_lem b n at) (common-in-use (word_at b at) (λ (j : ℕ). get_or ws (mask + j) 0) (word_fits b hb at)
    (λ j. hw (mask + j)) m n l none)

-- a word after them
pub mask-beyond : (ws : List ℕ) → Words ws → (at m n : ℕ) → ((k : ℕ) → 64 * m ≤ k → mem k (mask_at ws at n) ≡ false)
    → (j : ℕ) → m ≤ j → j < n → get_or ws (at + j) 0 ≡ 0
unfolding mask_at
mask-beyond ws hw at m n none j l h =
    let x : ℕ = get_or ws (at + j) 0 in
    set-ext x 0 (λ i. elim (ℕ_discrete (suc i - 64) 0) [
      | yes e ↦ sym (row_of (λ (i : ℕ). get_or ws (at + i) 0) (λ i. hw (at + i)) n 0 j i h (omega arith)) ∙ none (64 * j + i) (omega arith)
          ∙ sym (mem-empty i)
      | no d ↦ as-false (mem i x) (not_T (mem i x) (λ t. omega (arith, mem-lt 64 i x (hw (at + j)) t))) ∙ sym (mem-empty i)
    ])

-- and then m words are all
pub mask-in-use : (ws : List ℕ) (at m n : ℕ) → m ≤ n → ((j : ℕ) → m ≤ j → j < n → get_or ws (at + j) 0 ≡ 0)
    → mask_at ws at n ≡ mask_at ws at m
unfolding mask_at
mask-in-use ws at m n l none = joined-in-use 64 (λ (j : ℕ). get_or ws (at + j) 0) m n l none
