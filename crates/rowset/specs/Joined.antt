-- A number in n words of p bits each, the lowest word first (`joined`), and sets of rows in n words of bytes and of words. Laws are in JoinedLaws and ByteLaws.
use Rattle.std.specs.Prelude.{◌≡◌, Bool, true, false, ◌&&◌, ◌||◌, cond, Option, Some, None, List, ℕ, zero, suc, ◌+◌, ◌*◌, ◌^◌, ◌≤◌, ◌<◌, length, get_or}
use Rattle.concepts.specs.RowSet.{RowSet, mem, insert}
use Rattle.words.specs.Words.{le_at, put_le}

unfoldable pub joined : ℕ → (ℕ → ℕ) → ℕ → ℕ
joined p f zero = 0
joined p f (suc n) = joined p (λ (j : ℕ). f (suc j)) n * 2 ^ p + f 0

-- each word fits
abbrev pub Fit : ℕ → (ℕ → ℕ) → Type 0
Fit p f = (j : ℕ) → f j < 2 ^ p

-- row i of word j
unfoldable pub place : ℕ → ℕ → ℕ → ℕ
place p zero i = i
place p (suc j) i = p + place p j i

-- word j of a set whose rows are those of one word, the lowest
abbrev pub low_word : ℕ → ℕ → ℕ
low_word w zero = w
low_word w (suc j) = 0

-- word j of the bytes from place at on
abbrev pub word_at : List ℕ → ℕ → ℕ → ℕ
word_at b at j = le_at b (at + 8 * j) 8

-- the set in n words, row k as bit k: in the bytes from place at on, low byte first, and in the words from place at on
abbrev pub set_at : List ℕ → ℕ → ℕ → ℕ
set_at b at n = le_at b at (8 * n)

unfoldable pub mask_at : List ℕ → ℕ → ℕ → ℕ
mask_at ws at n = joined 64 (λ (j : ℕ). get_or ws (at + j) 0) n

-- the bytes with n words written from place at on
unfoldable pub put_words : List ℕ → ℕ → (ℕ → ℕ) → ℕ → List ℕ
put_words b at f zero = b
put_words b at f (suc n) = put_words (put_le b at 8 (f 0)) (at + 8) (λ (j : ℕ). f (suc j)) n

-- of n words that are to be written over those of b, the first j are
pub record WordsPut (f : ℕ → ℕ) (b : List ℕ) (at n : ℕ) (c : List ℕ) (j : ℕ) : Type 0 where
  pub few : j ≤ n
  pub size : length c ≡ length b
  pub is : c ≡ put_words b at f j

-- n words from place at on are written over, each with one that R gives for its number and the word that stood there
pub record WordsMade (R : ℕ → ℕ → ℕ → Type 0) (b : List ℕ) (at n : ℕ) (c : List ℕ) : Type 0 where
  pub made : ℕ → ℕ
  pub each : (j : ℕ) → j < n → R j (word_at b at j) (made j)
  pub is : c ≡ put_words b at made n

-- of those, the first j are written, over what was in b
pub record WordsMaking (R : ℕ → ℕ → ℕ → Type 0) (b : List ℕ) (at n : ℕ) (c : List ℕ) (j : ℕ) : Type 0 where
  pub made : ℕ → ℕ
  pub each : (i : ℕ) → i < j → R i (word_at b at i) (made i)
  pub put : WordsPut made b at n c j

-- "both" of two rows, or "either"
unfoldable pub junction : Bool → ℕ → ℕ → RowSet → Bool
junction both left right s = cond both (mem left s && mem right s) (mem left s || mem right s)

-- ---- what contracts say of a set at a place, for any number of words

-- whether row k is in it
abbrev pub Tells : List ℕ → ℕ → ℕ → Bool → Type 0
Tells b at k r = (n : ℕ) → k < 64 * n → r ≡ mem k (set_at b at n)

-- whether both of two rows are in it, or one of them
abbrev pub TellsTwo : List ℕ → ℕ → Bool → ℕ → ℕ → Bool → Type 0
TellsTwo b at both left right r = (n : ℕ) → left < 64 * n → right < 64 * n → r ≡ junction both left right (set_at b at n)

-- it is as it was in b, with row k
abbrev pub Inserted : List ℕ → ℕ → ℕ → List ℕ → Type 0
Inserted b at k c = (n : ℕ) → k < 64 * n → set_at c at n ≡ insert k (set_at b at n)

-- the mask is as it was in ws, with row k
abbrev pub Marked : List ℕ → ℕ → ℕ → List ℕ → Type 0
Marked ws at k vs = (n : ℕ) → k < 64 * n → mask_at vs at n ≡ insert k (mask_at ws at n)

-- the first row of the set from a row on, or none
abbrev pub IsNext : RowSet → ℕ → Option ℕ → Type 0
IsNext s from (Some k) = (mem k s ≡ true) × (from ≤ k) × ((j : ℕ) → from ≤ j → j < k → mem j s ≡ false)
IsNext s from None = (j : ℕ) → from ≤ j → mem j s ≡ false
