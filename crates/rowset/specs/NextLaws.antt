-- Laws of going through the words of a set, up to a row.
use Rattle.std.specs.Prelude.{◌≡◌, refl, Bool, Some, None, true, false, ◌&&◌, List, ℕ, zero, suc, ◌+◌, ◌-◌, ◌*◌, ◌/◌, ◌%◌, ◌^◌, ◌≤◌, ◌<◌, eqb, leb, length, get_or, set}
use Rattle.std.proofs.Common.{sym, ap, ap₂, ◌∙◌, arith, get_or-set_same, get_or-set_other, le-leb, leb-true}
use Rattle.std.proofs.Math.Decide.{ℕ_discrete}
use Rattle.std.specs.Int.Bits.{bit_and}
use Rattle.std.proofs.lemmas.Nat.{and_le_l}
use Rattle.std.proofs.lemmas.Bool.{lt-leb}
use Rattle.concepts.specs.Tests.{and-true}
use Rattle.concepts.specs.RowSet.{mem, common, insert}
use Rattle.concepts.specs.RowSetLaws.{mem-empty}
use Rattle.concepts.specs.Lowest.{Lowest, Above}
use Rattle.rowset.specs.Joined.{joined, Fit, place, word_at, set_at, mask_at, IsNext}
use Rattle.rowset.specs.JoinedLaws.{mem-high, mem-joined, joined-common, joined-insert, joined-true, joined-false, place-row}
use Rattle.rowset.specs.ByteLaws.{AreBytes, word_fits, set_words_lem}

-- every element is a word
abbrev pub Words : List ℕ → Type 0
Words ws = (i : ℕ) → get_or ws i 0 < 2 ^ 64

pub words-set : (ws : List ℕ) → Words ws → (i v : ℕ) → i < length ws → v < 2 ^ 64 → Words (set ws i v)
words-set ws h i v room fits j = elim (ℕ_discrete j i) [
  | yes e ↦ rw e (rw (get_or-set_same ws i v 0 room) fits)
  | no d ↦ rw (get_or-set_other ws i j v 0 d) (h j)
]

-- ---- a row of a mask

pub mask-insert : (ws : List ℕ) → Words ws → (at k n v : ℕ) → k < 64 * n → at + k / 64 < length ws
    → v ≡ insert (k % 64) (get_or ws (at + k / 64) 0)
    → mask_at (set ws (at + k / 64) v) at n ≡ insert k (mask_at ws at n)
unfolding mask_at
mask-insert ws h at k n v l room e =
    let j : ℕ = k / 64 in
    let i : ℕ = k % 64 in
    let q : place 64 j i ≡ k = place-row 64 j i ∙ omega arith in
    joined-insert 64 (λ (m : ℕ). get_or ws (at + m) 0) (λ (m : ℕ). get_or (set ws (at + j) v) (at + m) 0) (λ m. h (at + m)) n j i (omega arith) (omega arith)
    (get_or-set_same ws (at + j) v 0 room ∙ e) (λ m d. get_or-set_other ws (at + j) (at + m) v 0 (λ z. d (omega arith)))
    ∙ ap (λ (x : ℕ). insert x (joined 64 (λ (m : ℕ). get_or ws (at + m) 0) n)) q

-- ---- a test of a mask that goes from word to word

pub mask-none : (ws : List ℕ) (at n : ℕ) → ((j : ℕ) → j < n → get_or ws (at + j) 0 ≡ 0) → eqb (mask_at ws at n) 0 ≡ true
unfolding mask_at
mask-none ws at n e = joined-true 64 (λ (j : ℕ). get_or ws (at + j) 0) n e

pub mask-some : (ws : List ℕ) → Words ws → (at n j : ℕ) → j < n → (get_or ws (at + j) 0 ≡ 0 → ⊥) → eqb (mask_at ws at n) 0 ≡ false
unfolding mask_at
mask-some ws h at n j l d = joined-false 64 (λ (i : ℕ). get_or ws (at + i) 0) (λ i. h (at + i)) n j l d

-- ---- a set and a mask

abbrev pub picked : List ℕ → ℕ → List ℕ → ℕ → ℕ → ℕ
picked b at ws mask j = bit_and (word_at b at j) (get_or ws (mask + j) 0)

pub picked_fits : (b : List ℕ) (at : ℕ) (ws : List ℕ) (mask : ℕ) → AreBytes b → Fit 64 (picked b at ws mask)
picked_fits b at ws mask h j = omega (arith, word_fits b h at j, and_le_l (word_at b at j) (get_or ws (mask + j) 0))

pub picked_all : (b : List ℕ) (at : ℕ) (ws : List ℕ) (mask n : ℕ) → AreBytes b → Words ws
    → joined 64 (picked b at ws mask) n ≡ common (set_at b at n) (mask_at ws mask n)
unfolding mask_at common
picked_all b at ws mask n h w =
    joined-common 64 (word_at b at) (λ (j : ℕ). get_or ws (mask + j) 0) (picked b at ws mask) (word_fits b h at) (λ j. w (mask + j))
    (picked_fits b at ws mask h)
    (λ j. refl) n
    ∙ ap (λ (x : ℕ). common x (mask_at ws mask n)) (sym (set_words_lem b n at))

-- ---- from word to word

module _ (f : ℕ → ℕ) (fits : Fit 64 f) (n from : ℕ) where
  pub row_of : (j i : ℕ) → j < n → i < 64 → mem (64 * j + i) (joined 64 f n) ≡ mem i (f j)
  row_of j i l b = ap (λ (x : ℕ). mem x (joined 64 f n)) (sym (place-row 64 j i)) ∙ mem-joined 64 f fits n j i l b

-- no row is beyond the words
pub joined-beyond : (n : ℕ) (f : ℕ → ℕ) → Fit 64 f → (k : ℕ) → 64 * n ≤ k → mem k (joined 64 f n) ≡ false
unfolding joined
joined-beyond zero f fits k l = mem-empty k
joined-beyond (suc n) f fits k l =
    let e : k ≡ 64 + (k - 64) = omega arith in
    ap (λ (x : ℕ). mem x (joined 64 (λ (j : ℕ). f (suc j)) n * 2 ^ 64 + f 0)) e
    ∙ mem-high 64 (k - 64) (joined 64 (λ (j : ℕ). f (suc j)) n) (f 0) (fits 0)
    ∙ joined-beyond n (λ (j : ℕ). f (suc j)) (λ j. fits (suc j)) (k - 64) (omega arith)

-- the words before word j have no row from the row on, and m has those of word j
pub record Passed (f : ℕ → ℕ) (n from j m : ℕ) : Type 0 where
  pub none : (k : ℕ) → from ≤ k → k < 64 * j → mem k (joined 64 f n) ≡ false
  pub rows : (i : ℕ) → i < 64 → mem i m ≡ (leb from (64 * j + i) && mem (64 * j + i) (joined 64 f n))

module _ (f : ℕ → ℕ) (fits : Fit 64 f) (n from : ℕ) where
  pub pass-start : (m : ℕ) → from / 64 < n → Above (f (from / 64)) (from % 64) m → Passed f n from (from / 64) m
  pass-start m l above = record {
    none = λ k a b. absurd (omega arith);
    rows = λ i b. above.rows i ∙ ap₂ (λ x y. x && y) (reached i) (sym (row_of f fits n from (from / 64) i l b));
  }
    where
      reached : (i : ℕ) → leb (from % 64) i ≡ leb from (64 * (from / 64) + i)
      reached i = elim (ℕ_discrete (from % 64 - i) 0) [
        | yes e ↦ le-leb (from % 64) i (omega arith) ∙ sym (le-leb from (64 * (from / 64) + i) (omega arith))
        | no d ↦ lt-leb (from % 64) i (omega arith) ∙ sym (lt-leb from (64 * (from / 64) + i) (omega arith))
      ]

  -- a word without such rows
  pub pass-none : (j m : ℕ) → m ≡ 0 → Passed f n from j m → (k : ℕ) → from ≤ k → k < 64 * j + 64 → mem k (joined 64 f n) ≡ false
  pass-none j m z p k a b = elim (ℕ_discrete (suc k - 64 * j) 0) [
    | yes e ↦ p.none k a (omega arith)
    | no d ↦
        let i : ℕ = k - 64 * j in
        let e : 64 * j + i ≡ k = omega arith in
        ap (λ (x : Bool). x && mem k (joined 64 f n)) (sym (le-leb from k a))
        ∙ ap (λ (x : ℕ). leb from x && mem x (joined 64 f n)) (sym e) ∙ sym (p.rows i (omega arith)) ∙ ap (mem i) z ∙ mem-empty i
  ]

  -- a word after that of the row
  pub pass-word : (j : ℕ) → j < n → from ≤ 64 * j → ((k : ℕ) → from ≤ k → k < 64 * j → mem k (joined 64 f n) ≡ false) → Passed f n from j (f j)
  pass-word j l a none = record {
    none = none;
    rows = λ i b.
        sym (row_of f fits n from j i l b) ∙ ap (λ (x : Bool). x && mem (64 * j + i) (joined 64 f n)) (sym (le-leb from (64 * j + i) (omega arith)));
  }

  -- all words
  pub pass-all : (j : ℕ) → n ≤ j → ((k : ℕ) → from ≤ k → k < 64 * j → mem k (joined 64 f n) ≡ false) → IsNext (joined 64 f n) from None
  pass-all j l none k a = elim (ℕ_discrete (suc k - 64 * j) 0) [
    | yes e ↦ none k a (omega arith)
    | no d ↦ joined-beyond n f fits k (omega arith)
  ]

  pub pass-found : (j m t : ℕ) → Passed f n from j m → Lowest m t → t < 64 → IsNext (joined 64 f n) from (Some (64 * j + t))
  pass-found j m t p low b =
      let k : ℕ = 64 * j + t in
      let both = and-true (leb from k) (mem k (joined 64 f n)) (sym (p.rows t b) ∙ low.member) in (
        both.1,
        leb-true from k both.0,
        λ i a c. elim (ℕ_discrete (suc i - 64 * j) 0) [
          | yes e ↦ p.none i a (omega arith)
          | no d ↦
              let q : ℕ = i - 64 * j in
              let e : 64 * j + q ≡ i = omega arith in
              ap (λ (x : Bool). x && mem i (joined 64 f n)) (sym (le-leb from i a))
              ∙ ap (λ (x : ℕ). leb from x && mem x (joined 64 f n)) (sym e) ∙ sym (p.rows q (omega arith)) ∙ low.least q (omega arith)
        ],
      )
