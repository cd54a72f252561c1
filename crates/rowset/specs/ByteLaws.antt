-- Laws of sets in the bytes and in the words of a slice, for any number of words.
use Rattle.std.specs.Prelude.{◌≡◌, refl, true, false, List, ℕ, zero, suc, ◌+◌, ◌-◌, ◌*◌, ◌/◌, ◌%◌, ◌^◌, ◌≤◌, ◌<◌, eqb, length, get_or, replicate}
use Rattle.std.proofs.Common.{sym, ap, ap₂, ◌∙◌, pow-suc, arith, eq-eqb, ne_eqb}
use Rattle.std.proofs.Math.Decide.{ℕ_discrete}
use Rattle.concepts.specs.RowSet.{mem, insert, empty}
use Rattle.words.specs.Words.{le_at, put_le}
use Rattle.words.specs.WordLaws.{le_at-add, le_at-same, le_at-put_le, below-put_le, above-put_le}
use Rattle.words.specs.Sizes.{set_size}
use Rattle.rowset.specs.SetOf.{set_of}
use Rattle.rowset.specs.Joined.{joined, Fit, place, word_at, set_at}
use Rattle.rowset.specs.JoinedLaws.{mem-joined, joined_same, joined-apart, joined-insert, place-row}

-- every element is a byte
abbrev pub AreBytes : List ℕ → Type 0
AreBytes b = (i : ℕ) → get_or b i 0 < 256

pub le_at-lt : (b : List ℕ) → AreBytes b → (at n : ℕ) → le_at b at n < 256 ^ n
unfolding le_at
le_at-lt b h at zero = omega arith
le_at-lt b h at (suc n) = omega (arith, h at, le_at-lt b h (suc at) n, pow-suc 256 n)

pub word_fits : (b : List ℕ) → AreBytes b → (at : ℕ) → Fit 64 (word_at b at)
word_fits b h at j = omega (arith, le_at-lt b h (at + 8 * j) 8)

-- a number of 8 * n bytes is n words
pub set_words_lem : (b : List ℕ) (n at : ℕ) → set_at b at n ≡ joined 64 (word_at b at) n
unfolding joined le_at
set_words_lem b zero at = refl
set_words_lem b (suc n) at =
    let e : 8 * suc n ≡ 8 + 8 * n = omega arith in
    let f : joined 64 (λ (j : ℕ). word_at b at (suc j)) n ≡ joined 64 (word_at b (at + 8)) n =
    joined_same 64 (λ (j : ℕ). word_at b at (suc j)) (word_at b (at + 8)) n (λ j _. ap (λ (x : ℕ). le_at b x 8) (omega arith)) in
    let g : at + 8 * 0 ≡ at = omega arith in
    let h : word_at b at 0 ≡ le_at b at 8 = ap (λ (x : ℕ). le_at b x 8) g in
    ap (le_at b at) e ∙ le_at-add b at 8 (8 * n) ∙ omega (arith, f, h, set_words_lem b n (at + 8))

-- a local array that was just made holds the empty set
pub zeros-empty : set_of (replicate set_size 0) 0 ≡ empty
unfolding le_at
zeros-empty = refl

-- ---- a word written

module _ (b : List ℕ) (at j v : ℕ) (room : at + 8 * j + 8 ≤ length b) where
  pub word-written : v < 256 ^ 8 → word_at (put_le b (at + 8 * j) 8 v) at j ≡ v
  word-written h = le_at-put_le b (at + 8 * j) 8 v (omega arith) h

  pub word_kept : (m : ℕ) → (m ≡ j → ⊥) → word_at (put_le b (at + 8 * j) 8 v) at m ≡ word_at b at m
  word_kept m d = le_at-same (put_le b (at + 8 * j) 8 v) b (at + 8 * m) 8 (λ i lo hi. elim (ℕ_discrete (m - j) 0) [
    | yes e ↦ below-put_le b (at + 8 * j) 8 v i (omega (arith, less e))
    | no n ↦ above-put_le b (at + 8 * j) 8 v i (omega arith)
  ])
    where
      less : m - j ≡ 0 → m < j
      less e = elim (ℕ_discrete m j) [ yes s ↦ absurd (d s) | no n ↦ omega arith ]

-- row k joins the set by its word
pub set-insert : (b : List ℕ) → AreBytes b → (at k n v : ℕ) → k < 64 * n → at + 8 * (k / 64) + 8 ≤ length b → v < 256 ^ 8
    → v ≡ insert (k % 64) (word_at b at (k / 64)) → set_at (put_le b (at + 8 * (k / 64)) 8 v) at n ≡ insert k (set_at b at n)
set-insert b h at k n v l room fits e =
    let j : ℕ = k / 64 in
    let i : ℕ = k % 64 in
    let q : place 64 j i ≡ k = place-row 64 j i ∙ omega arith in
    set_words_lem (put_le b (at + 8 * j) 8 v) n at
    ∙ joined-insert 64 (word_at b at) (word_at (put_le b (at + 8 * j) 8 v) at) (word_fits b h at) n j i (omega arith) (omega arith)
    (word-written b at j v room fits ∙ e) (λ m d. word_kept b at j v room m d)
    ∙ ap₂ insert q (sym (set_words_lem b n at))

pub set-mem : (b : List ℕ) → AreBytes b → (at k n : ℕ) → k < 64 * n → mem k (set_at b at n) ≡ mem (k % 64) (word_at b at (k / 64))
set-mem b h at k n l =
    let j : ℕ = k / 64 in
    let i : ℕ = k % 64 in
    let q : place 64 j i ≡ k = place-row 64 j i ∙ omega arith in
    ap₂ mem (sym q) (set_words_lem b n at) ∙ mem-joined 64 (word_at b at) (word_fits b h at) n j i (omega arith) (omega arith)

-- ---- tests that go from word to word

pub sets_same : (b c : List ℕ) (at there n : ℕ) → ((j : ℕ) → j < n → word_at b at j ≡ word_at c there j)
    → eqb (set_at b at n) (set_at c there n) ≡ true
sets_same b c at there n e =
    eq-eqb (set_at b at n) (set_at c there n) (set_words_lem b n at ∙ joined_same 64 (word_at b at) (word_at c there) n e ∙ sym (set_words_lem c n there))

pub sets-differ : (b c : List ℕ) → AreBytes b → AreBytes c → (at there n j : ℕ) → j < n → (word_at b at j ≡ word_at c there j → ⊥)
    → eqb (set_at b at n) (set_at c there n) ≡ false
sets-differ b c hb hc at there n j l d =
    ne_eqb (set_at b at n) (set_at c there n) (λ e.
    d (joined-apart 64 (word_at b at) (word_at c there) (word_fits b hb at) (word_fits c hc there) n (sym (set_words_lem b n at) ∙ e ∙ set_words_lem c n there) j l))
