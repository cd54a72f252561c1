-- Word j of a set, 64 of its rows: the set is its words joined (`joined_words`), a row joins it by its word (`word-insert`), and so do the rows of a list.
use Rattle.std.specs.Prelude.{◌≡◌, Bool, true, false, ◌&&◌, ◌||◌, cond, List, ℕ, zero, suc, ◌+◌, ◌-◌, ◌*◌, ◌/◌, ◌%◌, ◌^◌, ◌≤◌, ◌<◌, eqb, ltb, length, get_or, drop}
use Rattle.std.proofs.Common.{sym, ap, ap₂, ◌∙◌, mod-lt, add-one, arith, drop_of_length-le, drop-cons, pow-add, pow_pos, eq-eqb, ne_eqb, lt-ltb, le-ltb}
use Rattle.std.proofs.Math.Nat.{zero-div, div-div-eq-div-mul}
use Rattle.std.proofs.Math.Decide.{ℕ_discrete, dec_lt}
use Rattle.std.proofs.Math.Dec.{not_T}
use Rattle.concepts.specs.Tests.{as-false}
use Rattle.concepts.specs.RowSet.{RowSet, mem, empty, single, union, insert, from_list}
use Rattle.concepts.specs.RowSetLaws.{mem-empty, mem-single, mem-union, mem-insert, mem-lt, union-lt, single-lt, union-empty, union_assoc, set-ext}
use Rattle.rowset.specs.Joined.{joined, Fit}
use Rattle.rowset.specs.JoinedLaws.{mem-low, joined_same}

unfoldable pub word_of : RowSet → ℕ → ℕ
word_of s j = s / 2 ^ (64 * j) % 2 ^ 64

pub word_fit : (s : RowSet) → Fit 64 (word_of s)
unfolding word_of
word_fit s j = mod-lt (s / 2 ^ (64 * j)) (pow_pos 64)

pub word-empty : (j : ℕ) → word_of empty j ≡ empty
unfolding word_of
word-empty j = ap (λ (x : ℕ). x % 2 ^ 64) (zero-div (2 ^ (64 * j)))

beyond : (x i : ℕ) → x < 2 ^ 64 → 64 ≤ i → mem i x ≡ false
beyond x i h b = as-false (mem i x) (not_T (mem i x) (λ t. omega (arith, mem-lt 64 i x h t)))

mem-above : (s : RowSet) (p i : ℕ) → mem i (s / 2 ^ p) ≡ mem (p + i) s
unfolding mem
mem-above s p i = ap (λ (x : ℕ). eqb (x % 2) 1) (div-div-eq-div-mul s (2 ^ p) (2 ^ i) ∙ ap (λ (x : ℕ). s / x) (sym (pow-add 2 p i)))

-- row i of word j
pub mem_word : (s : RowSet) (j i : ℕ) → i < 64 → mem i (word_of s j) ≡ mem (64 * j + i) s
unfolding word_of
mem_word s j i h =
    let x : ℕ = s / 2 ^ (64 * j) in
    let e : x / 2 ^ 64 * 2 ^ 64 + x % 2 ^ 64 ≡ x = omega arith in
    sym (mem-low 64 i (x / 2 ^ 64) (x % 2 ^ 64) h) ∙ ap (mem i) e ∙ mem-above s (64 * j) i

-- and a word has no other
pub mem-words : (s : RowSet) (j i : ℕ) → mem i (word_of s j) ≡ (ltb i 64 && mem (64 * j + i) s)
mem-words s j i = elim (dec_lt i 64) [
  | yes l ↦ mem_word s j i l ∙ ap (λ (x : Bool). x && mem (64 * j + i) s) (sym (lt-ltb i 64 l))
  | no l ↦ beyond (word_of s j) i (word_fit s j) (omega arith) ∙ ap (λ (x : Bool). x && mem (64 * j + i) s) (sym (le-ltb i 64 (omega arith)))
]

-- ---- all words

-- the words after the first are those of what is above it
word_next : (s : RowSet) (j : ℕ) → word_of s (suc j) ≡ word_of (s / 2 ^ 64) j
unfolding word_of
word_next s j =
    let e : 64 * suc j ≡ 64 + 64 * j = omega arith in
    ap (λ (x : ℕ). s / x % 2 ^ 64) (ap (λ (x : ℕ). 2 ^ x) e ∙ pow-add 2 64 (64 * j))
    ∙ ap (λ (x : ℕ). x % 2 ^ 64) (sym (div-div-eq-div-mul s (2 ^ 64) (2 ^ (64 * j))))

pub joined_words : (n : ℕ) (s : RowSet) → s < 2 ^ (64 * n) → joined 64 (word_of s) n ≡ s
unfolding joined word_of
joined_words zero s h = omega arith
joined_words (suc n) s h =
    let e : 64 * suc n ≡ 64 + 64 * n = omega arith in
    let small : s < 2 ^ 64 * 2 ^ (64 * n) = rw (e, pow-add 2 64 (64 * n)) at h in
    let rest : joined 64 (λ (j : ℕ). word_of s (suc j)) n ≡ s / 2 ^ 64 =
    joined_same 64 (λ (j : ℕ). word_of s (suc j)) (word_of (s / 2 ^ 64)) n (λ j _. word_next s j) ∙ joined_words n (s / 2 ^ 64) (omega arith) in
    omega (arith, rest)

-- ---- a row more

pub word-insert : (s : RowSet) (j k : ℕ) → word_of (insert k s) j ≡ union (cond (eqb (k / 64) j) (single (k % 64)) empty) (word_of s j)
word-insert s j k = set-ext (word_of (insert k s) j) (union row (word_of s j)) (λ i. elim (ℕ_discrete (suc i - 64) 0) [
  | yes e ↦
      mem_word (insert k s) j i (omega arith) ∙ mem-insert (64 * j + i) k s
      ∙ ap₂ (λ (x y : Bool). x || y) (sym (here i (omega arith))) (sym (mem_word s j i (omega arith))) ∙ sym (mem-union i row (word_of s j))
  | no d ↦
      beyond (word_of (insert k s) j) i (word_fit (insert k s) j) (omega arith)
      ∙ sym (beyond (union row (word_of s j)) i (union-lt 64 row (word_of s j) row_fits (word_fit s j)) (omega arith))
])
  where
    row : ℕ
    row = cond (eqb (k / 64) j) (single (k % 64)) empty

    row_fits : row < 2 ^ 64
    row_fits = by (eqb (k / 64) j)
      where
        by : (x : Bool) → cond x (single (k % 64)) empty < 2 ^ 64
        by true = single-lt 64 (k % 64) (omega arith)
        by false = pow_pos 64

    here : (i : ℕ) → i < 64 → mem i row ≡ eqb (64 * j + i) k
    here i h = elim (ℕ_discrete (k / 64) j) [
      | yes e ↦ ap (λ (x : Bool). mem i (cond x (single (k % 64)) empty)) (eq-eqb (k / 64) j e) ∙ mem-single i (k % 64) ∙ same e
      | no d ↦
          ap (λ (x : Bool). mem i (cond x (single (k % 64)) empty)) (ne_eqb (k / 64) j d) ∙ mem-empty i
          ∙ sym (ne_eqb (64 * j + i) k (λ z. d (omega arith)))
    ]
      where
        same : k / 64 ≡ j → eqb i (k % 64) ≡ eqb (64 * j + i) k
        same e = elim (ℕ_discrete i (k % 64)) [
          | yes z ↦ eq-eqb i (k % 64) z ∙ sym (eq-eqb (64 * j + i) k (omega arith))
          | no d ↦ ne_eqb i (k % 64) d ∙ sym (ne_eqb (64 * j + i) k (λ z. d (omega arith)))
        ]

-- ---- a list of rows, one after the other

pub word-drop : (xs : List ℕ) (i j x : ℕ) → i < length xs
    → union x (word_of (from_list (drop i xs)) j)
    ≡ union (union x (cond (eqb (get_or xs i 0 / 64) j) (single (get_or xs i 0 % 64)) empty)) (word_of (from_list (drop (i + 1) xs)) j)
unfolding from_list
word-drop xs i j x h =
    let k : ℕ = get_or xs i 0 in
    let s : RowSet = from_list (drop (suc i) xs) in
    rw (add-one i, drop-cons xs i 0 h) (ap (union x) (word-insert s j k) ∙ sym (union_assoc x (cond (eqb (k / 64) j) (single (k % 64)) empty) (word_of s j)))

pub word_end : (xs : List ℕ) (i j x : ℕ) → length xs ≤ i → x ≡ union x (word_of (from_list (drop i xs)) j)
unfolding from_list
word_end xs i j x h = rw (drop_of_length-le xs h, word-empty j) (sym (union-empty x))
