-- The ways through the functions that take names for rows, on plain values.
--
-- In order: names from 64 on have no say; a word of a mask; what `named` asks of it, and its loop; a word of the rows of kinds 1 and 2;
-- all their words.
use Rattle.std.specs.Prelude.{◌≡◌, refl, Bool, true, false, not, ◌&&◌, ◌||◌, List, ℕ, ◌+◌, ◌*◌, ◌/◌, ◌%◌, ◌<◌, T, eqb, ltb, length, get_or}
use Rattle.std.proofs.Common.{sym, ap, ap₂, ◌∙◌, arith, leb→le, ltb→lt, eqb-true, ltb-true, lt-ltb, le-ltb}
use Rattle.std.proofs.Math.Decide.{dec_lt}
use Rattle.std.proofs.Math.Dec.{not_T}
use Rattle.concepts.specs.Tests.{and-true, and_both, and-nothing, and-all, or_nothing, as-false}
use Rattle.concepts.specs.Concept.{Concept, atomic, negated, conj, disj, univ, exist, inclusion, neg, impl, Table, concept_at}
use Rattle.concepts.specs.RowSet.{RowSet, mem, empty, single, union, minus, insert}
use Rattle.concepts.specs.RowSetLaws.{mem-empty, mem-insert, mem-single, mem-minus, mem-union, mem-lt, set-lt, set-ext}
use Rattle.concepts.specs.Lowest.{Lowest, Rest}
use Rattle.words.specs.Words.{put_le}
use Rattle.words.specs.Sizes.{set_words, set_size, width}
use Rattle.rowset.specs.Joined.{word_at, mask_at, put_words}
use Rattle.rowset.specs.ByteLaws.{AreBytes, set-mem}
use Rattle.rowset.specs.WriteLaws.{put-words}
use Rattle.rowset.specs.NextLaws.{Words, row_of}
use Rattle.rowset.specs.WordOf.{word_of, word_fit, mem-words, joined_words}
use Rattle.rowset.specs.SetOf.{set_of}
use Rattle.decoding.specs.RowParts.{kind_of, left_of, in_range}
use Rattle.problem.specs.Decoded.{count_of, table_of, of_kind, Mask, Decoded}
use Rattle.problem.specs.DecodedLaws.{length-table_of, word-parts, name-lt}
use Rattle.evaluation.specs.Steps.{literal, literal_rows}
use Rattle.evaluation.specs.StepLaws.{mem-literal_rows}
use Rattle.evaluation.specs.Clauses.{is_named, NamedAsks, Named}

-- ---- names from 64 on have no say

literal-low : (names low : RowSet) → ((a : ℕ) → a < 64 → mem a names ≡ mem a low) → (c : Concept) → T (in_range c)
    → literal names c ≡ literal low c
unfolding in_range
literal-low names low same (atomic a) r = same a (omega (arith, leb→le a 63 r))
literal-low names low same (negated a) r = ap not (same a (omega (arith, leb→le a 63 r)))
literal-low names low same (conj l r) _ = refl
literal-low names low same (disj l r) _ = refl
literal-low names low same (univ ρ l) _ = refl
literal-low names low same (exist ρ l) _ = refl
literal-low names low same (inclusion ρ σ) _ = refl
literal-low names low same (neg l) _ = refl
literal-low names low same (impl l r) _ = refl

literal_rows-low : {ws : List ℕ} → Decoded ws → (names low : RowSet) → ((a : ℕ) → a < 64 → mem a names ≡ mem a low)
    → literal_rows (table_of ws) names ≡ literal_rows (table_of ws) low
literal_rows-low {ws} D names low same = set-ext (literal_rows t names) (literal_rows t low) (λ k.
    mem-literal_rows t names k ∙ by_row k (ltb k (length t)) refl ∙ sym (mem-literal_rows t low k))
  where
    t : Table
    t = table_of ws

    by_row : (k : ℕ) (b : Bool) → ltb k (length t) ≡ b → (b && literal names (concept_at t k)) ≡ (b && literal low (concept_at t k))
    by_row k false e = refl
    by_row k true e =
        let h : k < count_of ws = omega (arith, ltb-true k (length t) e, length-table_of ws) in
        literal-low names low same (concept_at t k) (word-parts D.rows k h).in-range

-- ---- a word of a mask

mask_word : {ws : List ℕ} {p : Concept → Bool} {at : ℕ} → Mask ws p at → Words ws → {j : ℕ} → j < set_words → (i : ℕ)
    → mem i (get_or ws (at + j) 0) ≡ (ltb i 64 && (ltb (64 * j + i) (length (table_of ws)) && p (concept_at (table_of ws) (64 * j + i))))
unfolding mask_at
mask_word {ws} {p} {at} M words {j} h i = elim (dec_lt i 64) [
  | yes l ↦
      sym (row_of (λ (m : ℕ). get_or ws (at + m) 0) (λ m. words (at + m)) set_words 0 j i h l) ∙ M.picked.rows (64 * j + i)
      ∙ ap (λ (x : Bool). x && (ltb (64 * j + i) (length (table_of ws)) && p (concept_at (table_of ws) (64 * j + i)))) (sym (lt-ltb i 64 l))
  | no l ↦
      as-false (mem i (get_or ws (at + j) 0))
      (not_T (mem i (get_or ws (at + j) 0)) (λ m. absurd (omega (arith, mem-lt 64 i (get_or ws (at + j) 0) (words (at + j)) m))))
      ∙ ap (λ (x : Bool). x && (ltb (64 * j + i) (length (table_of ws)) && p (concept_at (table_of ws) (64 * j + i)))) (sym (le-ltb i 64 (omega arith)))
]

-- ---- what `named` asks

pub named-asks : {ws : List ℕ} → Decoded ws → {kind at : ℕ} → kind < 3 → Mask ws (of_kind kind) at → Words ws → {j : ℕ} → j < set_words
    → NamedAsks ws j (get_or ws (at + j) 0)
unfolding of_kind
named-asks {ws} D {kind} {at} few M words {j} h = record {
  inside = λ i m. (row i m).0;
  small = λ i m. let (below, is) = row i m in name-lt D.rows (64 * j + i) below (omega (arith, eqb-true _ kind is));
}
  where
    t : Table
    t = table_of ws

    row : (i : ℕ) → mem i (get_or ws (at + j) 0) ≡ true → (64 * j + i < count_of ws) × (of_kind kind (concept_at t (64 * j + i)) ≡ true)
    row i m =
        let k = 64 * j + i in
        let (_, both) = and-true (ltb i 64) (ltb k (length t) && of_kind kind (concept_at t k)) (sym (mask_word M words h i) ∙ m) in
        let (below, is) = and-true (ltb k (length t)) (of_kind kind (concept_at t k)) both in
        (omega (arith, ltb-true k (length t) below, length-table_of ws), is)

-- ---- its loop

-- of the rows, all but those of m have been asked
pub record Asking (t : Table) (j names rows passed m : ℕ) : Type 0 where
  pub inside : (i : ℕ) → mem i m ≡ true → mem i rows ≡ true
  pub is : (i : ℕ) → mem i passed ≡ ((mem i rows && not (mem i m)) && is_named t j names i)

module _ {t : Table} {j names rows : ℕ} where
  pub asking-none : Asking t j names rows empty rows
  asking-none = record { inside = λ i h. h; is = λ i. mem-empty i ∙ sym (ap (λ (b : Bool). b && is_named t j names i) (out (mem i rows))) }
    where
      out : (b : Bool) → (b && not b) ≡ false
      out true = refl
      out false = refl

  module _ {passed m r k : ℕ} (A : Asking t j names rows passed m) (low : Lowest m k) (rest : Rest m r) where
    -- row i is in the rest if it is another row of m
    left_over : (i : ℕ) → mem i r ≡ (mem i m && not (eqb i k))
    left_over i = ap (mem i) (rest k low) ∙ mem-minus i m (single k) ∙ ap (λ (b : Bool). mem i m && not b) (mem-single i k)

    still-inside : (i : ℕ) → mem i r ≡ true → mem i rows ≡ true
    still-inside i h = A.inside i (and-true (mem i m) (not (eqb i k)) (sym (left_over i) ∙ h)).0

    -- row k is asked now, and any other row as before
    asked-now : {x : Bool} → x ≡ is_named t j names k → (i : ℕ) (b : Bool) → eqb i k ≡ b
        → ((b && x) || mem i passed) ≡ ((mem i rows && not (mem i r)) && is_named t j names i)
    asked-now hx i false e =
        A.is i ∙ ap (λ (y : Bool). (mem i rows && not y) && is_named t j names i)
        (sym (left_over i ∙ ap (λ (z : Bool). mem i m && not z) e ∙ and-all (mem i m)))
    asked-now {x} hx i true e =
        let here : i ≡ k = eqb-true i k e in
        let there : mem i m ≡ true = ap (λ (n : ℕ). mem n m) here ∙ low.member in
        let was : mem i passed ≡ false = A.is i ∙ rw there (ap (λ (y : Bool). y && is_named t j names i) (and-nothing (mem i rows))) in
        let gone : mem i r ≡ false = left_over i ∙ ap (λ (z : Bool). mem i m && not z) e ∙ and-nothing (mem i m) in
        ap (λ (y : Bool). x || y) was ∙ or_nothing x ∙ hx ∙ ap (is_named t j names) (sym here)
        ∙ sym (ap₂ (λ (y z : Bool). (y && not z) && is_named t j names i) (A.inside i there) gone)

    pub asking-in : {x : Bool} → x ≡ is_named t j names k → x ≡ true → {more : ℕ} → more ≡ insert k passed → Asking t j names rows more r
    asking-in hx hv e = record {
      inside = still-inside;
      is = λ i.
          ap (mem i) e ∙ mem-insert i k passed ∙ ap (λ (y : Bool). y || mem i passed)
          (sym (and-all (eqb i k)) ∙ ap (λ (z : Bool). eqb i k && z) (sym hv))
          ∙ asked-now hx i (eqb i k) refl;
    }

    pub asking-out : {x : Bool} → x ≡ is_named t j names k → x ≡ false → {more : ℕ} → more ≡ passed → Asking t j names rows more r
    asking-out hx hv e = record {
      inside = still-inside;
      is = λ i. ap (mem i) e ∙ ap (λ (y : Bool). y || mem i passed) (sym (ap (λ (z : Bool). eqb i k && z) hv ∙ and-nothing (eqb i k)))
          ∙ asked-now hx i (eqb i k) refl;
    }

  pub asking-all : {passed m : ℕ} → Asking t j names rows passed m → m ≡ empty → Named t j names rows passed
  asking-all A e = record {
    is = λ i. A.is i ∙ ap (λ (y : Bool). (mem i rows && not y) && is_named t j names i) (ap (mem i) e ∙ mem-empty i)
        ∙ ap (λ (y : Bool). y && is_named t j names i) (and-all (mem i rows));
  }

-- ---- a word of the rows of kinds 1 and 2

literal-parts : (names : RowSet) (c : Concept)
    → ((of_kind 1 c && mem (left_of c) names) || (of_kind 2 c && not (of_kind 2 c && mem (left_of c) names))) ≡ literal names c
unfolding of_kind kind_of left_of
literal-parts names (atomic a) = or_nothing (mem a names)
literal-parts names (negated a) = refl
literal-parts names (conj l r) = refl
literal-parts names (disj l r) = refl
literal-parts names (univ ρ l) = refl
literal-parts names (exist ρ l) = refl
literal-parts names (inclusion ρ σ) = refl
literal-parts names (neg l) = refl
literal-parts names (impl l r) = refl

pub literals-word : {ws : List ℕ} {a n : ℕ} → Mask ws (of_kind 1) a → Mask ws (of_kind 2) n → Words ws → {j : ℕ} → j < set_words
    → {names passed failed : ℕ}
    → Named (table_of ws) j names (get_or ws (a + j) 0) passed → Named (table_of ws) j names (get_or ws (n + j) 0) failed
    → union passed (minus (get_or ws (n + j) 0) failed) ≡ word_of (literal_rows (table_of ws) names) j
literals-word {ws} {a} {n} MA MN words {j} h {names} {passed} {failed} PA PN =
    set-ext (union passed (minus negatives failed)) (word_of (literal_rows t names) j) (λ i.
    mem-union i passed (minus negatives failed) ∙ ap₂ ◌||◌ (first i) (second i) ∙ within (ltb i 64) (ltb (64 * j + i) (length t)) (concept i)
    ∙ sym (mem-words (literal_rows t names) j i ∙ ap (λ (x : Bool). ltb i 64 && x) (mem-literal_rows t names (64 * j + i))))
  where
    t : Table
    t = table_of ws

    negatives : ℕ
    negatives = get_or ws (n + j) 0

    concept : ℕ → Concept
    concept i = concept_at t (64 * j + i)

    picked : ℕ → ℕ → Bool
    picked kind i = ltb i 64 && (ltb (64 * j + i) (length t) && of_kind kind (concept i))

    first : (i : ℕ) → mem i passed ≡ (picked 1 i && mem (left_of (concept i)) names)
    first i = PA.is i ∙ ap (λ (x : Bool). x && mem (left_of (concept i)) names) (mask_word MA words h i)

    second : (i : ℕ) → mem i (minus negatives failed) ≡ (picked 2 i && not (picked 2 i && mem (left_of (concept i)) names))
    second i =
        let is = mask_word MN words h i in
        mem-minus i negatives failed ∙ ap₂ (λ (x y : Bool). x && not y) is (PN.is i ∙ ap (λ (x : Bool). x && mem (left_of (concept i)) names) is)

    within : (x y : Bool) (c : Concept)
        → (((x && (y && of_kind 1 c)) && mem (left_of c) names) || ((x && (y && of_kind 2 c)) && not ((x && (y && of_kind 2 c)) && mem (left_of c) names)))
        ≡ (x && (y && literal names c))
    within false y c = refl
    within true false c = refl
    within true true c = literal-parts names c

-- ---- all words

pub literals-written : {ws : List ℕ} → Decoded ws → (b : List ℕ) → AreBytes b → (at : ℕ) {names : ℕ} → names ≡ word_at b at 0
    → put_words b at (word_of (literal_rows (table_of ws) names)) set_words ≡ put_le b at set_size (literal_rows (table_of ws) (set_of b at))
literals-written {ws} D b bytes at {names} e =
    put-words set_words b at (word_of rows) (word_fit rows)
    ∙ ap (put_le b at set_size) (joined_words set_words rows (set-lt width rows inside) ∙ literal_rows-low D names (set_of b at) low)
  where
    rows : RowSet
    rows = literal_rows (table_of ws) names

    inside : (k : ℕ) → T (mem k rows) → k < width
    inside k m =
        let t = table_of ws in
        let (below, _) = and_both (ltb k (length t)) (literal names (concept_at t k)) (rw (mem-literal_rows t names k) at m) in
        omega (arith, ltb→lt k (length t) below, length-table_of ws, D.rows.few)

    low : (a : ℕ) → a < 64 → mem a names ≡ mem a (set_of b at)
    low a l =
        let here : a % 64 ≡ a = omega arith in
        let first : a / 64 ≡ 0 = omega arith in
        ap (mem a) e ∙ ap₂ (λ (x y : ℕ). mem x (word_at b at y)) (sym here) (sym first) ∙ sym (set-mem b bytes at a set_words (omega arith))
