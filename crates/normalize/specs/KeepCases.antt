-- The ways through the functions that write the inclusions of a draft, on plain values.
--
-- In order: no row yet; a draft without an inclusion; a row that is an inclusion; a row that is none; all rows.
use Rattle.std.specs.Prelude.{◌≡◌, refl, Bool, false, not, ℕ, ◌+◌, ◌*◌, ◌≤◌, ◌<◌, T, eqb, length, get_or, set}
use Rattle.std.proofs.Math.Path.{sym, ap}
use Rattle.std.proofs.Common.{◌∙◌, subst, add-one, arith, take-suc, take_all}
use mathlib.Core.List.{List, [], ◌∷◌, ◌++◌, append-nil, Memᴰ}
use Rattle.std.proofs.Math.ListN.{take}
use borrow.Author.Tests.{eq-eqb, ne_eqb}
use Rattle.concepts.specs.Tests.{as-false, from-true, from_false}
use Rattle.concepts.specs.Lists.{Bytes, range, select}
use Rattle.concepts.specs.ListLaws.{mem-get_or, none-any-range, select-append, select-pass, select-fail, select-out}
use Rattle.concepts.specs.Concept.{Concept, atomic, inclusion, Table, concept_at, is_inclusion}
use Rattle.decoding.specs.RowParts.{of_parts}
use Rattle.decoding.specs.RowPartLaws.{parts-own}
use Rattle.rulefile.specs.Format.{row_count, row_byte, inclusion_at, some_inclusion, most_rows}
use Rattle.rulefile.specs.ReadingLaws as Reader
use Rattle.drafts.specs.Normalize.{inclusion_rows}
use Rattle.normalize.specs.declared.Written.{Written}
use Rattle.normalize.specs.Words.{rows_in, Held}
use Rattle.normalize.specs.WordLaws.{inclusion-row, rows_in-more, held_more}
use Rattle.normalize.specs.Shapes.{table_of}
use Rattle.normalize.specs.ShapeLaws.{draft-parted, draft-rows, parts_at}
use Rattle.normalize.specs.Clauses.{KeepAsks, Kept, KeepGives}

-- ---- no row yet

-- with the count at 0
abbrev emptied : Written → Written
emptied w = record { words = w.words; count = 0; memo = w.memo }

none-held : {ws : List ℕ} → length ws ≡ most_rows → Held ws 0
none-held e = record { size = e; few = omega arith; own = λ i h. absurd (omega (arith, h)) }

pub kept-none : {b : Bytes} {count : ℕ} {w : Written} → KeepAsks b count w → Kept b 0 (emptied w)
unfolding rows_in range inclusion_rows select
kept-none A = record {
  draft = A.draft;
  within = omega arith;
  few = omega arith;
  held = none-held A.size;
  rows = refl;
}

-- ---- a draft without an inclusion

none-selected : (f : Concept → Bool) (xs : List Concept) → ((x : Concept) → Memᴰ x xs → T (not (f x))) → select f xs ≡ []
unfolding select
none-selected f [] n = refl
none-selected f (x ∷ xs) n = select-out f x xs (as-false (f x) (n x (Memᴰ.head refl))) ∙ none-selected f xs (λ y m. n y (Memᴰ.tail m))

pub kept-without : {b : Bytes} {count : ℕ} {w : Written} → KeepAsks b count w → some_inclusion b ≡ false → KeepGives b w (emptied w)
unfolding rows_in range inclusion_rows
kept-without {b} A e = record {
  held = none-held A.size;
  memo_is = refl;
  rows = sym (none-selected is_inclusion (table_of b) (λ c m. no_row c (mem-get_or (table_of b) c (atomic 0) m)));
}
  where
    no_row : (c : Concept) → (i : ℕ) × (i < length (table_of b)) × (get_or (table_of b) i (atomic 0) ≡ c) → T (not (is_inclusion c))
    no_row c (i, h, q) =
        let inside : i < row_count b = omega (arith, draft-rows A.draft) in
        let none-there = sym (Reader.inclusion-row b i inside) ∙ none-any-range (inclusion_at b) (row_count b) e i inside in
        subst (λ (x : Concept). T (not (is_inclusion x))) q (from_false _ ((parts_at A.draft i inside).inclusion-is ∙ none-there))

module _ {b : Bytes} {k : ℕ} {w : Written} (K : Kept b k w) where
  abbrev t : Table
  t = table_of b

  module _ (h : k < row_count b) where
    -- the first rows, and row k
    next-rows : inclusion_rows (take (k + 1) t) ≡ inclusion_rows (take k t) ++ select is_inclusion (concept_at t k ∷ [])
    unfolding inclusion_rows
    next-rows =
        let one_more : take (k + 1) t ≡ take k t ++ concept_at t k ∷ [] = rw (add-one k) (take-suc t k (atomic 0) (omega (arith, draft-rows K.draft))) in
        ap (select is_inclusion) one_more ∙ select-append is_inclusion (take k t) (concept_at t k ∷ [])

    by_kind : is_inclusion (concept_at t k) ≡ eqb (row_byte b k 0) 7
    by_kind = (parts_at K.draft k h).inclusion-is

    -- ---- a row that is an inclusion

    pub kept-room : w.count < length w.words
    kept-room = omega (arith, K.few, K.held.size, (draft-parted K.draft).few_rows)

    pub kept_row : {kind role left word : ℕ} → kind ≡ row_byte b k 0 → kind ≡ 7 → role ≡ row_byte b k 1 → left ≡ row_byte b k 2 → role < 256
        → left < 256
        → word ≡ 7 + 256 * role + 65536 * left + 16777216 * 0
        → Kept b (k + 1) (record { words = set w.words w.count word; count = w.count + 1; memo = w.memo })
    unfolding of_parts
    kept_row {kind} {role} {left} {word} q e r l a c packed =
        let P = parts_at K.draft k h in
        let seven : row_byte b k 0 ≡ 7 = sym q ∙ e in
        let row : concept_at t k ≡ inclusion role left = sym (parts-own (concept_at t k)) ∙ rw (P.kind-is, seven, P.role-is, ← r, P.left_is, ← l) in
        let passes = select-pass is_inclusion (concept_at t k) (from-true _ (by_kind ∙ eq-eqb (row_byte b k 0) 7 seven)) in
        let R = inclusion-row a c packed in
        record {
          draft = K.draft;
          within = omega arith;
          few = omega (arith, K.few);
          held = held_more w.words w.count word K.held (omega (arith, kept-room, K.held.size)) R.own;
          rows = rows_in-more w.words w.count word kept-room ∙ rw (R.row, K.rows, next-rows, passes, row);
        }

    -- ---- a row that is none

    pub kept-other : {kind : ℕ} → kind ≡ row_byte b k 0 → (kind ≡ 7 → ⊥) → Kept b (k + 1) w
    kept-other q e =
        let other : eqb (row_byte b k 0) 7 ≡ false = ne_eqb (row_byte b k 0) 7 (λ x. e (q ∙ x)) in
        record {
          draft = K.draft;
          within = omega arith;
          few = omega (arith, K.few);
          held = K.held;
          rows = K.rows ∙ sym (next-rows ∙ rw (select-fail is_inclusion (concept_at t k) (from_false _ (by_kind ∙ other)))
              (append-nil (inclusion_rows (take k t))));
        }

  -- ---- all rows

  pub kept-all : {count : ℕ} {w₀ : Written} → count ≡ row_count b → count ≤ k → w.memo ≡ w₀.memo → KeepGives b w₀ w
  kept-all e h same = record {
    held = K.held;
    memo_is = same;
    rows = K.rows ∙ ap inclusion_rows (take_all k t (omega (arith, draft-rows K.draft)));
  }
