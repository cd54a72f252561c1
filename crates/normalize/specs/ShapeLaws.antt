-- Laws of Shapes: what becomes of a row by its four bytes is what becomes of its concept.
--
-- In order: by the parts of a concept; row k of a draft: its parts are its bytes, and it becomes what they say (`shape-bytes`), case by case
-- (`RowRead`, `literal-case`, ..).
use Rattle.std.specs.Prelude.{◌≡◌, refl, true, false, not, ◌||◌, ℕ, zero, suc, ◌≤◌, ◌<◌, T, eqb, length}
use Rattle.std.proofs.Common.{sym, ◌∙◌, inl, inr, arith, eqb→eq}
use borrow.Author.Tests.{le-leb, lt-leb, eq-eqb, ne_eqb}
use Rattle.concepts.specs.Lists.{Bytes}
use Rattle.concepts.specs.Tests.{impossible, or_cases, from-true}
use Rattle.concepts.specs.ListLaws.{length-map-range}
use Rattle.concepts.specs.Concept.{Concept, atomic, negated, conj, disj, univ, exist, inclusion, neg, impl, concept_at, role_of, Ordered, is_inclusion}
use Rattle.concepts.specs.Concept.{NoInclusion, as_argument}
use Rattle.decoding.specs.Decoding.{draft_kinds}
use Rattle.decoding.specs.RowParts.{kind_of, left_of, right_of, of_parts}
use Rattle.decoding.specs.RowPartLaws.{Parts}
use Rattle.rulefile.specs.Format.{row_count, wanted_rows, row_byte, concept_in}
use Rattle.rulefile.specs.Checks.{Parted}
use Rattle.rulefile.specs.CheckLaws.{parted}
use Rattle.rulefile.proofs.FormatLaws.{contents-parts, contents-admitted}
use Rattle.drafts.specs.Normalize.{Sign, shape}
use Rattle.drafts.specs.Sound.{Idle}
use Rattle.normalize.specs.Shapes.{IsLiteral, IsModal, IsPair, table_of, ShapeAt, written_kind, form_of}
use Rattle.normalize.specs.declared.Shape.TheVariants.{Literal, Other, Unary, Binary}
use Rattle.normalize.specs.Clauses.{Draft}

-- ---- by the parts of a concept

form-shape : (c : Concept) (s : Sign) → T (not (is_inclusion c)) → form_of (kind_of c) (role_of c) (left_of c) (right_of c) s ≡ shape c s
unfolding form_of written_kind of_parts kind_of role_of left_of right_of shape
form-shape (atomic a) true _ = refl
form-shape (atomic a) false _ = refl
form-shape (negated a) true _ = refl
form-shape (negated a) false _ = refl
form-shape (conj l r) true _ = refl
form-shape (conj l r) false _ = refl
form-shape (disj l r) true _ = refl
form-shape (disj l r) false _ = refl
form-shape (univ ρ l) true _ = refl
form-shape (univ ρ l) false _ = refl
form-shape (exist ρ l) true _ = refl
form-shape (exist ρ l) false _ = refl
form-shape (inclusion ρ σ) s i = absurd i
form-shape (neg l) true _ = refl
form-shape (neg l) false _ = refl
form-shape (impl l r) true _ = refl
form-shape (impl l r) false _ = refl

-- ---- a draft that passed the checks

module _ {b : Bytes} (D : Draft b) where
  pub draft-parted : Parted b
  draft-parted = parted draft_kinds (wanted_rows b) b D.passed (omega arith)

  pub draft-ordered : Ordered (table_of b)
  draft-ordered = (contents-admitted draft_kinds (wanted_rows b) b D.passed).well_formed.ordered

  pub draft-idle : Idle (table_of b)
  draft-idle k l m = (contents-admitted draft_kinds (wanted_rows b) b D.passed).well_formed.serving l (as_argument k m)

  pub draft-rows : length (table_of b) ≡ row_count b
  draft-rows = length-map-range (concept_in draft_kinds b) 0 (row_count b)

  module _ (k : ℕ) (h : k < row_count b) where
    pub parts_at : Parts (row_byte b k 0) (row_byte b k 1) (row_byte b k 2) (row_byte b k 3) (concept_at (table_of b) k)
    parts_at = contents-parts draft_kinds (wanted_rows b) b D.passed k h

    pub shape-bytes : (s : Sign) → NoInclusion (table_of b) k → form_of (row_byte b k 0) (row_byte b k 1) (row_byte b k 2) (row_byte b k 3) s ≡ shape
        (concept_at (table_of b) k) s
    shape-bytes s i =
        let P = parts_at in
        rw (← P.kind-is, ← P.role-is, ← P.left_is, ← P.right_is) (form-shape (concept_at (table_of b) k) s i)

-- ---- the cases of a row whose bytes are read

pub record RowRead (b : Bytes) (k : ℕ) (s : Sign) (kind role left right written : ℕ) : Type 0 where
  pub draft : Draft b
  pub row : k < row_count b
  pub idle : NoInclusion (table_of b) k
  pub kind-is : kind ≡ row_byte b k 0
  pub role-is : role ≡ row_byte b k 1
  pub left_is : left ≡ row_byte b k 2
  pub right_is : right ≡ row_byte b k 3
  pub written_is : written ≡ written_kind kind s

pub row_read : {b : Bytes} {k : ℕ} {s : Sign} {kind role left right written : ℕ} → Draft b × (k < row_count b) × NoInclusion (table_of b) k
    → kind ≡ row_byte b k 0 → role ≡ row_byte b k 1 → left ≡ row_byte b k 2 → right ≡ row_byte b k 3 → written ≡ written_kind kind s
    → RowRead b k s kind role left right written
row_read (D, h, n) kind role left right written = record {
  draft = D;
  row = h;
  idle = n;
  kind-is = kind;
  role-is = role;
  left_is = left;
  right_is = right;
  written_is = written;
}

written-literal : (kind : ℕ) (s : Sign) → 0 < kind → kind ≤ 2 → IsLiteral (written_kind kind s)
unfolding written_kind
written-literal zero s p h = absurd (omega arith)
written-literal (suc zero) true p h = inl refl
written-literal (suc zero) false p h = inr refl
written-literal (suc (suc zero)) true p h = inr refl
written-literal (suc (suc zero)) false p h = inl refl
written-literal (suc (suc (suc k))) s p h = absurd (omega arith)

written-modal : {kind : ℕ} (s : Sign) → IsModal kind → IsModal (written_kind kind s)
unfolding written_kind
written-modal true (inl e) = rw e (inl refl)
written-modal true (inr e) = rw e (inr refl)
written-modal false (inl e) = rw e (inr refl)
written-modal false (inr e) = rw e (inl refl)

written-pair : {kind : ℕ} (s : Sign) → IsPair kind → IsPair (written_kind kind s)
unfolding written_kind
written-pair true (inl e) = rw e (inl refl)
written-pair true (inr e) = rw e (inr refl)
written-pair false (inl e) = rw e (inr refl)
written-pair false (inr e) = rw e (inl refl)

written-implication : {kind : ℕ} (s : Sign) → kind ≡ 9 → IsPair (written_kind kind s)
unfolding written_kind
written-implication true e = rw e (inr refl)
written-implication false e = rw e (inl refl)

-- the kinds that there are
kind-pos : (c : Concept) → 0 < kind_of c
unfolding kind_of
kind-pos (atomic a) = omega arith
kind-pos (negated a) = omega arith
kind-pos (conj l r) = omega arith
kind-pos (disj l r) = omega arith
kind-pos (univ ρ l) = omega arith
kind-pos (exist ρ l) = omega arith
kind-pos (inclusion ρ σ) = omega arith
kind-pos (neg l) = omega arith
kind-pos (impl l r) = omega arith

kind-pair : (c : Concept) → T (not (is_inclusion c)) → 2 < kind_of c → (eqb (kind_of c) 5 || eqb (kind_of c) 6) ≡ false → (kind_of c ≡ 8 → ⊥)
    → (kind_of c ≡ 9 → ⊥)
    → IsPair (kind_of c)
unfolding kind_of
kind-pair (atomic a) i h m n o = absurd (omega arith)
kind-pair (negated a) i h m n o = absurd (omega arith)
kind-pair (conj l r) i h m n o = inl refl
kind-pair (disj l r) i h m n o = inr refl
kind-pair (univ ρ l) i h m n o = impossible cc
kind-pair (exist ρ l) i h m n o = impossible cc
kind-pair (inclusion ρ σ) i h m n o = absurd i
kind-pair (neg l) i h m n o = absurd (n refl)
kind-pair (impl l r) i h m n o = absurd (o refl)

kind-modal : (kind : ℕ) → (eqb kind 5 || eqb kind 6) ≡ true → IsModal kind
kind-modal kind e = elim (or_cases (eqb kind 5) (eqb kind 6) (from-true _ e)) [ inl t ↦ inl (eqb→eq kind 5 t) | inr t ↦ inr (eqb→eq kind 6 t) ]

module _ {b : Bytes} {k : ℕ} {s : Sign} {kind role left right written : ℕ} (R : RowRead b k s kind role left right written) where
  by_form : form_of kind role left right s ≡ shape (concept_at (table_of b) k) s
  by_form = rw (R.kind-is, R.role-is, R.left_is, R.right_is) (shape-bytes R.draft k R.row s R.idle)

  kind_at : kind_of (concept_at (table_of b) k) ≡ kind
  kind_at = (parts_at R.draft k R.row).kind-is ∙ sym R.kind-is

  pub literal-case : kind ≤ 2 → ShapeAt b k s (Literal written left)
  unfolding form_of
  literal-case h = record {
    becomes = rw (le-leb kind 2 h, ← R.written_is) at by_form;
    fits = rw R.written_is (written-literal kind s (omega (arith, kind_at, kind-pos (concept_at (table_of b) k))) h);
  }

  module _ (other-kind : 2 < kind) where
    pub unary-case : (eqb kind 5 || eqb kind 6) ≡ true → ShapeAt b k s (Unary written role s left)
    unfolding form_of
    unary-case e = record {
      becomes = rw (lt-leb kind 2 other-kind, e, ← R.written_is) at by_form;
      fits = rw R.written_is (written-modal s (kind-modal kind e));
    }

    module _ (no-modal : (eqb kind 5 || eqb kind 6) ≡ false) where
      pub negation-case : kind ≡ 8 → ShapeAt b k s (Other (not s) left)
      unfolding form_of
      negation-case e = record { becomes = rw (lt-leb kind 2 other-kind, no-modal, eq-eqb kind 8 e) at by_form; fits = tt }

      module _ (no-negation : kind ≡ 8 → ⊥) where
        pub implication-case : kind ≡ 9 → ShapeAt b k s (Binary written (not s) left s right)
        unfolding form_of
        implication-case e = record {
          becomes = rw (lt-leb kind 2 other-kind, no-modal, ne_eqb kind 8 no-negation, eq-eqb kind 9 e, ← R.written_is) at by_form;
          fits = rw R.written_is (written-implication s e);
        }

        pub binary-case : (kind ≡ 9 → ⊥) → ShapeAt b k s (Binary written s left s right)
        unfolding form_of
        binary-case n =
            let pair = kind-pair (concept_at (table_of b) k) R.idle in
            record {
              becomes = rw (lt-leb kind 2 other-kind, no-modal, ne_eqb kind 8 no-negation, ne_eqb kind 9 n, ← R.written_is) at by_form;
              fits = rw R.written_is (written-pair s (rw kind_at at pair other-kind no-modal no-negation n));
            }
