-- What becomes of a row, as the code tells it: by kinds and bytes. Laws are in ShapeLaws.
--
-- In order: a shape of the code as one of the definitions, and its kind; the kind that is written; a shape by a row's four bytes; where a place is remembered.
use Rattle.std.specs.Prelude.{◌≡◌, not, cond, ◌||◌, ◌⊎◌, ℕ, ◌+◌, ◌*◌, eqb, leb}
use Rattle.concepts.specs.Lists.{Bytes}
use Rattle.concepts.specs.Concept.{Table, concept_at}
use Rattle.decoding.specs.Decoding.{draft_kinds}
use Rattle.decoding.specs.RowParts.{of_parts}
use Rattle.rulefile.specs.Format.{most_rows, contents}
use Rattle.drafts.specs.Normalize as Normalize
use Rattle.drafts.specs.Normalize.{Sign, literal, other, unary, binary, shape}
use Rattle.normalize.specs.declared.Shape.{Shape}
use Rattle.normalize.specs.declared.Shape.TheVariants.{Literal, Other, Unary, Binary}

-- ---- a shape

abbrev pub shape_of : Shape → Normalize.Shape
shape_of (Literal kind name) = literal (of_parts kind 0 name 0)
shape_of (Other s l) = other s l
shape_of (Unary kind role s l) = unary (λ (i : ℕ). of_parts kind role i 0) s l
shape_of (Binary kind s l z r) = binary (λ (i j : ℕ). of_parts kind 0 i j) s l z r

-- the kinds of names, of rows with a role, and of rows with two arguments
abbrev pub IsLiteral : ℕ → Type 0
IsLiteral kind = (kind ≡ 1) ⊎ (kind ≡ 2)

abbrev pub IsModal : ℕ → Type 0
IsModal kind = (kind ≡ 5) ⊎ (kind ≡ 6)

abbrev pub IsPair : ℕ → Type 0
IsPair kind = (kind ≡ 3) ⊎ (kind ≡ 4)

abbrev pub KindFits : Shape → Type 0
KindFits (Literal kind name) = IsLiteral kind
KindFits (Other s l) = Unit {0}
KindFits (Unary kind role s l) = IsModal kind
KindFits (Binary kind s l z r) = IsPair kind

-- the rows of a draft
abbrev pub table_of : Bytes → Table
table_of b = (contents draft_kinds b).table

-- it is what becomes of row k of the draft, or of its opposite
pub record ShapeAt (b : Bytes) (k : ℕ) (s : Sign) (σ : Shape) : Type 0 where
  pub becomes : shape_of σ ≡ shape (concept_at (table_of b) k) s
  pub fits : KindFits σ

-- ---- by a row's bytes

-- "if" is "either", or as its opposite "both"
unfoldable pub written_kind : ℕ → Sign → ℕ
written_kind kind s =
    cond s (cond (eqb kind 9) 4 kind)
    (cond (eqb kind 1) 2 (cond (eqb kind 2) 1 (cond (eqb kind 3) 4 (cond (eqb kind 4) 3 (cond (eqb kind 5) 6 (cond (eqb kind 6) 5 3))))))

unfoldable pub form_of : (kind role left right : ℕ) → Sign → Normalize.Shape
form_of kind role left right s =
    cond (leb kind 2) (literal (of_parts (written_kind kind s) 0 left 0))
    (cond (eqb kind 5 || eqb kind 6) (unary (λ (i : ℕ). of_parts (written_kind kind s) role i 0) s left)
    (cond (eqb kind 8) (other (not s) left)
    (cond (eqb kind 9) (binary (λ (i j : ℕ). of_parts (written_kind kind s) 0 i j) (not s) left s right)
    (binary (λ (i j : ℕ). of_parts (written_kind kind s) 0 i j) s left s right))))

-- ---- where the place of a row, or of its opposite, is remembered

-- so many places: two for each row that a draft has at most
abbrev pub slots : ℕ
slots = 2 * most_rows

abbrev pub slot_of : ℕ → Sign → ℕ
slot_of k s = cond s (2 * k) (2 * k + 1)
