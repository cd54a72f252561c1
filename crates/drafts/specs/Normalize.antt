-- Negation normal form: which rows are written for the rules and the wanted rows of a draft, behind its role inclusions (02, [1] and [6]).
--
-- In order: what becomes of a row; where equal rows are shared; a row with all that it needs; a list of rows; the inclusions; the file.
-- A row that was written before is found again with all that it needs, so the definition need not remember which rows were written; the code does (`Grown` in PutLaws).
-- Assumes nothing.
use Rattle.std.specs.Prelude.{Bool, true, false, not, ◌&&◌, cond, List, [], ◌∷◌, ◌++◌, ℕ, zero, suc, eqb, length, Option, None, Some}
use Rattle.concepts.specs.Lists.{range, select, first}
use Rattle.concepts.specs.Concept.{Concept, atomic, negated, conj, disj, univ, exist, inclusion, neg, impl, Table, concept_at, role_of, is_inclusion}
use Rattle.decoding.specs.RowParts.{kind_of, left_of, right_of}
use Rattle.rulefile.specs.Format.{RuleFile}

-- ---- what becomes of a row

-- a row is needed as it stands, or its opposite is
abbrev pub Sign : Type 0
Sign = Bool

abbrev pub as_is : Sign
as_is = true

abbrev pub opposite : Sign
opposite = false

pub data Shape : Type 0 where
  literal : Concept → Shape  -- a row without arguments
  other : Sign → ℕ → Shape  -- what becomes of another row, and no row of its own
  unary : (ℕ → Concept) → Sign → ℕ → Shape  -- a row over what becomes of one row
  binary : (ℕ → ℕ → Concept) → Sign → ℕ → Sign → ℕ → Shape  -- a row over what becomes of two

-- "turns "if" into either the opposite of left or right, pushes "not" down to names"
unfoldable pub shape : Concept → Sign → Shape
shape (atomic a) true = literal (atomic a)
shape (atomic a) false = literal (negated a)
shape (negated a) true = literal (negated a)
shape (negated a) false = literal (atomic a)
shape (conj l r) true = binary conj as_is l as_is r
shape (conj l r) false = binary disj opposite l opposite r
shape (disj l r) true = binary disj as_is l as_is r
shape (disj l r) false = binary conj opposite l opposite r
shape (univ ρ l) true = unary (univ ρ) as_is l
shape (univ ρ l) false = unary (exist ρ) opposite l
shape (exist ρ l) true = unary (exist ρ) as_is l
shape (exist ρ l) false = unary (univ ρ) opposite l
-- never asked for: no row of kind 7 "serves as an argument, a rule or the wanted row" (02, [6], refusal 16)
shape (inclusion ρ σ) s = literal (inclusion ρ σ)
shape (neg l) s = other (not s) l
shape (impl l r) true = binary disj opposite l as_is r
shape (impl l r) false = binary conj as_is l opposite r

-- ---- "equal rows are shared"

-- two rows have the same four bytes
unfoldable pub same_row : Concept → Concept → Bool
same_row c d = eqb (kind_of c) (kind_of d) && (eqb (role_of c) (role_of d) && (eqb (left_of c) (left_of d) && eqb (right_of c) (right_of d)))

-- the place of the first row that is equal to this one
unfoldable pub place_of : Concept → Table → Option ℕ
place_of c out = first (λ k. cond (same_row c (concept_at out k)) (Some k) None) (range 0 (length out))

-- the rows that are written, and where the row stands that was asked for
pub record Put : Type 0 where
  pub rows : Table
  pub at : ℕ

abbrev pub stands : Table → ℕ → Put
stands out k = record { rows = out; at = k }

unfoldable pub share : Concept → Table → Put
share c out = elim (place_of c out) [ Some k ↦ stands out k | None ↦ stands (out ++ c ∷ []) (length out) ]

-- ---- "each comes after its arguments, left before right, as first needed"

unfoldable pub put_shape : (Sign → ℕ → Table → Put) → Shape → Table → Put
put_shape put (literal c) out = share c out
put_shape put (other s k) out = put s k out
put_shape put (unary make s k) out = let p = put s k out in share (make p.at) p.rows
put_shape put (binary make s k z l) out =
    let p = put s k out in
    let q = put z l p.rows in
    share (make p.at q.at) q.rows

-- row k of the draft, or its opposite, for rows below a bound; arguments are lower rows, so the bound falls with them
unfoldable pub put_below : Table → ℕ → Sign → ℕ → Table → Put
put_below t zero s k out = stands out 0
put_below t (suc bound) s k out = put_shape (put_below t bound) (shape (concept_at t k) s) out

-- row k of the draft, or its opposite, put to the rows that are written already
unfoldable pub put : Table → Sign → ℕ → Table → Put
put t s k out = put_below t (suc k) s k out

-- ---- the rules and the wanted rows

-- the rows that are written, and where each of a list of rows stands
pub record PutList : Type 0 where
  pub rows : Table
  pub places : List ℕ

unfoldable pub put_list : Table → List ℕ → Table → PutList
put_list t [] out = record { rows = out; places = [] }
put_list t (k ∷ ks) out =
    let p = put t as_is k out in
    let q = put_list t ks p.rows in
    record { rows = q.rows; places = p.at ∷ q.places }

-- ---- the file

-- "A converted draft keeps all its kind 7 rows, in their order, before the other rows" (02, [6])
unfoldable pub inclusion_rows : Table → Table
inclusion_rows t = select is_inclusion t

-- of the other rows "Only rows needed by the rules, in list order, and then by the wanted row are written .. The rule list keeps its length and order, repeats included"
unfoldable pub normalized : RuleFile → RuleFile
normalized draft =
    let rules = put_list draft.table draft.tbox (inclusion_rows draft.table) in
    let kit = put_list draft.table draft.wanted rules.rows in
    record { text = draft.text; table = kit.rows; tbox = rules.places; wanted = kit.places }
