-- Laws of Rows.
--
-- In order: the table's length and rows; the parts of a row's concept are its bytes, and its kind is below 8; lists of rows as sets.
use Rattle.std.specs.Prelude.{◌≡◌, List, ℕ, ◌<◌, T, length}
use Rattle.std.proofs.Common.{ap, ◌∙◌, arith}
use Rattle.concepts.specs.ListLaws.{length-map-range, get_or-map-range}
use Rattle.concepts.specs.Concept.{Concept, atomic, negated, conj, disj, univ, exist, inclusion, neg, impl, concept_at, role_of, is_normal, NoInclusion}
use Rattle.concepts.specs.RowSet.{mem, from_list}
use Rattle.concepts.specs.RowSetLaws.{from_list-mem}
use Rattle.decoding.specs.RowParts.{kind_of}
use Rattle.decoding.specs.RowPartLaws.{Parts, row-parts, role-small, rule-kinds-normal}
use Rattle.problem.specs.Rows.{row_byte, row_count, concept_in, table_in, Rows, ListsRows}

-- ---- the table

pub length-table_in : (b : List ℕ) → length (table_in b) ≡ row_count b
unfolding table_in
length-table_in b = length-map-range (concept_in b) 0 (row_count b)

pub concept-table_in : (b : List ℕ) (k : ℕ) → k < row_count b → concept_at (table_in b) k ≡ concept_in b k
unfolding table_in
concept-table_in b k h = get_or-map-range (concept_in b) 0 (row_count b) k (atomic 0) h ∙ ap (concept_in b) (omega arith)

-- ---- the parts of a row

-- the kinds of negation normal form are 1 to 7
normal-kind : (c : Concept) → T (is_normal c) → kind_of c < 8
unfolding kind_of
normal-kind (atomic a) n = omega arith
normal-kind (negated a) n = omega arith
normal-kind (conj l r) n = omega arith
normal-kind (disj l r) n = omega arith
normal-kind (univ ρ l) n = omega arith
normal-kind (exist ρ l) n = omega arith
normal-kind (inclusion ρ σ) n = omega arith
normal-kind (neg l) n = absurd n
normal-kind (impl l r) n = absurd n

module _ {b : List ℕ} (rows : Rows b) (k : ℕ) (h : k < row_count b) where
  pub byte-parts : Parts (row_byte b k 0) (row_byte b k 1) (row_byte b k 2) (row_byte b k 3) (concept_at (table_in b) k)
  byte-parts = rw (concept-table_in b k h) (row-parts _ (row_byte b k 0) (row_byte b k 1) (row_byte b k 2) (row_byte b k 3) (rows.formed k h))

  pub byte-role : role_of (concept_at (table_in b) k) < 32
  byte-role = rw (concept-table_in b k h) (role-small _ (row_byte b k 0) (row_byte b k 1) (row_byte b k 2) (row_byte b k 3) (rows.formed k h))

  pub byte-kind : kind_of (concept_at (table_in b) k) < 8
  byte-kind = rw (concept-table_in b k h) (normal-kind (concept_in b k) (rule-kinds-normal (row_byte b k 0) (row_byte b k 1) (row_byte b k 2) (row_byte b k 3)))

-- ---- lists of rows

pub listed-inside : (b : List ℕ) {list : List ℕ} → ListsRows b list → (k : ℕ) → T (mem k (from_list list)) → (k < length (table_in b))
    × NoInclusion (table_in b) k
listed-inside b {list} listed k m = let (h, s) = listed k (from_list-mem k list m) in (omega (arith, length-table_in b), s)
