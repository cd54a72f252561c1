-- The rows, the rules and the wanted rows of an accepted rule file: what their decoding requires holds, and the table is the file's.
use Rattle.std.specs.Prelude.{◌≡◌, refl, false, ℕ, ◌+◌, ◌*◌, ◌≤◌, ◌<◌, length, get_or, drop}
use Rattle.std.proofs.Common.{sym, ◌∙◌, arith, length-drop, length-take-le, get_or-take, get_or-drop}
use Rattle.std.proofs.Math.Path.{ap, subst}
use mathlib.Core.List.{List, map, Memᴰ}
use Rattle.concepts.specs.Lists.{Bytes, range}
use Rattle.concepts.specs.ListLaws.{range-mem, map_same}
use Rattle.concepts.specs.Concept.{Table, concept_at, arguments, NoInclusion, Serves, as_argument, as_rule, as_wanted, Ordered}
use Rattle.rulefile.specs.Format as Format
use Rattle.rulefile.specs.Format.{rows_part}
use Rattle.decoding.specs.Decoding.{rule_kinds, concept_of, malformed}
use Rattle.rulefile.specs.Checks.{Parted, PassedAll}
use Rattle.rulefile.specs.CheckLaws.{parted, accepted-contents, accepted-passed, accepted-parted}
use Rattle.rulefile.proofs.FormatLaws.{row-formed, contents-admitted, accepted-admitted}
use Rattle.problem.specs.Rows.{row_byte, row_count, concept_in, table_in, Rows, ListsRows}
use Rattle.decoder.specs.RowLaws.{length-table_in}

module _ (b : Bytes) (p : Parted b) where
  pub row_count-rows_part : row_count (rows_part b) ≡ Format.row_count b
  row_count-rows_part =
      let n = 4 * Format.row_count b in
      let l : n ≤ length (drop (Format.first_row b) b) = omega (arith, length-drop (Format.first_row b) b, p.parts) in
      omega (arith, length-take-le n (drop (Format.first_row b) b) l)

  pub row_byte-rows_part : (k i : ℕ) → k < Format.row_count b → i < 4 → row_byte (rows_part b) k i ≡ Format.row_byte b k i
  row_byte-rows_part k i h j =
      let q : Format.first_row b + (4 * k + i) ≡ Format.first_row b + 4 * k + i = omega arith in
      get_or-take (4 * Format.row_count b) (drop (Format.first_row b) b) (4 * k + i) 0 (omega arith)
      ∙ get_or-drop (Format.first_row b) b (4 * k + i) 0 ∙ ap (λ (x : ℕ). get_or b x 0) q

  -- what holds of the bytes of row k in the file holds of those in the part
  four_bytes : (P : ℕ → ℕ → ℕ → ℕ → Type 0) (k : ℕ) → k < Format.row_count b
      → P (Format.row_byte b k 0) (Format.row_byte b k 1) (Format.row_byte b k 2) (Format.row_byte b k 3)
      → P (row_byte (rows_part b) k 0) (row_byte (rows_part b) k 1) (row_byte (rows_part b) k 2) (row_byte (rows_part b) k 3)
  four_bytes P k h =
      let at : (i : ℕ) → i < 4 → row_byte (rows_part b) k i ≡ Format.row_byte b k i = λ i j. row_byte-rows_part k i h j in
      λ holds. rw (at 0 (omega arith), at 1 (omega arith), at 2 (omega arith), at 3 (omega arith)) holds

  pub table-rows_part : table_in (rows_part b) ≡ (Format.contents rule_kinds b).table
  unfolding table_in
  table-rows_part =
      ap (λ (n : ℕ). map (concept_in (rows_part b)) (range 0 n)) row_count-rows_part
      ∙ map_same (concept_in (rows_part b)) (Format.concept_in rule_kinds b) (range 0 (Format.row_count b)) (λ k m.
      let h : k < Format.row_count b = omega (arith, (range-mem 0 (Format.row_count b) k m).1) in
      four_bytes (λ kind role left right. concept_of rule_kinds kind role left right ≡ Format.concept_in rule_kinds b k) k h refl)

module _ (wanted : List ℕ) (b : Bytes) (passed : PassedAll rule_kinds wanted b) where
  rows-rows_part : Rows (rows_part b)
  rows-rows_part =
      let p : Parted b = parted rule_kinds wanted b passed (omega arith) in
      record {
        few = omega (arith, row_count-rows_part b p, p.few_rows);
        formed = λ k h.
            let l : k < Format.row_count b = omega (arith, row_count-rows_part b p) in
            four_bytes b p (λ kind role left right. malformed rule_kinds kind role left right ≡ false) k l
            (unfold Format.bad_row in row-formed rule_kinds wanted b passed k l);
        ordered = subst Ordered (sym (table-rows_part b p)) (contents-admitted rule_kinds wanted b passed).well_formed.ordered;
        arguments =
            subst (λ (t : Table). (k l : ℕ) → Memᴰ l (arguments (concept_at t k)) → NoInclusion t l) (sym (table-rows_part b p))
            (λ k l m. (contents-admitted rule_kinds wanted b passed).well_formed.serving l (as_argument k m));
      }

-- an accepted file
module _ (wanted : List ℕ) (b : Bytes) (f : Format.RuleFile) (e : Format.reading_for rule_kinds wanted b ≡ Format.accepted f) where
  pub accepted-rows : Rows (rows_part b)
  accepted-rows = rows-rows_part wanted b (accepted-passed rule_kinds wanted b f e)

  pub accepted-table : table_in (rows_part b) ≡ f.table
  accepted-table = rw (accepted-contents rule_kinds wanted b f e) (table-rows_part b (accepted-parted rule_kinds wanted b f e))

  inside : (k : ℕ) → k < length f.table → k < row_count (rows_part b)
  inside k h = omega (arith, ap length accepted-table, length-table_in (rows_part b))

  serving : (k : ℕ) → Serves f.table f.tbox f.wanted k → NoInclusion (table_in (rows_part b)) k
  serving k s = subst (λ (t : Table). NoInclusion t k) (sym accepted-table) ((accepted-admitted rule_kinds wanted b f e).well_formed.serving k s)

  pub accepted-rules : ListsRows (rows_part b) f.tbox
  accepted-rules k m = (inside k ((accepted-admitted rule_kinds wanted b f e).well_formed.rule_rows k m), serving k (as_rule m))

  pub accepted-wanted : ListsRows (rows_part b) f.wanted
  accepted-wanted k m = (inside k ((accepted-admitted rule_kinds wanted b f e).well_formed.wanted_rows k m), serving k (as_wanted m))
