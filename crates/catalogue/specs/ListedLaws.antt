-- What the listed names give to whoever fills their table.
--
-- In order: their rows may be wanted, so that the table can be filled (`listed-fill`); its entries by name (`listed-table`).
use Rattle.std.specs.Prelude.{◌≡◌, refl, List, map, ℕ, ◌*◌, ◌≤◌, length}
use Rattle.std.proofs.Common.{ap, ◌∙◌, arith}
use Rattle.std.proofs.lemmas.List.{length-map}
use Rattle.concepts.specs.ListLaws.{map-mem}
use Rattle.concepts.specs.Concept.{Table}
use Rattle.procedure.specs.Graph.{Capacity}
use Rattle.words.specs.Words.{overwrite}
use Rattle.problem.specs.Decoded.{table_of, Decoded}
use Rattle.subsumption.specs.Names.{positive, negative, names, row_after_row}
use Rattle.subsumption.proofs.NameLaws.{names-positive, names-negative, row_after_row-map}
use Rattle.decoder.specs.Want.{AllServe}
use Rattle.catalogue.specs.Clauses.{Lists, ran_entry, FillAsks, FillGives}
use Rattle.catalogue.specs.declared.Listed.{Listed}

-- these rows are those of the listed names
module _ {t : Table} {l : Listed} (L : Lists t (names t) l) {ps ns : List ℕ} (hp : ps ≡ l.positives) (hn : ns ≡ l.negatives) where
  positives-named : ps ≡ map (positive t) (names t)
  positives-named = hp ∙ L.positives-are

  negatives-named : ns ≡ map (negative t) (names t)
  negatives-named = hn ∙ L.negatives-are

  pub positives-serve : AllServe t ps
  positives-serve k m =
      let (a, i, e) = map-mem (positive t) (names t) k (rw positives-named at m) in
      let (h, c) = names-positive t a i in
      rw e (h, rw c tt)

  pub negatives-serve : AllServe t ns
  negatives-serve k m =
      let (a, i, e) = map-mem (negative t) (names t) k (rw negatives-named at m) in
      let (h, c) = names-negative t a i in
      rw e (h, rw c tt)

  positives-length : length ps ≡ length (names t)
  positives-length = ap length positives-named ∙ length-map (names t) (positive t)

  negatives-length : length ns ≡ length (names t)
  negatives-length = ap length negatives-named ∙ length-map (names t) (negative t)

-- how many there are
pub positives-count : {t : Table} {l : Listed} → Lists t (names t) l → length l.positives ≡ length (names t)
positives-count L = positives-length L refl refl

pub negatives-count : {t : Table} {l : Listed} → Lists t (names t) l → length l.negatives ≡ length (names t)
negatives-count L = negatives-length L refl refl

module _ (ws : List ℕ) {l : Listed} (L : Lists (table_of ws) (names (table_of ws)) l) {ps ns : List ℕ} (hp : ps ≡ l.positives)
    (hn : ns ≡ l.negatives) where
  abbrev t : Table
  t = table_of ws

  pub listed-fill : Decoded ws → {m : ℕ} {table : List ℕ} → m ≡ length l.positives → m * m ≤ length table → FillAsks ws ps ns table
  listed-fill ok hm h = record {
    decoded = ok;
    positive = positives-serve L hp hn;
    negative = negatives-serve L hp hn;
    few = (omega (arith, positives-length L hp hn, L.few), omega (arith, negatives-length L hp hn, L.few));
    room = rw (positives-length L hp hn, negatives-length L hp hn, ← (hm ∙ positives-count L)) h;
  }

  pub listed-table : {c : Capacity} {table ws' table' : List ℕ} → FillGives ws c ps ns table ws' table'
      → table' ≡ overwrite (row_after_row (λ a b. ran_entry ws c (positive t a) (negative t b)) (names t) (names t)) table
  listed-table {c} {table} G =
      G.table_is ∙ (λ i. overwrite (row_after_row (ran_entry ws c) (positives-named L hp hn i) (negatives-named L hp hn i)) table)
      ∙ ap (λ (xs : List ℕ). overwrite xs table) (row_after_row-map (ran_entry ws c) (positive t) (negative t) (names t) (names t))
