-- From the entries that runs gave to the catalogue's answer and the areas afterwards, on plain values; then the promise.
--
-- In order: an entry by what is said; the words of an accepted file, its entries and its names; the answer with 17, and with the table filled; the promise.
use Rattle.std.specs.Prelude.{◌≡◌, refl, Bool, ℕ, ◌*◌, ◌≤◌, ◌<◌, ltb}
use Rattle.std.proofs.Math.Path.{sym, ap, subst}
use Rattle.std.proofs.Common.{◌∙◌, subst₂, arith, lt-ltb, le-ltb}
use Rattle.std.proofs.Math.Bool.{true, false}
use mathlib.Core.List.{List, Memᴰ}
use Rattle.std.proofs.Math.ListN.{length, replicate}
use Rattle.concepts.specs.Lists.{Bytes}
use Rattle.concepts.specs.Concept.{Table}
use Rattle.concepts.specs.RowSet.{from_list}
use Rattle.words.specs.Words.{overwrite}
use Rattle.decoding.specs.Decoding.{rule_kinds}
use Rattle.rulefile.specs.Format.{wanted_rows, refused, reading}
use Rattle.reader.specs.Read.{LaidFor, Laid}
use Rattle.reader.specs.PartLaws.{laid-placed}
use Rattle.rulefile.specs.WantedLaws as Wanted
use Rattle.reader.specs.declared.Layout.{Layout}
use Rattle.procedure.specs.Problem.{Problem}
use Rattle.procedure.specs.Tableau.{run}
use Rattle.run.specs.Run.{Lengths, capacity, Answer, refused_file, short, cannot, can, too_long, undefined, file_problem}
use Rattle.run.specs.Said.{said, said_by}
use Rattle.run.proofs.Verdict.{Backs, answer-accepted, answer-backed}
use Rattle.run.proofs.Said.{result-said}
use Rattle.problem.specs.Decoded.{table_of}
use Rattle.decoder.specs.Want.{with_wanted}
use Rattle.decoder.specs.FileProblem.{FileDecoded}
use Rattle.subsumption.specs.Names.{positive, negative, names, row_after_row}
use Rattle.subsumption.proofs.NameLaws.{row_after_row-same}
use Rattle.subsumption.specs.Catalogue.{Areas, areas_of, lent, entry_of, entry, Catalogue, refused_with, listed, listed_in, catalogue}
use Rattle.subsumption.specs.Catalogue.{CatalogueNumbers, refusal_alone, numbers, areas_after}
use Rattle.subsumption.specs.Promise.{CataloguePromise}
use Rattle.subsumption.proofs.Entry.{rows_for, reads-rows}
use Rattle.subsumption.proofs.Kept.{entries_of, catalogue-refused, catalogue-accepted, promise-kept}
use Rattle.catalogue.specs.Clauses.{Lists, entry_number, ran_entry, FillGives, Answered}
use Rattle.catalogue.specs.ListedLaws.{positives-count, listed-table}
use Rattle.catalogue.specs.declared.Listed.{Listed}

-- ---- an entry goes by what the engine's answer says

entry-said : (a : Answer) → entry_of a ≡ entry_number (said_by a)
unfolding entry_of said_by
entry-said (refused_file n) = refl
entry-said (short r n) = refl
entry-said (cannot u) = refl
entry-said (can u x) = refl
entry-said (too_long x) = refl
entry-said undefined = refl

-- ---- an accepted file

-- it has a wanted row of its own
module _ {b : Bytes} {l : Layout} (L : Laid rule_kinds b l) {v : List ℕ} (own : 8 ≤ length b → v ≡ wanted_rows b) where
  v-is : v ≡ wanted_rows b
  v-is = own (laid-placed L).parts.least

  pub own-laid : LaidFor rule_kinds v b l
  own-laid = subst (λ (w : List ℕ). LaidFor rule_kinds w b l) (sym v-is) L

  pub own-decoded : {ws : List ℕ} → FileDecoded v b ws → FileDecoded (wanted_rows b) b ws
  own-decoded {ws} D = subst (λ (w : List ℕ). FileDecoded w b ws) v-is D

-- the words stand for the file
module _ {b : Bytes} {l : Layout} (L : Laid rule_kinds b l) {ws : List ℕ} (F : FileDecoded (wanted_rows b) b ws) where
  abbrev t : Table
  t = L.file.table

  table_is : table_of ws ≡ t
  table_is = ap (λ (P : Problem). P.table) (F.problem-is L.file L.reads)

  -- what a run says of two names is what the engine answers to their rows
  entry-is : (room : Lengths) (x y : ℕ) → Memᴰ x (names t) → Memᴰ y (names t)
      → ran_entry ws (capacity room) (positive t x) (negative t y) ≡ entry b room t x y
  unfolding entry
  entry-is room x y mx my =
      let f = L.file in
      let given = Wanted.wanting (rows_for f x y) f in
      let answered = answer-accepted (rows_for f x y) b room given (reads-rows b f L.reads room x y mx my) in
      let backs = subst (Backs given room) answered (answer-backed (rows_for f x y) b room given (reads-rows b f L.reads room x y mx my)) in
      ap (λ (P : Problem). entry_number (said (run (with_wanted (from_list (rows_for f x y)) P) (capacity room)))) (F.problem-is f L.reads)
      ∙ sym (ap entry_of answered ∙ entry-said _ ∙ ap entry_number (result-said given room (run (file_problem given) (capacity room)) backs))

  entries-are : (room : Lengths)
      → row_after_row (λ x y. ran_entry ws (capacity room) (positive (table_of ws) x) (negative (table_of ws) y)) (names (table_of ws)) (names (table_of ws))
      ≡ entries_of b room L.file
  entries-are room =
      ap (λ (u : Table). row_after_row (λ x y. ran_entry ws (capacity room) (positive u x) (negative u y)) (names u) (names u)) table_is
      ∙ row_after_row-same (λ x y. ran_entry ws (capacity room) (positive t x) (negative t y)) (entry b room t) (names t) (names t) (entry-is room)

  module _ {k : Listed} (G : Lists (table_of ws) (names (table_of ws)) k) where
    -- the names of the words are the file's
    count-is : length k.positives ≡ length (names t)
    count-is = positives-count G ∙ ap (λ (u : Table). length (names u)) table_is

    names-are : k.names ≡ from_list (names t)
    names-are = G.names-are ∙ ap (λ (u : Table). from_list (names u)) table_is

    module _ (before : Areas) where
      abbrev room : Lengths
      room = lent before

      -- the answer, by whether the area is shorter than the square
      abbrev answer_if : Bool → Catalogue
      answer_if lacking = elim lacking [ true ↦ refused_with 17 | false ↦ listed (names t) (entries_of b room L.file) ]

      answer-by : (x : Bool) → ltb (length before.table) (length (names t) * length (names t)) ≡ x
          → catalogue b room (length before.table) ≡ answer_if x
      unfolding listed_in
      answer-by x e = catalogue-accepted b room (length before.table) L.file L.reads ∙ ap answer_if e

      -- so many are counted
      module _ {m : ℕ} (hm : m ≡ length k.positives) where
        square : length (names t) * length (names t) ≡ m * m
        square = ap (λ (n : ℕ). n * n) (sym (hm ∙ count-is))

        -- "no area is then changed"
        pub page-short : {r : CatalogueNumbers} → r ≡ refusal_alone 17 → length before.table < m * m → Answered b before r before
        unfolding numbers areas_after
        page-short hr h =
            let is = answer-by true (lt-ltb (length before.table) (length (names t) * length (names t)) (omega (arith, square, h))) in
            record {
              numbers_are = hr ∙ sym (ap numbers is);
              areas_are = sym (ap (λ (c : Catalogue). areas_after c before) is);
            }

        -- the runs filled the table, and then the work areas were cleared, each of which kept its length until then
        pub page-filled : {r : CatalogueNumbers} → r ≡ record { refusal = 0; count = m; names = k.names } → m * m ≤ length before.table
            → {ps ns : List ℕ} → ps ≡ k.positives → ns ≡ k.negatives
            → {ws' table' : List ℕ} → FillGives ws (capacity room) ps ns before.table ws' table'
            → {n e a : Bytes} {n₁ e₁ a₁ : ℕ} → n ≡ replicate n₁ 0 → n₁ ≡ length before.nodes → e ≡ replicate e₁ 0
            → e₁ ≡ length before.edges
            → a ≡ replicate a₁ 0 → a₁ ≡ length before.alternatives → Answered b before r (areas_of n e a table')
        unfolding numbers areas_after
        page-filled hr h hps hns W zn hn ze he za ha =
            let pn = zn ∙ ap (λ (m : ℕ). replicate m 0) hn in
            let pe = ze ∙ ap (λ (m : ℕ). replicate m 0) he in
            let pa = za ∙ ap (λ (m : ℕ). replicate m 0) ha in
            let is = answer-by false (le-ltb (length before.table) (length (names t) * length (names t)) (omega (arith, square, h))) in
            let filled = listed-table ws G hps hns W ∙ ap (λ (es : Bytes). overwrite es before.table) (entries-are room) in
            record {
              numbers_are = hr ∙ (λ i. record { refusal = 0; count = (hm ∙ count-is) i; names = names-are i }) ∙ sym (ap numbers is);
              areas_are = (λ i. areas_of (pn i) (pe i) (pa i) (filled i)) ∙ sym (ap (λ (c : Catalogue). areas_after c before) is);
            }

-- ---- the promise

module _ (b : Bytes) (before : Areas) where
  pub promised : (r : CatalogueNumbers) (after : Areas) → Answered b before r after → CataloguePromise b before r after
  promised r after A = subst₂ (λ (x : CatalogueNumbers) (y : Areas). CataloguePromise b before x y) (sym A.numbers_are) (sym A.areas_are)
      (promise-kept b before)

  pub refused-answered : (n : ℕ) → reading b ≡ refused n → (r : CatalogueNumbers) → r ≡ refusal_alone n → CataloguePromise b before r before
  unfolding numbers areas_after
  refused-answered n e r hr =
      let q = catalogue-refused b (lent before) (length before.table) n e in
      promised r before (record { numbers_are = hr ∙ sym (ap numbers q); areas_are = sym (ap (λ (c : Catalogue). areas_after c before) q) })
