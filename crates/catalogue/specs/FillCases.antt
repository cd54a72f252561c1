-- The ways through the loops that write entries, on plain values.
--
-- In order: entries of words of the same rows; a row, entry by entry; all rows.
use Rattle.std.specs.Prelude.{◌≡◌, List, [], ◌∷◌, ◌++◌, map, ℕ, ◌+◌, ◌-◌, ◌*◌, ◌≤◌, ◌<◌, length, get_or, take, drop, set}
use Rattle.std.proofs.Math.Path.{refl}
use Rattle.std.proofs.Common.{sym, ap, ◌∙◌, mul-le-mul, mul-le-mul_right, add-mul, arith, length-drop, length-take-le}
use Rattle.std.proofs.lemmas.List.{length-map}
use Rattle.std.proofs.Math.Seq.{take-length}
use borrow.Author.Rules.{part_to_end}
use borrow.Rule.Slice.PartMut.{put_mid}
use Rattle.concepts.specs.ListLaws.{get_or-mem, map-append}
use Rattle.concepts.specs.RowSet.{from_list}
use Rattle.procedure.specs.Tableau.{run}
use Rattle.words.specs.Words.{overwrite}
use Rattle.words.specs.WordLaws.{overwrite-more, take_more, length-overwrite, overwrite-piece, put_back}
use Rattle.run.specs.Said.{said}
use Rattle.decoder.specs.Want.{with_wanted, SameRows}
use Rattle.decoder.specs.WantLaws.{same-serve, same-all}
use Rattle.graph.specs.Graphs.{Work, capacity_of, Sized}
use Rattle.graph.specs.GraphLaws.{sized-places}
use Rattle.subsumption.specs.Names.{row_after_row}
use Rattle.subsumption.proofs.NameLaws.{length-row_after_row, row_after_row-append, row_after_row-one}
use Rattle.engine.specs.Asking.{PiecesWritten}
use Rattle.engine.specs.AskingLaws.{written_none, written-more, written_all}
use Rattle.catalogue.specs.Clauses.{entry_number, ran_entry, EntryAsks, EntryGives, RowAsks, RowGives, FillAsks, FillGives}

-- the same runs, in areas as long
same_entries : {ws ws' : List ℕ} {w w' : Work} → SameRows with_wanted ws ws' → Sized w w'
    → ran_entry ws' (capacity_of w') ≡ ran_entry ws (capacity_of w)
same_entries S Z i p q = entry_number (said (run (S.problem-is (from_list (p ∷ q ∷ [])) i) (sized-places Z i)))

-- ---- a row, entry by entry

-- the first j entries
abbrev pub row_up_to : List ℕ → Work → ℕ → List ℕ → ℕ → List ℕ
row_up_to ws w p negatives j = map (ran_entry ws (capacity_of w) p) (take j negatives)

module _ {ws : List ℕ} {p : ℕ} {negatives row : List ℕ} (A : RowAsks ws p negatives row) (w : Work) where
  pub row-none : PiecesWritten with_wanted (row_up_to ws w p negatives) (length negatives) ws w row 0 ws w row
  row-none = written_none A.decoded refl

  module _ (j : ℕ) {ws' : List ℕ} {w' : Work} {row' : List ℕ}
      (L : PiecesWritten with_wanted (row_up_to ws w p negatives) (length negatives) ws w row j ws' w' row') where
    row-length : j ≡ length (row_up_to ws w p negatives j)
    row-length = sym (length-map (take j negatives) (ran_entry ws (capacity_of w) p) ∙ length-take-le j negatives L.within)

    pub row-size : length row' ≡ length row
    row-size = ap length L.here ∙ length-overwrite (row_up_to ws w p negatives j) row (omega (arith, row-length, A.room, L.within))

    pub row-asks : j < length negatives → EntryAsks ws' p (get_or negatives j 0)
    row-asks h = record {
      decoded = L.same.decoded;
      positive = same-serve L.same A.positive;
      negative = same-serve L.same (A.negative (get_or negatives j 0) (get_or-mem negatives j 0 h));
    }

    pub row_more : j < length negatives → {r : ℕ} {ws'' : List ℕ} {w'' : Work}
        → EntryGives ws' (capacity_of w') p (get_or negatives j 0) r ws'' → length ws'' ≡ length ws' → Sized w' w''
        → PiecesWritten with_wanted (row_up_to ws w p negatives) (length negatives) ws w row (j + 1) ws'' w'' (set row' j r)
    row_more h {r} G words Z =
        let f = ran_entry ws (capacity_of w) p in
        let is : r ≡ f (get_or negatives j 0) = G.entry-is ∙ (λ i. same_entries L.same L.sized i p (get_or negatives j 0)) in
        let more : row_up_to ws w p negatives (j + 1) ≡ row_up_to ws w p negatives j ++ f (get_or negatives j 0) ∷ [] =
        ap (map f) (take_more negatives j h) ∙ map-append f (take j negatives) (get_or negatives j 0 ∷ []) in
        written-more L h G.same words Z
        ((λ i. set (L.here i) j (is i))
        ∙ overwrite-more (row_up_to ws w p negatives j) row j (f (get_or negatives j 0)) (sym row-length) (omega (arith, A.room))
        ∙ ap (λ (xs : List ℕ). overwrite xs row) (sym more))

    pub row-all : length negatives ≤ j → RowGives ws (capacity_of w) p negatives row ws' row'
    row-all h = record {
      row_is = written_all L h ∙ ap (λ (xs : List ℕ). overwrite (map (ran_entry ws (capacity_of w) p) xs) row) (take-length negatives);
      same = L.same;
    }

-- ---- all rows

-- the entries of the first i rows
abbrev pub table_up_to : List ℕ → Work → (positives negatives : List ℕ) → ℕ → List ℕ
table_up_to ws w positives negatives i = row_after_row (ran_entry ws (capacity_of w)) (take i positives) negatives

module _ {ws positives negatives table : List ℕ} (A : FillAsks ws positives negatives table) (w : Work) where
  abbrev entries : ℕ → List ℕ
  entries i = table_up_to ws w positives negatives i

  pub fill_none : PiecesWritten with_wanted (table_up_to ws w positives negatives) (length positives) ws w table 0 ws w table
  unfolding row_after_row
  fill_none = written_none A.decoded refl

  module _ (i : ℕ) {ws' : List ℕ} {w' : Work} {table' : List ℕ}
      (L : PiecesWritten with_wanted (table_up_to ws w positives negatives) (length positives) ws w table i ws' w' table') where
    table-length : i * length negatives ≡ length (entries i)
    table-length =
        sym (length-row_after_row (ran_entry ws (capacity_of w)) (take i positives) negatives
        ∙ ap (λ (n : ℕ). n * length negatives) (length-take-le i positives L.within))

    table-within : i * length negatives ≤ length table
    table-within = omega (arith, mul-le-mul_right (length negatives) L.within, A.room)

    pub table-size : length table' ≡ length table
    table-size = ap length L.here ∙ length-overwrite (entries i) table (omega (arith, table-length, table-within))

    pub row-start : i * length negatives ≤ length table'
    row-start = omega (arith, table-size, table-within)

    -- it fits a word
    pub row-start-small : i * length negatives ≤ 4096
    row-start-small = mul-le-mul {n₂ = 64} {m₂ = 64} (omega (arith, L.within, A.few.0)) A.few.1

    -- what is behind the first i rows
    abbrev pub behind : List ℕ
    behind = take (length table' - i * length negatives) (drop (i * length negatives) table')

    behind-is : behind ≡ drop (i * length negatives) table'
    behind-is = part_to_end table' (i * length negatives)

    pub fill-asks : i < length positives → RowAsks ws' (get_or positives i 0) negatives behind
    fill-asks h = record {
      decoded = L.same.decoded;
      positive = same-serve L.same (A.positive (get_or positives i 0) (get_or-mem positives i 0 h));
      negative = same-all L.same A.negative;
      room =
          let next : (i + 1) * length negatives ≤ length positives * length negatives = mul-le-mul_right (length negatives) (omega arith) in
          omega (arith, ap length behind-is, length-drop (i * length negatives) table', table-size, add-mul i 1 (length negatives), next, A.room);
    }

    pub fill_more : i < length positives → {ws'' : List ℕ} {w'' : Work} {row : List ℕ}
        → RowGives ws' (capacity_of w') (get_or positives i 0) negatives behind ws'' row → length ws'' ≡ length ws' → Sized w' w''
        → PiecesWritten with_wanted (table_up_to ws w positives negatives) (length positives) ws w table (i + 1) ws'' w''
        (put_mid (i * length negatives) (length table' - i * length negatives) table' row)
    fill_more h {row = row} G words Z =
        let f = ran_entry ws (capacity_of w) in
        let p = get_or positives i 0 in
        let is : row ≡ overwrite (map (f p) negatives) (drop (i * length negatives) table') =
        G.row_is ∙ (λ j. overwrite (map (same_entries L.same L.sized j p) negatives) (behind-is j)) in
        written-more L h G.same words Z
        (put_back table' row row-start ∙ ap (λ (b : List ℕ). take (i * length negatives) table' ++ b) is
        ∙ overwrite-piece (entries i) (map (f p) negatives) table table-length L.here
        ∙ ap (λ (xs : List ℕ). overwrite xs table) (sym (rows_more h)))
      where
        rows_more : i < length positives → entries (i + 1) ≡ entries i ++ map (ran_entry ws (capacity_of w) (get_or positives i 0)) negatives
        rows_more l =
            let f = ran_entry ws (capacity_of w) in
            let p = get_or positives i 0 in
            ap (λ (ps : List ℕ). row_after_row f ps negatives) (take_more positives i l)
            ∙ row_after_row-append f (take i positives) (p ∷ []) negatives
            ∙ ap (λ (xs : List ℕ). entries i ++ xs) (row_after_row-one f p negatives)

    pub fill-all : length positives ≤ i → FillGives ws (capacity_of w) positives negatives table ws' table'
    fill-all h = record {
      table_is = written_all L h ∙ ap (λ (ps : List ℕ). overwrite (row_after_row (ran_entry ws (capacity_of w)) ps negatives) table) (take-length positives);
      same = L.same;
    }
