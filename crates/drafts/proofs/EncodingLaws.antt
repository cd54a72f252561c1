-- Laws of Encoding: a file that is written in bytes reads as the same file.
--
-- In order: lists and files; how long the parts of the bytes are (`length-table_bytes`, `length-file_bytes`);
-- where each part stands, of any file (`trailer_byte-file_bytes`, `first_row-file_bytes`, `row_bytes-file_bytes`, `rule-file_bytes`);
-- of a file that is `Writable`: its rows are decoded to themselves (`decode-file_bytes`), each check passes (`bad_length-file_bytes` to `passed-file_bytes`),
-- the bytes hold the file (`contents-file_bytes`), so it reads as it was written (`written_back`).
use Rattle.std.specs.Prelude.{◌≡◌, refl, Bool, ℕ, zero, suc, ◌+◌, ◌-◌, ◌*◌, ◌<◌, ltb, take, Some}
use Rattle.std.proofs.Math.Path.{sym, ap}
use Rattle.std.proofs.Common.{◌∙◌, not-suc-le-zero, le_of_suc-le-suc, zero-add, arith, length-append, get_or-append-add}
use Rattle.std.proofs.Math.Bool.{false, not}
use mathlib.Core.List.{List, [], ◌∷◌, ◌++◌, append_assoc}
use Rattle.std.proofs.Math.Nat.{mod-add-div}
use Rattle.std.proofs.Math.Decide.{dec_lt}
use Rattle.std.proofs.Math.Dec.{eqb, leb}
use Rattle.std.proofs.Math.ListN.{length, get_or, get_or-append}
use Rattle.std.proofs.Math.Seq.{take_at}
use borrow.Author.Tests.{le-ltb, lt-leb, eq-eqb, ne_eqb}
use Rattle.concepts.specs.Tests.{impossible, and-nothing, as-false}
use Rattle.concepts.specs.Lists.{Bytes, NoneBelow, any}
use Rattle.concepts.specs.ListLaws.{get_or-mem, map-range-whole, any_none, any-range-none, NoneBelow-suc}
use Rattle.concepts.specs.Concept.{atomic, Table, concept_at, arguments, is_inclusion, NoInclusion, as_argument, as_rule, as_wanted}
use Rattle.decoding.specs.Decoding.{rule_kinds, decode, malformed, concept_of}
use Rattle.decoding.specs.RowPartLaws.{row-parts, decode-own}
use Rattle.rulefile.specs.Format.{trailer_byte, first_row, row_count, rule_count, wanted_row, wanted_rows, row_byte}
use Rattle.rulefile.specs.Format.{rule, concept_in, RuleFile, contents, accepted, reading}
use Rattle.rulefile.specs.Format.{most_rows, most_rules, bad_length, bad_mark, bad_counts, bad_place, bad_row, bad_argument}
use Rattle.rulefile.specs.Format.{some_row, same_row, repeated, bad_rule, inclusion_at, inclusion_named, inclusion_serves, checks}
use Rattle.rulefile.specs.Checks.{refuses_at, PassedAll}
use Rattle.rulefile.specs.CheckLaws.{reading-accepted}
use Rattle.drafts.specs.Normalize.{same_row as same_parts}
use Rattle.drafts.specs.Encoding.{row_bytes, table_bytes, trailer, file_bytes}
use Rattle.drafts.specs.Sound.{Writable}

-- ---- lists and files

module _ {A : Type 0} where
  -- a place past the first list is one of the second
  get_d_past : (xs ys : List A) (d : A) (n k : ℕ) → n ≡ length xs + k → get_or (xs ++ ys) n d ≡ get_or ys k d
  get_d_past xs ys d n k e = rw e (get_or-append-add xs ys k d)

  -- a list of one element
  singleton : (xs : List A) (d : A) → length xs ≡ 1 → get_or xs 0 d ∷ [] ≡ xs
  singleton [] d e = impossible e
  singleton (x ∷ []) d e = refl
  singleton (x ∷ y ∷ xs) d e = absurd (omega arith)

-- a list of one element that fails
one-fails : (f : ℕ → Bool) (x : ℕ) → f x ≡ false → any f (x ∷ []) ≡ false
unfolding any
one-fails f x e = rw e

-- files are the same if their parts are
same-file : {f g : RuleFile} → f.text ≡ g.text → f.table ≡ g.table → f.tbox ≡ g.tbox → f.wanted ≡ g.wanted → f ≡ g
same-file a b c d i = record { text = a i; table = b i; tbox = c i; wanted = d i }

-- ---- how long the parts are

pub length-table_bytes : (t : Table) → length (table_bytes t) ≡ 4 * length t
unfolding table_bytes
length-table_bytes [] = refl
length-table_bytes (c ∷ cs) = omega (arith, length-table_bytes cs)

pub length-file_bytes : (f : RuleFile) → length (file_bytes f) ≡ length f.text + 4 * length f.table + length f.tbox + 8
unfolding file_bytes trailer
length-file_bytes f = simp (length-append, length-table_bytes) (omega arith)

-- ---- where the parts stand

-- byte i of row k, whatever comes after the rows
get_or-table_bytes : (t : Table) (rest : Bytes) (k i : ℕ) → k < length t → i < 4
    → get_or (table_bytes t ++ rest) (4 * k + i) 0 ≡ get_or (row_bytes (concept_at t k)) i 0
unfolding table_bytes
get_or-table_bytes [] rest k i h l = absurd (not-suc-le-zero h)
get_or-table_bytes (c ∷ cs) rest zero i h l = rw zero-add (get_or-append (row_bytes c) (table_bytes cs ++ rest) 0 i l)
get_or-table_bytes (c ∷ cs) rest (suc k) i h l =
    get_d_past (row_bytes c) (table_bytes cs ++ rest) 0 (4 * suc k + i) (4 * k + i) (omega arith) ∙ get_or-table_bytes cs rest k i (le_of_suc-le-suc h) l

module _ (f : RuleFile) where
  trailer_byte-file_bytes : (i : ℕ) → trailer_byte (file_bytes f) i ≡ get_or (trailer f) i 0
  unfolding file_bytes
  trailer_byte-file_bytes i =
      let front = f.text ++ (table_bytes f.table ++ f.tbox) in
      let whole : file_bytes f ≡ front ++ trailer f = simp append_assoc in
      let long : length front ≡ length f.text + 4 * length f.table + length f.tbox = simp (length-append, length-table_bytes) (omega arith) in
      ap (λ (b : Bytes). get_or b (length (file_bytes f) - 8 + i) 0) whole
      ∙ get_d_past front (trailer f) 0 (length (file_bytes f) - 8 + i) i (omega (arith, length-file_bytes f))

  first_row-file_bytes : first_row (file_bytes f) ≡ length f.text
  unfolding trailer
  first_row-file_bytes = rw (trailer_byte-file_bytes 0, trailer_byte-file_bytes 1) (mod-add-div (length f.text) 256)

  row_count-file_bytes : row_count (file_bytes f) ≡ length f.table
  unfolding trailer
  row_count-file_bytes = trailer_byte-file_bytes 2

  rule_count-file_bytes : rule_count (file_bytes f) ≡ length f.tbox
  unfolding trailer
  rule_count-file_bytes = trailer_byte-file_bytes 3

  wanted_row-file_bytes : wanted_row (file_bytes f) ≡ get_or f.wanted 0 0
  unfolding trailer
  wanted_row-file_bytes = trailer_byte-file_bytes 4

  -- byte i of row k
  row_byte-file_bytes : (k i : ℕ) → k < length f.table → i < 4 → row_byte (file_bytes f) k i ≡ get_or (row_bytes (concept_at f.table k)) i 0
  unfolding file_bytes
  row_byte-file_bytes k i h l =
      get_d_past f.text (table_bytes f.table ++ (f.tbox ++ trailer f)) 0 (first_row (file_bytes f) + 4 * k + i) (4 * k + i)
      (omega (arith, first_row-file_bytes))
      ∙ get_or-table_bytes f.table (f.tbox ++ trailer f) k i h l

  -- the four bytes of row k
  row_bytes-file_bytes : (k : ℕ) → k < length f.table
      → row_byte (file_bytes f) k 0 ∷ row_byte (file_bytes f) k 1 ∷ row_byte (file_bytes f) k 2 ∷ row_byte (file_bytes f) k 3 ∷ [] ≡ row_bytes
      (concept_at f.table k)
  row_bytes-file_bytes k h =
      cc (
        row_byte-file_bytes k 0 h (omega arith),
        row_byte-file_bytes k 1 h (omega arith),
        row_byte-file_bytes k 2 h (omega arith),
        row_byte-file_bytes k 3 h (omega arith),
      )

  rule-file_bytes : (i : ℕ) → i < length f.tbox → rule (file_bytes f) i ≡ get_or f.tbox i 0
  unfolding file_bytes
  rule-file_bytes i h =
      let at = first_row (file_bytes f) + 4 * row_count (file_bytes f) + i in
      get_d_past f.text (table_bytes f.table ++ (f.tbox ++ trailer f)) 0 at (4 * length f.table + i)
      (omega (arith, first_row-file_bytes, row_count-file_bytes))
      ∙ get_d_past (table_bytes f.table) (f.tbox ++ trailer f) 0 (4 * length f.table + i) i (omega (arith, length-table_bytes f.table))
      ∙ get_or-append f.tbox (trailer f) 0 i h

-- ---- of a file that can be written

module _ (f : RuleFile) (W : Writable f) where
  -- so there is a row
  wanted-lt : get_or f.wanted 0 0 < length f.table
  wanted-lt = W.wanted_rows (get_or f.wanted 0 0) (get_or-mem f.wanted 0 0 (omega arith))

  -- ---- its rows

  decode-file_bytes : (k : ℕ) → k < length f.table
      → decode rule_kinds (row_byte (file_bytes f) k 0) (row_byte (file_bytes f) k 1) (row_byte (file_bytes f) k 2) (row_byte (file_bytes f) k 3)
      ≡ Some (concept_at f.table k)
  decode-file_bytes k h = cc (row_bytes-file_bytes f k h, decode-own (concept_at f.table k) (W.sound.normal k) (W.sound.ranged k))

  concept_in-file_bytes : (k : ℕ) → k < length f.table → concept_in rule_kinds (file_bytes f) k ≡ concept_at f.table k
  concept_in-file_bytes k h = rw (decode-file_bytes k h, concept_of)

  -- ---- the checks

  bad_length-file_bytes : bad_length (file_bytes f) ≡ false
  unfolding bad_length
  bad_length-file_bytes = rw (le-ltb (length (file_bytes f)) 8 (omega (arith, length-file_bytes f)), le-ltb 4096 (length (file_bytes f)) W.short)

  bad_mark-file_bytes : bad_mark (file_bytes f) ≡ false
  unfolding bad_mark trailer
  bad_mark-file_bytes = rw (trailer_byte-file_bytes f 5, trailer_byte-file_bytes f 6, trailer_byte-file_bytes f 7)

  bad_counts-file_bytes : bad_counts (file_bytes f) ≡ false
  unfolding bad_counts
  bad_counts-file_bytes =
      rw (row_count-file_bytes f, rule_count-file_bytes f, ne_eqb (length f.table) 0 (λ e. omega (arith, wanted-lt)))
      (rw (le-ltb most_rows (length f.table) W.few_rows, le-ltb most_rules (length f.tbox) W.few_rules))

  bad_place-file_bytes : bad_place (file_bytes f) ≡ false
  unfolding bad_place
  bad_place-file_bytes =
      ap not
      (eq-eqb (first_row (file_bytes f) + 4 * row_count (file_bytes f) + rule_count (file_bytes f) + 8) (length (file_bytes f))
      (omega (arith, first_row-file_bytes f, row_count-file_bytes f, rule_count-file_bytes f, length-file_bytes f)))

  -- a check of each row passes if it does for the rows of the table
  some_row-file_bytes : (test : ℕ → Bool) → NoneBelow test (length f.table) → some_row (file_bytes f) test ≡ false
  some_row-file_bytes test h = any-range-none test (row_count (file_bytes f)) (λ k l. h k (omega (arith, row_count-file_bytes f)))

  bad_row-file_bytes : (k : ℕ) → k < length f.table → bad_row rule_kinds (file_bytes f) k ≡ false
  unfolding bad_row
  bad_row-file_bytes k h = rw (decode-file_bytes k h, malformed)

  bad_argument-file_bytes : (k : ℕ) → k < length f.table → bad_argument rule_kinds (file_bytes f) k ≡ false
  unfolding bad_argument
  bad_argument-file_bytes k h =
      rw (concept_in-file_bytes k h)
      (any_none (λ l. leb k l) (arguments (concept_at f.table k)) (λ l m. lt-leb k l (W.sound.ordered k l m)))

  same_row-file_bytes : (j k : ℕ) → j < length f.table → k < length f.table
      → same_row (file_bytes f) k j ≡ same_parts (concept_at f.table k) (concept_at f.table j)
  unfolding same_row same_parts
  same_row-file_bytes j k h l = cc (row_bytes-file_bytes f j h, row_bytes-file_bytes f k l)

  repeated-file_bytes : (k : ℕ) → k < length f.table → repeated (file_bytes f) k ≡ false
  unfolding repeated
  repeated-file_bytes k h =
      any-range-none (same_row (file_bytes f) k) k (λ j l. same_row-file_bytes j k (omega arith) h ∙ W.sound.distinct j k l h)

  rule-lt : (i : ℕ) → i < rule_count (file_bytes f) → rule (file_bytes f) i < row_count (file_bytes f)
  rule-lt i h =
      let l : i < length f.tbox = omega (arith, rule_count-file_bytes f) in
      omega (arith, W.rule_rows (get_or f.tbox i 0) (get_or-mem f.tbox i 0 l), rule-file_bytes f i l, row_count-file_bytes f)

  bad_rule-file_bytes : bad_rule (wanted_rows (file_bytes f)) (file_bytes f) ≡ false
  unfolding bad_rule
  bad_rule-file_bytes =
      let n = row_count (file_bytes f) in
      rw (any-range-none (λ i. leb n (rule (file_bytes f) i)) (rule_count (file_bytes f)) (λ i h. lt-leb n (rule (file_bytes f) i) (rule-lt i h)))
      (one-fails (λ k. leb n k) (wanted_row (file_bytes f))
      (lt-leb n (wanted_row (file_bytes f)) (omega (arith, wanted-lt, row_count-file_bytes f, wanted_row-file_bytes f))))

  -- what is no inclusion in the table is none by its bytes
  inclusion_at-file_bytes : (k : ℕ) → NoInclusion f.table k → inclusion_at (file_bytes f) k ≡ false
  unfolding inclusion_at bad_row
  inclusion_at-file_bytes k None = elim (dec_lt k (length f.table)) [
    | yes h ↦
        let parts = row-parts rule_kinds _ _ _ _ (bad_row-file_bytes k h) in
        let other : eqb (row_byte (file_bytes f) k 0) 7 ≡ false = sym parts.inclusion-is ∙ ap is_inclusion (concept_in-file_bytes k h) ∙ as-false _ None in
        rw other (and-nothing (ltb k (row_count (file_bytes f))))
    | no g ↦ rw (le-ltb k (row_count (file_bytes f)) (omega (arith, row_count-file_bytes f)))
  ]

  inclusion_named-file_bytes : (k : ℕ) → k < length f.table → inclusion_named rule_kinds (file_bytes f) k ≡ false
  unfolding inclusion_named
  inclusion_named-file_bytes k h =
      rw (concept_in-file_bytes k h)
      (any_none (inclusion_at (file_bytes f)) (arguments (concept_at f.table k)) (λ l m. inclusion_at-file_bytes l (W.serving l (as_argument k m))))

  rule-idle : (i : ℕ) → i < rule_count (file_bytes f) → inclusion_at (file_bytes f) (rule (file_bytes f) i) ≡ false
  rule-idle i h =
      let l : i < length f.tbox = omega (arith, rule_count-file_bytes f) in
      rw (rule-file_bytes f i l) (inclusion_at-file_bytes (get_or f.tbox i 0) (W.serving (get_or f.tbox i 0) (as_rule (get_or-mem f.tbox i 0 l))))

  wanted-idle : inclusion_at (file_bytes f) (wanted_row (file_bytes f)) ≡ false
  wanted-idle =
      let wanted = get_or f.wanted 0 0 in
      rw (wanted_row-file_bytes f) (inclusion_at-file_bytes wanted (W.serving wanted (as_wanted (get_or-mem f.wanted 0 0 (omega (arith, W.one_wanted))))))

  inclusion_serves-file_bytes : inclusion_serves rule_kinds (wanted_rows (file_bytes f)) (file_bytes f) ≡ false
  unfolding inclusion_serves
  inclusion_serves-file_bytes =
      rw (some_row-file_bytes (inclusion_named rule_kinds (file_bytes f)) inclusion_named-file_bytes)
      (rw (any-range-none (λ i. inclusion_at (file_bytes f) (rule (file_bytes f) i)) (rule_count (file_bytes f)) rule-idle)
      (one-fails (inclusion_at (file_bytes f)) (wanted_row (file_bytes f)) wanted-idle))

  passed-file_bytes : PassedAll rule_kinds (wanted_rows (file_bytes f)) (file_bytes f)
  unfolding checks
  passed-file_bytes =
      let next = NoneBelow-suc (refuses_at rule_kinds (wanted_rows (file_bytes f)) (file_bytes f)) in
      let p₁ = next 0 (λ k h. absurd (not-suc-le-zero h)) bad_length-file_bytes in
      let p₂ = next 1 p₁ bad_mark-file_bytes in
      let p₃ = next 2 p₂ bad_counts-file_bytes in
      let p₄ = next 3 p₃ bad_place-file_bytes in
      let p₅ = next 4 p₄ (some_row-file_bytes (bad_row rule_kinds (file_bytes f)) bad_row-file_bytes) in
      let p₆ = next 5 p₅ (some_row-file_bytes (bad_argument rule_kinds (file_bytes f)) bad_argument-file_bytes) in
      let p₇ = next 6 p₆ (some_row-file_bytes (repeated (file_bytes f)) repeated-file_bytes) in
      let p₈ = next 7 p₇ bad_rule-file_bytes in
      next 8 p₈ inclusion_serves-file_bytes

  -- ---- the bytes hold the file

  text-file_bytes : take (first_row (file_bytes f)) (file_bytes f) ≡ f.text
  unfolding file_bytes
  text-file_bytes = take_at f.text (table_bytes f.table ++ (f.tbox ++ trailer f)) (first_row (file_bytes f)) (sym (first_row-file_bytes f))

  wanted-file_bytes : wanted_row (file_bytes f) ∷ [] ≡ f.wanted
  wanted-file_bytes = ap (λ (k : ℕ). k ∷ []) (wanted_row-file_bytes f) ∙ singleton f.wanted 0 W.one_wanted

  contents-file_bytes : contents rule_kinds (file_bytes f) ≡ f
  contents-file_bytes =
      same-file text-file_bytes (map-range-whole (concept_in rule_kinds (file_bytes f)) f.table (atomic 0) (row_count-file_bytes f) concept_in-file_bytes)
      (map-range-whole (rule (file_bytes f)) f.tbox 0 (rule_count-file_bytes f) (rule-file_bytes f)) wanted-file_bytes

  pub written_back : reading (file_bytes f) ≡ accepted f
  written_back = reading-accepted rule_kinds (wanted_rows (file_bytes f)) (file_bytes f) passed-file_bytes ∙ ap accepted contents-file_bytes
