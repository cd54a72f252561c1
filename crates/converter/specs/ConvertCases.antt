-- The ways through the converter, on plain values.
--
-- In order: answers by their names; a draft that passed the checks; its inclusions, its rules and its wanted row, put one after the other; too many rows;
-- the file's bytes; a file that does not fit, or does; the call.
use Rattle.std.specs.Prelude.{◌≡◌, true, false, ◌||◌, ℕ, ◌+◌, ◌*◌, ◌≤◌, ◌<◌, ltb, replicate, None, Result, Ok, Err, IsErr}
use Rattle.std.proofs.Math.Path.{refl, ap}
use Rattle.std.proofs.Common.{sym, ◌∙◌, subst, length-take-le}
use Rattle.std.proofs.lemmas.List.{get_or-take}
use mathlib.Core.List.{List, [], ◌∷◌, Memᴰ}
use native.Mathlib.Omega.{arith}
use Rattle.std.proofs.Math.ListN.{length, get_or, take}
use borrow.Author.Tests.{lt-ltb, le-ltb, ltb-false}
use Rattle.concepts.specs.Lists.{Bytes}
use Rattle.concepts.specs.Tests.{or-neither}
use Rattle.concepts.specs.ListLaws.{length-map-range}
use Rattle.concepts.specs.Begins.{begins-length}
use Rattle.concepts.specs.Concept.{Table, concept_at, as_rule, as_wanted}
use Rattle.decoding.specs.Decoding.{draft_kinds}
use Rattle.rulefile.specs.Format.{rule_count, rule, rules, wanted_rows, most_rows, most_rules, RuleFile, contents, refused, accepted}
use Rattle.reader.specs.Read.{Laid}
use Rattle.rulefile.specs.CheckLaws.{accepted-contents, accepted-passed}
use Rattle.rulefile.specs.FormatLaws.{Admitted}
use Rattle.rulefile.proofs.FormatLaws.{contents-admitted}
use Rattle.reader.specs.PartLaws.{laid-placed, whole}
use Rattle.reader.specs.declared.Layout.{Layout}
use Rattle.words.specs.Words.{overwrite}
use Rattle.drafts.specs.Normalize.{PutList, put_list, inclusion_rows, normalized}
use Rattle.drafts.proofs.PutListLaws.{put_list-grown}
use Rattle.drafts.specs.Encoding.{row_bytes, trailer, file_bytes}
use Rattle.drafts.proofs.EncodingLaws.{length-file_bytes}
use Rattle.drafts.specs.Conversion.{draft_reading, Conversion, ConversionNumbers, refused_with, written, too_large, written_or, numbers, conversion, area_after}
use Rattle.drafts.specs.Promise.{ConversionPromise}
use Rattle.drafts.proofs.Kept.{conversion-refused, conversion-accepted, promise-kept}
use Rattle.normalize.specs.Words.{row_in}
use Rattle.normalize.specs.WordLaws.{own-parts, length-rows_in, concept_at-rows_in}
use Rattle.normalize.specs.Shapes.{table_of, slots}
use Rattle.normalize.specs.ShapeLaws.{draft-parted, draft-ordered, draft-rows}
use Rattle.normalize.specs.Clauses.{Draft, rows_of, ListAsks, ListGives, KeepAsks, KeepGives}
use Rattle.normalize.specs.PutCases.{remembers-none}
use Rattle.normalize.specs.declared.Written.{Written}
use Rattle.normalize.specs.declared.TooLarge.{TooLarge}
use Rattle.encoder.specs.Encoder.{word_bytes, words_bytes, parts_bytes, FileAsks}
use Rattle.encoder.specs.EncoderLaws.{words_bytes-table}
use Rattle.converter.specs.Clauses.{refused_numbers, numbers_given, Converts, result, FinishAsks}

-- ---- answers by their names

pub list-as : {b list : List ℕ} {w w' : Written} {places places' : List ℕ} {r q : Result (Unit {0}) TooLarge}
    → ListGives b list w w' places places' r → r ≡ q → ListGives b list w w' places places' q
list-as {b} {list} {w} {w'} {places} {places'} G e = subst (ListGives b list w w' places places') e G

pub numbers_as : {b before : Bytes} {r q : ConversionNumbers} {after : Bytes} → Converts b before r after → q ≡ r → Converts b before q after
numbers_as C e = record { numbers_are = e ∙ C.numbers_are; area_is = C.area_is }

pub given_as : {b before after : Bytes} (r : Result ℕ TooLarge) → Converts b before (refused_numbers 12) after → IsErr r
    → Converts b before (numbers_given r) after
given_as (Ok n) C q = absurd (cc)
given_as (Err e) C q = C

pub given-is : {b before after : Bytes} {r s : Result ℕ TooLarge} → Converts b before (numbers_given r) after → r ≡ s
    → Converts b before (numbers_given s) after
given-is {b} {before} {after} C e = subst (λ (x : Result ℕ TooLarge). Converts b before (numbers_given x) after) e C

-- ---- a draft that passed the checks

module _ {b : Bytes} {l : Layout} (L : Laid draft_kinds b l) where
  laid-draft : Draft b
  laid-draft = record { passed = accepted-passed draft_kinds (wanted_rows b) b L.file L.reads }

  laid-admitted : Admitted (contents draft_kinds b)
  laid-admitted = contents-admitted draft_kinds (wanted_rows b) b laid-draft.passed

  laid-reading : draft_reading b ≡ accepted (contents draft_kinds b)
  laid-reading = L.reads ∙ ap accepted (accepted-contents draft_kinds (wanted_rows b) b L.file L.reads)

  conversion-laid : (room : ℕ) → conversion b room ≡ written_or (too_large room (result b)) (result b)
  conversion-laid room = conversion-accepted b room (contents draft_kinds b) laid-reading

  -- ---- the inclusions, the rules, and then the wanted row

  abbrev rule_places : PutList
  rule_places = put_list (table_of b) (rules b) (inclusion_rows (table_of b))

  abbrev kit_places : PutList
  kit_places = put_list (table_of b) (wanted_rows b) rule_places.rows

  pub inclusions-asks : (w : Written) → length w.words ≡ most_rows → KeepAsks b l.rows w
  inclusions-asks w words = record { draft = laid-draft; rows = ap (λ (x : Layout). x.rows) (laid-placed L).layout; size = words }

  module _ {list : List ℕ} (is-rules : list ≡ rules b) {w w₀ : Written} (I : KeepGives b w w₀) (places : List ℕ)
      (room : length places ≡ most_rules) where
    -- no place is remembered yet
    pub rules-asks : w.memo ≡ replicate slots None → ListAsks b list w₀ places
    rules-asks at-first = record {
      draft = laid-draft;
      listed = λ k m. omega (arith, laid-admitted.well_formed.rule_rows k (subst (λ (ks : List ℕ). Memᴰ k ks) is-rules m), draft-rows laid-draft);
      idle = λ k m. laid-admitted.well_formed.serving k (as_rule (subst (λ (ks : List ℕ). Memᴰ k ks) is-rules m));
      held = I.held;
      remembered = rw (I.memo_is, at-first) (remembers-none (rows_of w₀) (draft-parted laid-draft).few_rows);
      room = omega (arith, ap length is-rules, laid-admitted.few_rules);
    }

    rules-put : put_list (table_of b) list (rows_of w₀) ≡ rule_places
    rules-put = rw (is-rules, I.rows)

    -- too many rows
    pub rules-full : {w' : Written} {places' : List ℕ} {e : TooLarge} → ListGives b list w₀ w' places places' (Err e)
        → most_rows < length (result b).table
    unfolding normalized
    rules-full G =
        let long : most_rows < length rule_places.rows = rw rules-put at G.got in
        omega (
          arith,
          begins-length rule_places.rows kit_places.rows
              (put_list-grown (table_of b) (draft-ordered laid-draft) (wanted_rows b) rule_places.rows).more,
        )

    module _ {w' : Written} {places' : List ℕ} {u : Unit {0}} (G : ListGives b list w₀ w' places places' (Ok u)) {kit : List ℕ}
        (is-kit : kit ≡ wanted_rows b) where
      pub kit-asks : ListAsks b kit w' (0 ∷ [])
      kit-asks = record {
        draft = laid-draft;
        listed = λ k m. omega (arith, laid-admitted.well_formed.wanted_rows k (subst (λ (ks : List ℕ). Memᴰ k ks) is-kit m), draft-rows laid-draft);
        idle = λ k m. laid-admitted.well_formed.serving k (as_wanted (subst (λ (ks : List ℕ). Memᴰ k ks) is-kit m));
        held = G.got.held;
        remembered = G.got.remembered;
        room = omega (arith, ap length is-kit);
      }

      kit-put : put_list (table_of b) kit (rows_of w') ≡ kit_places
      kit-put = rw (is-kit, G.got.rows, rules-put)

      pub kit-full : {w'' : Written} {wanted' : List ℕ} {e : TooLarge} → ListGives b kit w' w'' (0 ∷ []) wanted' (Err e)
          → most_rows < length (result b).table
      unfolding normalized
      kit-full F = rw kit-put at F.got

      -- ---- all rows are known
      pub finish-asks : {w'' : Written} {wanted' : List ℕ} {v : Unit {0}} → ListGives b kit w' w'' (0 ∷ []) wanted' (Ok v)
          → FinishAsks b l w'' places' (get_or wanted' 0 0)
      unfolding normalized
      finish-asks {wanted' = wanted'} F =
          let P = laid-placed L in
          let count : l.rules ≡ length list =
          omega (arith, ap (λ (x : Layout). x.rules) P.layout, ap length is-rules, length-map-range (rule b) 0 (rule_count b)) in
          record {
            laid = L;
            held = F.got.held;
            rows = F.got.rows ∙ ap (λ (q : PutList). q.rows) kit-put;
            listed = omega (arith, G.place_size, ap length is-rules, laid-admitted.few_rules);
            tbox = ap (λ (k : ℕ). take k places') count ∙ G.got.told ∙ ap (λ (q : PutList). q.places) rules-put;
            kit = first-only wanted' F.place_size ∙ ap (λ (ks : List ℕ). take (length ks) wanted') (sym is-kit) ∙ F.got.told
                ∙ ap (λ (q : PutList). q.places) kit-put;
          }
        where
          first-only : (xs : List ℕ) → length xs ≡ 1 → get_or xs 0 0 ∷ [] ≡ take 1 xs
          first-only [] e = absurd (omega arith)
          first-only (x ∷ xs) e = refl

-- ---- an answer: 12, or a file

module _ {b : Bytes} {l : Layout} (L : Laid draft_kinds b l) {before : Bytes} where
  refused-large : too_large (length before) (result b) ≡ true → Converts b before (refused_numbers 12) before
  unfolding written_or numbers area_after
  refused-large h =
      let large : conversion b (length before) ≡ refused_with 12 = conversion-laid L (length before) ∙ rw h in
      record { numbers_are = ap numbers (sym large); area_is = ap (λ (c : Conversion). area_after c before) (sym large) }

  pub too_many : most_rows < length (result b).table → Converts b before (refused_numbers 12) before
  unfolding too_large
  too_many h = refused-large (rw (lt-ltb most_rows (length (result b).table) h))

-- ---- the file's bytes

module _ {b : Bytes} {l : Layout} {w : Written} {list : List ℕ} {wanted : ℕ} (A : FinishAsks b l w list wanted) where
  abbrev f : RuleFile
  f = result b

  abbrev n : ℕ
  n = w.count

  abbrev words : List ℕ
  words = take n w.words

  pub words-size : length words ≡ n
  words-size = length-take-le n w.words (omega (arith, A.held.few, A.held.size))

  -- its parts are small
  pub finish-small : (l.text ≤ length b) × (l.text ≤ 4096) × (l.rules ≤ most_rules) × (n ≤ most_rows)
  finish-small =
      let P = laid-placed A.laid in
      (omega (arith, whole P), omega (arith, whole P), rw P.layout P.parts.few_rules, A.held.few)

  -- its text is that of the draft
  text_at : take l.text b ≡ f.text
  unfolding normalized
  text_at = ap (λ (k : ℕ). take k b) (ap (λ (x : Layout). x.text) (laid-placed A.laid).layout)

  text-size : length f.text ≡ l.text
  text-size = ap length (sym text_at) ∙ length-take-le l.text b (omega (arith, whole (laid-placed A.laid)))

  row_count_lem : length f.table ≡ n
  row_count_lem = ap length (sym A.rows) ∙ length-rows_in w.words n

  rule-count : length f.tbox ≡ l.rules
  rule-count = ap length (sym A.tbox) ∙ length-take-le l.rules list A.listed

  -- as the code cuts them out
  pub text-part : l.text ≡ length (take l.text b)
  text-part = sym (ap length text_at ∙ text-size)

  pub rules-part : l.rules ≡ length (take l.rules list)
  rules-part = sym (length-take-le l.rules list A.listed)

  pub result-size : l.text + 4 * n + l.rules + 8 ≡ length (file_bytes f)
  result-size = omega (arith, length-file_bytes f, text-size, row_count_lem, rule-count)

  -- the words are its rows
  word_row : (i : ℕ) → i < length words → word_bytes (get_or words i 0) ≡ row_bytes (concept_at f.table i)
  word_row i inside =
      let h : i < n = omega (arith, words-size) in
      let (k, o, x, y) = own-parts (A.held.own i h) in
      let row : concept_at f.table i ≡ row_in (get_or w.words i 0) = ap (λ (t : Table). concept_at t i) (sym A.rows) ∙ concept_at-rows_in w.words n i h in
      rw (get_or-take n w.words i 0 h, row, k, o, x, y)

  parts_are : parts_bytes (take l.text b) (words_bytes words) (take l.rules list) (length words) wanted ≡ file_bytes f
  unfolding parts_bytes file_bytes trailer
  parts_are =
      let kit : wanted ≡ get_or f.wanted 0 0 = ap (λ (ks : List ℕ). get_or ks 0 0) A.kit in
      rw (text_at, words_bytes-table words f.table (row_count_lem ∙ sym words-size) word_row, A.tbox, kit, words-size, ← row_count_lem)

  -- ---- a file that does not fit, or does

  -- the code's tests are those of the definition
  tests : (room : ℕ) (size : ℕ) → size ≡ length (file_bytes f) → too_large room f ≡ (ltb 4096 size || ltb room size)
  unfolding too_large
  tests room size e = rw (row_count_lem, le-ltb most_rows n A.held.few, e)

  pub finish-refused : (before : Bytes) {size : ℕ} → (ltb 4096 size || ltb (length before) size) ≡ true → size ≡ l.text + 4 * n + l.rules + 8
      → Converts b before (refused_numbers 12) before
  finish-refused before {size} h e = refused-large A.laid (tests (length before) size (e ∙ result-size) ∙ h)

  module _ (before : Bytes) {size : ℕ} (h : (ltb 4096 size || ltb (length before) size) ≡ false) (e : size ≡ l.text + 4 * n + l.rules + 8) where
    pub finish-room : (size ≤ 4096) × (size ≤ length before)
    finish-room = let (p, q) = or-neither (ltb 4096 size) (ltb (length before) size) h in (ltb-false 4096 size p, ltb-false (length before) size q)

    pub finish-file : FileAsks before (take l.text b) words (take l.rules list)
    finish-file =
        let (short, room) = finish-room in
        record {
          few_rows = omega (arith, A.held.few, words-size);
          few_rules = omega (arith, finish-small, rules-part);
          short_text = omega (arith, finish-small, text-part);
          room = omega (arith, text-part, rules-part, words-size);
        }

    pub finish-written : {after : Bytes} → after ≡ overwrite (parts_bytes (take l.text b) (words_bytes words) (take l.rules list) (length words) wanted) before
        → Converts b before (record { refusal = 0; length = size }) after
    unfolding written_or numbers area_after
    finish-written {after} w =
        let fits : conversion b (length before) ≡ written (file_bytes f) =
        conversion-laid A.laid (length before) ∙ rw (tests (length before) size (e ∙ result-size), h) in
        record {
          numbers_are = ap (λ (k : ℕ). record { refusal = 0; length = k }) (e ∙ result-size) ∙ ap numbers (sym fits);
          area_is = w ∙ ap (λ (x : Bytes). overwrite x before) parts_are ∙ ap (λ (c : Conversion). area_after c before) (sym fits);
        }

-- ---- the call

pub refused-converts : (b : Bytes) {before : Bytes} (n : ℕ) → draft_reading b ≡ refused n → Converts b before (refused_numbers n) before
unfolding numbers area_after
refused-converts b {before} n e =
    let c = conversion-refused b (length before) n e in
    record { numbers_are = ap numbers (sym c); area_is = ap (λ (x : Conversion). area_after x before) (sym c) }

pub converts-promise : {b before : Bytes} {r : ConversionNumbers} {after : Bytes} → Converts b before r after → ConversionPromise b before r after
converts-promise {b} {before} C = rw (C.numbers_are, C.area_is) (promise-kept b before)
