-- The normalized draft: it can be written as a rule file, and keeps what the draft says.
--
-- In order: the rules and the wanted rows, put one list after the other behind the inclusions; the places are rows, and no inclusions (`normalized-writable`);
-- each is needed, and means what it meant (`normalized-keeps`).
use mathlib.Core.Path.{◌≡◌, refl, sym, ◌∙◌, subst}
use mathlib.Core.Bool.{false, not, ◌||◌}
use mathlib.Core.List.{List, Memᴰ}
use mathlib.Core.Logic.Iff
use Prim.Native.Nat.{ℕ, ◌≤◌, ◌<◌}
use native.Mathlib.Decide.{dec_lt}
use native.Mathlib.Omega.{arith}
use lib.Dec.{T, ltb}
use lib.ListN.{length, get_or, get_or-eq_default}
use borrow.Author.Tests.{ltb-false}
use Rattle.concepts.specs.Tests.{or-neither}
use Rattle.concepts.specs.ListLaws.{get_or-mem, mem-get_or}
use Rattle.concepts.specs.Begins.{Begins, begins-refl, begins-trans}
use Rattle.concepts.specs.Concept.{Concept, atomic, Table, concept_at, Ordered, is_inclusion, NoInclusion, Serves, as_argument, as_rule, as_wanted}
use Rattle.meaning.specs.Meaning.{World}
use Rattle.decoding.specs.RowParts.{in_range}
use Rattle.rulefile.specs.Format.{most_rows, RuleFile}
use Rattle.rulefile.specs.FormatLaws.{Admitted}
use Rattle.drafts.specs.Normalize.{as_is, stands, Put, put, PutList, put_list, inclusion_rows, normalized}
use Rattle.drafts.specs.Encoding.{file_bytes}
use Rattle.drafts.specs.Conversion.{too_large}
use Rattle.drafts.specs.Promise.{Needed, by_rule, by_kit, by_row, Same, Keeps}
use Rattle.drafts.specs.Sound.{Idle, Sound, Writable}
use Rattle.drafts.proofs.PutLaws.{put-grown}
use Rattle.drafts.proofs.SoundLaws.{put-sound}
use Rattle.drafts.proofs.InclusionRowLaws.{inclusion_rows-sound}
use Rattle.drafts.specs.NeededLaws.{Reaches, itself, through}
use Rattle.drafts.proofs.NeededLaws.{reaches-grown}
use Rattle.drafts.proofs.MeaningLaws.{MeansRow, put-means}
use Rattle.drafts.proofs.PutListLaws.{ListGrown, put_list-grown, put_list-sound}

-- ---- a list of rows at its places in a table that has all of them

module _ (t : Table) (ordered : Ordered t) (ks places : List ℕ) (u : Table)
    (settled : (i : ℕ) → i < length ks → put t as_is (get_or ks i 0) u ≡ stands u (get_or places i 0)) where
  -- a place is a row
  place_inside : (i : ℕ) → i < length ks → get_or places i 0 < length u
  place_inside i h = subst (λ (p : Put). p.at < length p.rows) (settled i h) (put-grown t ordered as_is (get_or ks i 0) u).inside

  place-listed : length places ≡ length ks → (k : ℕ) → Memᴰ k places → k < length u
  place-listed count k m = let (i, h, e) = mem-get_or places k 0 m in omega (arith, e, place_inside i (omega arith))

  module _ (idle : Idle t) (none : (k : ℕ) → Memᴰ k ks → NoInclusion t k) where
    -- no inclusion
    place-idle : ((k : ℕ) → T (in_range (concept_at t k))) → Sound u → length places ≡ length ks → (k : ℕ) → Memᴰ k places → NoInclusion u k
    place-idle ranged S count k m =
        let (i, h, e) = mem-get_or places k 0 m in
        let inside : i < length ks = omega arith in
        let at = (put-sound t ordered idle ranged as_is (get_or ks i 0) u (none (get_or ks i 0) (get_or-mem ks i 0 inside)) S).1 in
        subst (NoInclusion u) e (subst (λ (p : Put). NoInclusion p.rows p.at) (settled i inside) at)

    -- and means what the row of the list does
    place-means : Ordered u → (W : World) (i : ℕ) → i < length ks → Same W t (get_or ks i 0) u (get_or places i 0)
    place-means o W i h d e =
        let k = get_or ks i 0 in
        let means = put-means W t ordered idle as_is k u (none k (get_or-mem ks i 0 h)) u o in
        Iff.symm (subst (λ (p : Put). Begins p.rows u → MeansRow W t ordered as_is k u p.at) (settled i h) means (begins-refl u) d)

-- what is reached from a needed row is needed
needed-from : (f : RuleFile) {j i : ℕ} → Needed f j → Reaches f.table j i → Needed f i
needed-from f n itself = n
needed-from f n (through r m) = by_row (needed-from f n r) m

-- a needed row serves
needed-serves : (f : RuleFile) {k : ℕ} → Needed f k → Serves f.table f.tbox f.wanted k
needed-serves f (by_rule m) = as_rule m
needed-serves f (by_kit m) = as_wanted m
needed-serves f (by_row {k} n m) = as_argument k m

-- ---- the draft

module _ (draft : RuleFile) (A : Admitted draft) where
  abbrev t : Table
  t = draft.table

  abbrev ordered : Ordered t
  ordered = A.well_formed.ordered

  abbrev rules : PutList
  rules = put_list t draft.tbox (inclusion_rows t)

  abbrev kit : PutList
  kit = put_list t draft.wanted rules.rows

  abbrev R : ListGrown t ordered draft.tbox (inclusion_rows t) rules
  R = put_list-grown t ordered draft.tbox (inclusion_rows t)

  abbrev K : ListGrown t ordered draft.wanted rules.rows kit
  K = put_list-grown t ordered draft.wanted rules.rows

  rule-settled : (i : ℕ) → i < length draft.tbox → put t as_is (get_or draft.tbox i 0) kit.rows ≡ stands kit.rows (get_or rules.places i 0)
  rule-settled i h = R.settled i h kit.rows K.more

  kit-settled : (i : ℕ) → i < length draft.wanted → put t as_is (get_or draft.wanted i 0) kit.rows ≡ stands kit.rows (get_or kit.places i 0)
  kit-settled i h = K.settled i h kit.rows (begins-refl kit.rows)

  -- ---- what serves is no inclusion

  idle : Idle t
  idle k l m = A.well_formed.serving l (as_argument k m)

  rule-none : (k : ℕ) → Memᴰ k draft.tbox → NoInclusion t k
  rule-none k m = A.well_formed.serving k (as_rule m)

  kit-none : (k : ℕ) → Memᴰ k draft.wanted → NoInclusion t k
  kit-none k m = A.well_formed.serving k (as_wanted m)

  sound : Sound kit.rows
  sound =
      put_list-sound t ordered idle A.in_range draft.wanted kit-none rules.rows
      (put_list-sound t ordered idle A.in_range draft.tbox rule-none (inclusion_rows t) (inclusion_rows-sound t A.in_range A.distinct))

  serving : (k : ℕ) → Serves kit.rows rules.places kit.places k → NoInclusion kit.rows k
  serving k (as_argument j m) = sound.idle j k m
  serving k (as_rule m) = place-idle t ordered draft.tbox rules.places kit.rows rule-settled idle rule-none A.in_range sound R.count k m
  serving k (as_wanted m) = place-idle t ordered draft.wanted kit.places kit.rows kit-settled idle kit-none A.in_range sound K.count k m

  pub normalized-writable : length draft.wanted ≡ 1 → (room : ℕ) → too_large room (normalized draft) ≡ false → Writable (normalized draft)
  unfolding normalized too_large
  normalized-writable one room e =
      let f = normalized draft in
      let (few_rows, bytes) = or-neither (ltb most_rows (length f.table)) (ltb 4096 (length (file_bytes f)) || ltb room (length (file_bytes f))) e in
      let (short, fits) = or-neither (ltb 4096 (length (file_bytes f))) (ltb room (length (file_bytes f))) bytes in
      record {
        sound = sound;
        few_rows = ltb-false most_rows (length f.table) few_rows;
        few_rules = omega (arith, R.count, A.few_rules);
        rule_rows = place-listed t ordered draft.tbox rules.places kit.rows rule-settled R.count;
        one_wanted = K.count ∙ one;
        wanted_rows = place-listed t ordered draft.wanted kit.places kit.rows kit-settled K.count;
        serving = serving;
        short = ltb-false 4096 (length (file_bytes f)) short;
      }

  -- ---- what it keeps

  rows-needed : (k : ℕ) → length (inclusion_rows t) ≤ k → k < length kit.rows → Needed (normalized draft) k
  unfolding normalized
  rows-needed k from h = elim (dec_lt k (length rules.rows)) [
    | yes l ↦ let (j, m, r) = R.reached k from l in needed-from (normalized draft) (by_rule m) (reaches-grown K.more r)
    | no g ↦ let (j, m, r) = K.reached k (omega arith) h in needed-from (normalized draft) (by_kit m) r
  ]

  no-others : (k : ℕ) → length (inclusion_rows t) ≤ k → NoInclusion kit.rows k
  unfolding normalized
  no-others k from = elim (dec_lt k (length kit.rows)) [
    | yes h ↦ serving k (needed-serves (normalized draft) (rows-needed k from h))
    | no g ↦ subst (λ (c : Concept). T (not (is_inclusion c))) (sym (get_or-eq_default kit.rows (atomic 0) {n = k} (omega arith))) tt
  ]

  pub normalized-keeps : Keeps draft (normalized draft)
  unfolding normalized
  normalized-keeps = record {
    text = refl;
    inclusions = begins-trans (inclusion_rows t) rules.rows kit.rows R.more K.more;
    others = no-others;
    needed = rows-needed;
    rule_count = R.count;
    rules = place-means t ordered draft.tbox rules.places kit.rows rule-settled idle rule-none sound.ordered;
    kit_count = K.count;
    kit = place-means t ordered draft.wanted kit.places kit.rows kit-settled idle kit-none sound.ordered;
  }
