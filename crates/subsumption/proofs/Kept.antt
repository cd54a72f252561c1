-- The catalogue's promise is kept by whoever answers as the definition.
--
-- In order: by the reading; which refusals there are; a refused file; an accepted file, by whether the area is shorter than the square; the promise.
use mathlib.Core.Path.{◌≡◌, refl, sym, ap, ◌∙◌, subst}
use mathlib.Core.Bool.{Bool, true, false}
use mathlib.Core.List.{List, ◌++◌}
use mathlib.Core.Logic.{◌⊎◌, inl, inr}
use Prim.Native.Nat.{ℕ, suc, ◌+◌, ◌*◌, ◌<◌}
use native.Mathlib.Nat.{suc-mul, mul-le-mul_right}
use native.Mathlib.Omega.{arith}
use lib.Dec.{ltb}
use lib.ListN.{length, get_or, drop, get_or-append}
use borrow.Author.Tests.{ltb-true, ltb-false}
use Rattle.concepts.specs.Lists.{Bytes}
use Rattle.concepts.specs.ListLaws.{get_or-mem}
use Rattle.decoding.specs.Decoding.{rule_kinds}
use Rattle.rulefile.specs.Format.{wanted_rows, RuleFile, Reading, refused, accepted, reading}
use Rattle.rulefile.specs.Checks.{FileRefusal}
use Rattle.rulefile.specs.CheckLaws.{refused-number}
use Rattle.run.specs.Run.{Lengths}
use Rattle.subsumption.specs.Names.{names, row_after_row}
use Rattle.subsumption.proofs.NameLaws.{length-row_after_row, get_or-row_after_row}
use Rattle.subsumption.specs.Catalogue.{Areas, lent, entry, Catalogue, refused_with, listed, listed_in, catalogue_reading, catalogue}
use Rattle.subsumption.specs.Catalogue.{refusal_alone, numbers, areas_after}
use Rattle.subsumption.specs.Promise.{EntryRight, entry_at, TableRight, CataloguePromise}
use Rattle.subsumption.proofs.Entry.{entry-right}

-- ---- by the reading

pub catalogue-refused : (file : Bytes) (l : Lengths) (room n : ℕ) → reading file ≡ refused n → catalogue file l room ≡ refused_with n
unfolding catalogue catalogue_reading
catalogue-refused file l room n e = ap (catalogue_reading file l room) e

-- the entries of an accepted file
abbrev pub entries_of : Bytes → Lengths → RuleFile → Bytes
entries_of file l f = row_after_row (entry file l f.table) (names f.table) (names f.table)

pub catalogue-accepted : (file : Bytes) (l : Lengths) (room : ℕ) (f : RuleFile) → reading file ≡ accepted f
    → catalogue file l room ≡ listed_in room (names f.table) (entries_of file l f)
unfolding catalogue catalogue_reading
catalogue-accepted file l room f e = ap (catalogue_reading file l room) e

-- ---- the numbers of refusals

-- 1 to 8 or 16 by a check of the file, and 17; 0 with a table. 9 is not used again (02, [3])
abbrev pub CatalogueRefusal : ℕ → Type 0
CatalogueRefusal n = (n ≡ 0) ⊎ (FileRefusal n ⊎ (n ≡ 17))

pub catalogue-refusal : (file : Bytes) (l : Lengths) (room : ℕ) → CatalogueRefusal (numbers (catalogue file l room)).refusal
unfolding catalogue catalogue_reading listed_in numbers
catalogue-refusal file l room = go (reading file) refl
  where
    by-room : (short : Bool) (ns : List ℕ) (entries : Bytes)
        → CatalogueRefusal (numbers (elim short as (λ _. Catalogue) [ true ↦ refused_with 17 | false ↦ listed ns entries ])).refusal
    by-room true ns entries = inr (inr refl)
    by-room false ns entries = inl refl

    go : (r : Reading) → reading file ≡ r → CatalogueRefusal (numbers (catalogue_reading file l room r)).refusal
    go (refused n) e = inr (inl (refused-number rule_kinds (wanted_rows file) file n e))
    go (accepted f) e = by-room (ltb room (length (names f.table) * length (names f.table))) (names f.table) (entries_of file l f)

-- ---- a refused file

refused-kept : (file : Bytes) (before : Areas) (n : ℕ) → reading file ≡ refused n
    → (numbers (catalogue file (lent before) (length before.table)) ≡ refusal_alone n)
    × (areas_after (catalogue file (lent before) (length before.table)) before ≡ before)
unfolding numbers areas_after
refused-kept file before n e =
    let q = catalogue-refused file (lent before) (length before.table) n e in
    (ap numbers q, ap (λ (c : Catalogue). areas_after c before) q)

-- ---- an accepted file

module _ (file : Bytes) (before : Areas) (f : RuleFile) (e : reading file ≡ accepted f) where
  abbrev ns : List ℕ
  ns = names f.table

  abbrev m : ℕ
  m = length ns

  abbrev bytes : Bytes
  bytes = entries_of file (lent before) f

  -- a place of the square is inside the table
  inside : (i j : ℕ) → i < m → j < m → i * m + j < m * m
  inside i j hi hj = omega (arith, mul-le-mul_right {m = suc i} m hi, suc-mul i m)

  entry-there : (i j : ℕ) → i < m → j < m → EntryRight f (lent before) (get_or ns i 0) (get_or ns j 0)
      (entry_at (bytes ++ drop (length bytes) before.table) m i j)
  entry-there i j hi hj =
      let there = get_or-append bytes (drop (length bytes) before.table) 0 (i * m + j)
      (omega (arith, inside i j hi hj, length-row_after_row (entry file (lent before) f.table) ns ns))
      ∙ get_or-row_after_row (entry file (lent before) f.table) ns ns i j hi hj in
      rw there (entry-right file f e (lent before) (get_or ns i 0) (get_or ns j 0) (get_or-mem ns i 0 hi) (get_or-mem ns j 0 hj))

  by-room : (short : Bool) → ltb (length before.table) (m * m) ≡ short
      → let c : Catalogue = elim short [ true ↦ refused_with 17 | false ↦ listed ns bytes ] in TableRight f before (numbers c) (areas_after c before)
  unfolding numbers areas_after
  by-room true q = record {
    too_short = λ x. (ltb-true (length before.table) (m * m) q, refl, refl);
    too_short_only = λ x. refl;
    no_other = λ x. absurd (x refl);
    count_is = λ x. absurd (omega (arith, x));
    names_are = λ x. absurd (omega (arith, x));
    entries = λ x. absurd (omega (arith, x));
  }
  by-room false q = record {
    too_short = λ x. absurd (omega (arith, x));
    too_short_only = λ x. absurd (omega (arith, x, ltb-false (length before.table) (m * m) q));
    no_other = λ x. refl;
    count_is = λ x. refl;
    names_are = λ x. refl;
    entries = λ x. entry-there;
  }

  right_kept : TableRight f before (numbers (catalogue file (lent before) (length before.table)))
      (areas_after (catalogue file (lent before) (length before.table)) before)
  unfolding listed_in
  right_kept =
      subst (λ (c : Catalogue). TableRight f before (numbers c) (areas_after c before))
      (sym (catalogue-accepted file (lent before) (length before.table) f e))
      (by-room (ltb (length before.table) (m * m)) refl)

-- ---- the promise

pub promise-kept : (file : Bytes) (before : Areas)
    → CataloguePromise file before (numbers (catalogue file (lent before) (length before.table)))
    (areas_after (catalogue file (lent before) (length before.table)) before)
promise-kept file before = record {
  numbers_are = refl;
  areas_are = refl;
  refusal = refused-kept file before;
  right = λ f e. right_kept file before f e;
}
