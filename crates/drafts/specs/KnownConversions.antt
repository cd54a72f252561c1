-- What becomes of some small drafts, from the definitions by computation: one table, one theorem. Document 02 names none; these are for whoever reads
-- Normalize.
use Rattle.std.specs.Prelude.{◌≡◌, refl, ℕ}
use mathlib.Core.List.{List, [], ◌∷◌, map, flatten}
use Rattle.concepts.specs.Lists.{Bytes, range, select, any, first}
use Rattle.concepts.specs.Concept.{role_of}
use Rattle.concepts.specs.RowSet.{mem}
use Rattle.decoding.specs.Decoding.{of_kind, decode}
use Rattle.decoding.specs.RowParts.{kind_of, left_of, right_of}
use Rattle.rulefile.specs.Format.{bad_length, bad_mark, bad_counts, bad_place, bad_row, bad_argument, repeated, bad_rule, inclusion_at, inclusion_named}
use Rattle.rulefile.specs.Format.{inclusion_serves, checks, refusal_for, reading_for}
use Rattle.rulefile.specs.Format as Format
use Rattle.run.specs.KnownRuns.{written}
use Rattle.drafts.specs.Normalize.{shape, same_row, place_of, share, put_shape, put_below, put, put_list, inclusion_rows, normalized}
use Rattle.drafts.specs.Encoding.{table_bytes, trailer, file_bytes}
use Rattle.drafts.specs.Conversion.{Conversion, refused_with, too_large, written_or, conversion_of, conversion}

pub record KnownConversion : Type 0 where
  pub draft : Bytes
  pub room : ℕ
  pub expected : Conversion

abbrev row : ℕ → ℕ → ℕ → ℕ → Bytes
row kind role left right = kind ∷ role ∷ left ∷ right ∷ []

-- if row 0 then row 1, as a rule; wanted: row 0 and not row 1
abbrev pumps : Bytes
pumps = written (row 1 0 0 0 ∷ row 1 0 1 0 ∷ row 9 0 0 1 ∷ row 8 0 1 0 ∷ row 3 0 0 3 ∷ []) (2 ∷ []) 4

abbrev pumps_converted : Bytes
pumps_converted = written (row 2 0 0 0 ∷ row 1 0 1 0 ∷ row 4 0 0 1 ∷ row 1 0 0 0 ∷ row 2 0 1 0 ∷ row 3 0 3 4 ∷ []) (2 ∷ []) 5

unfoldable pub known_conversions : List KnownConversion
known_conversions =
    record { draft = pumps; room = 33; expected = Conversion.written pumps_converted }
    -- a byte less does not do
    ∷ record { draft = pumps; room = 32; expected = refused_with 12 }
    -- "not not" before a name: one row
    ∷ record {
      draft = written (row 1 0 7 0 ∷ row 8 0 0 0 ∷ row 8 0 1 0 ∷ []) [] 2;
      room = 4096;
      expected = Conversion.written (written (row 1 0 7 0 ∷ []) [] 0);
    }
    -- not all along a role: some along it, not
    ∷ record {
      draft = written (row 1 0 7 0 ∷ row 5 3 0 0 ∷ row 8 0 1 0 ∷ []) [] 2;
      room = 4096;
      expected = Conversion.written (written (row 2 0 7 0 ∷ row 6 3 0 0 ∷ []) [] 1);
    }
    -- role inclusions come first, in their order, needed or not
    ∷ record {
      draft = written (row 1 0 7 0 ∷ row 7 4 2 0 ∷ row 8 0 0 0 ∷ row 7 2 0 0 ∷ []) [] 2;
      room = 4096;
      expected = Conversion.written (written (row 7 4 2 0 ∷ row 7 2 0 0 ∷ row 2 0 7 0 ∷ []) [] 2);
    }
    -- none of them can be wanted; a "not" has no right row
    ∷ record { draft = written (row 1 0 7 0 ∷ row 7 4 2 0 ∷ []) [] 1; room = 4096; expected = refused_with 16 }
    ∷ record { draft = written (row 1 0 7 0 ∷ row 8 0 0 1 ∷ []) [] 1; room = 4096; expected = refused_with 5 }
    ∷ []

pub known-conversions : map (λ (k : KnownConversion). conversion k.draft k.room) known_conversions ≡ map
    (λ (k : KnownConversion). k.expected) known_conversions
unfolding known_conversions written flatten conversion conversion_of reading_for refusal_for checks range select any first bad_length bad_mark bad_counts
    bad_place bad_row bad_argument Format.same_row repeated bad_rule inclusion_serves inclusion_named inclusion_at decode of_kind mem normalized inclusion_rows
    put_list put put_below put_shape shape share place_of same_row kind_of role_of left_of right_of file_bytes table_bytes trailer too_large written_or
known-conversions = refl
