-- Laws of Findings: a row that names an inclusion.
use Rattle.std.specs.Prelude.{◌≡◌, List, ℕ, Option}
use Rattle.std.proofs.Common.{ap, ◌∙◌}
use Rattle.concepts.specs.Lists.{Bytes, any}
use Rattle.decoding.specs.Decoding.{Kinds}
use Rattle.decoding.specs.Named.{rows_of}
use Rattle.decoding.specs.DecodingLaws.{arguments-named}
use Rattle.rulefile.specs.Format.{row_byte, inclusion_at, inclusion_named}
use Rattle.checks.specs.Findings.{named_at}

-- by the rows that row k names
pub named-inclusion : (b : Bytes) (kinds : Kinds) (k : ℕ) {o : Option (List ℕ)} → named_at kinds b k ≡ o
    → inclusion_named kinds b k ≡ any (inclusion_at b) (rows_of o)
unfolding inclusion_named
named-inclusion b kinds k e =
    ap (any (inclusion_at b)) (arguments-named kinds (row_byte b k 0) (row_byte b k 1) (row_byte b k 2) (row_byte b k 3) ∙ ap rows_of e)
