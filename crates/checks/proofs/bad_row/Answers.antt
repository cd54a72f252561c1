-- `checks::bad_row` meets its contract: a row is malformed where it is not decoded.
use Rattle.std.specs.Prelude.{◌≡◌, Bool, true, false, not, Option, None, Some, is_some}
use Rattle.std.proofs.Common.{refl, sym, ap, ◌∙◌}
use Rattle.concepts.specs.Tests.{impossible}
use Rattle.decoding.specs.declared.Row.{Row}
use Rattle.decoding.specs.Named.{named_by, is_malformed}
use Rattle.decoding.specs.DecodingLaws.{malformed-named}
use Rattle.rulefile.specs.Format.{row_byte, bad_row}
use Rattle.checks.proofs.bad_row.Goals as goal

none_is : (row : Option Row) (b : Bool) → is_some row ≡ not b → b ≡ is_malformed (named_by row)
none_is None true e = refl
none_is None false e = impossible cc
none_is (Some r) true e = impossible cc
none_is (Some Row.Nullary) false e = refl
none_is (Some (Row.Unary l)) false e = refl
none_is (Some (Row.Binary l r)) false e = refl

pub returns : goal.returns
unfolding bad_row
returns c =
    let a = c.args in
    let b = a.file.now in
    none_is c.row_at.result c.is_none.result c.is_none.ensures ∙ ap is_malformed c.row_at.ensures
    ∙ sym (malformed-named a.kinds (row_byte b a.k 0) (row_byte b a.k 1) (row_byte b a.k 2) (row_byte b a.k 3))
