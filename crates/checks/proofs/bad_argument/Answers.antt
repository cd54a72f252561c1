-- `checks::bad_argument` meets its contract: the rows that row k names are the arguments of its concept.
use mathlib.Core.Path.{sym, ap, ◌∙◌}
use lib.Dec.{leb}
use Rattle.concepts.specs.Lists.{any}
use Rattle.rulefile.specs.Format.{row_byte, bad_argument}
use Rattle.decoding.specs.Named.{rows_of}
use Rattle.decoding.specs.DecodingLaws.{arguments-named}
use Rattle.checks.proofs.bad_argument.Goals as goal

pub returns : goal.returns
unfolding bad_argument
returns c =
    let a = c.args in
    let b = a.file.now in
    c.names_from.ensures
    ∙ ap (any (λ l. leb a.k l))
    (ap rows_of c.row_at.ensures ∙ sym (arguments-named a.kinds (row_byte b a.k 0) (row_byte b a.k 1) (row_byte b a.k 2)
    (row_byte b a.k 3)))
