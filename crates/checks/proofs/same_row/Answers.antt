-- `checks::same_row` meets its contract: the four bytes of a row are those that the definition compares.
use Rattle.rulefile.specs.Format.{same_row}
use Rattle.checks.proofs.same_row.Goals as goal

pub returns : goal.returns
unfolding same_row
returns c = cc
