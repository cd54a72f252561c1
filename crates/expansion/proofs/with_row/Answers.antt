-- `expansion::with_row` meets its contract: the set is copied, and the row joins it.
use mathlib.Core.Path.{ap, ◌∙◌}
use Rattle.concepts.specs.RowSet.{insert}
use Rattle.words.specs.Sizes.{set_words}
use Rattle.expansion.proofs.with_row.Goals as goal

pub returns : goal.returns
returns c = c.insert.ensures.1 set_words c.requires.1 ∙ ap (insert c.args.row) c.copy.ensures.1
