-- `evaluation::has_bit` meets its contract: the bit that it tests is that of the definition.
use borrow.Author.Rules.{rules}
use Rattle.concepts.specs.RowSet.{mem}
use Rattle.evaluation.proofs.has_bit.Goals as goal

pub returns : goal.returns
unfolding mem
returns c = search rules
