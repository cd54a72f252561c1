-- `marks::store_number` meets its contract: it writes the bytes that hold the number.
use borrow.Author.Rules.{rules}
use Rattle.marks.specs.MarkLaws.{number-stored}
use Rattle.marks.proofs.store_number.Goals as goal

pub returns : goal.returns
returns c = number-stored c.requires (search rules) c.put2.ensures
