-- `marks::store_state` meets its contract: it writes the bytes that hold the state.
use borrow.Author.Rules.{rules}
use Rattle.marks.specs.MarkLaws.{state-stored}
use Rattle.marks.proofs.store_state.Goals as goal

pub returns : goal.returns
returns c = state-stored c.requires (search rules) c.put2.ensures
