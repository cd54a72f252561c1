-- `marks::store_role_link` meets its contract: it writes the bytes that hold the link.
use borrow.Author.Rules.{rules}
use Rattle.marks.specs.MarkLaws.{link-stored}
use Rattle.marks.proofs.store_role_link.Goals as goal

pub returns : goal.returns
returns c = link-stored c.requires (search rules, search rules, search rules) (cc)
