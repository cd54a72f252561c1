-- `records::store_link` meets its contract: two fields are written, and the others are kept.
use Rattle.records.specs.RecordLaws.{link-stored}
use Rattle.records.proofs.store_link.Goals as goal

pub returns : goal.returns
returns c = link-stored _ _ c.args.x c.args.link c.requires c.put_link.ensures.1 c.put_link.ensures.0
