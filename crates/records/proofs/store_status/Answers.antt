-- `records::store_status` meets its contract: one field is written, and the others are kept.
use Rattle.records.specs.RecordLaws.{status-stored}
use Rattle.records.proofs.store_status.Goals as goal

pub returns : goal.returns
returns c = status-stored _ _ c.args.x c.args.status c.requires (cc)
