-- `steps::entry` meets its contract: the table's entry means the entry of what the table means.
use Rattle.std.proofs.Common.{refl}
use Rattle.steps.specs.TableLaws.{entry_at}
use Rattle.steps.proofs.entry.Goals as goal

pub returns : goal.returns
returns c = entry_at c.args.table.now _ refl _ _ _ _ c.rank.ensures.0 c.rank-2.ensures.0
