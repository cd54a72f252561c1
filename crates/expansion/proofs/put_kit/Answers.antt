-- What the root puts.
use Rattle.rowset.specs.ByteLaws.{zeros-empty}
use Rattle.expansion.specs.ChildCases.{kit-asks, kit-gives}
use Rattle.expansion.proofs.put_kit.Goals as goal

pub join_kit-requires : goal.join_kit-requires
join_kit-requires c = (c.requires.disj.node.decoded, zeros-empty)

pub put-requires : goal.put-requires
put-requires c = kit-asks c.requires c.join_kit.ensures

pub returns : goal.returns
returns c = kit-gives c.requires c.join_kit.ensures c.put.ensures
