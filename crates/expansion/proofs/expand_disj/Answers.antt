-- The children of a node without an unfinished conjunction, by its lowest unfinished disjunction.
use Rattle.concepts.specs.RowSet.{insert}
use Rattle.graph.specs.RefineLaws.{passed-on}
use Rattle.expansion.specs.PutCases.{expand-fits, expand-inside, own-set}
use Rattle.expansion.specs.ChildCases.{either-found, either-none, either_left, either-right}
use Rattle.expansion.specs.ChildCases.{left-asks, left-short, left-done, right-asks, right-gives, disj-gives}
use Rattle.expansion.proofs.expand_disj.Goals as goal

pub load_node-node-requires : goal.load_node-node-requires
load_node-node-requires c = expand-fits c.requires.node

pub lowest_disj-requires : goal.lowest_disj-requires
lowest_disj-requires c = (c.requires.node.decoded, rw c.node_set-set.ensures (expand-inside c.requires.node))

pub expand_state-requires : goal.expand_state-requires
expand_state-requires c =
    either-none c.requires c.load_node-node.result c.load_node-node.ensures c.node_set-set.ensures c.lowest_disj.ensures c.in_default.is

pub returns-in_default : goal.returns-in_default
returns-in_default c =
    disj-gives (either-none c.requires c.load_node-node.result c.load_node-node.ensures c.node_set-set.ensures c.lowest_disj.ensures c.in_default.is)
    c.expand_state.ensures

pub with_row-requires : goal.with_row-requires
with_row-requires c =
    let either = either-found c.requires c.load_node-node.result c.load_node-node.ensures c.node_set-set.ensures c.lowest_disj.ensures c.in-Some.is in
    (rw c.node_set-set.ensures (expand-inside c.requires.node), either_left either)

pub with_row-requires-2 : goal.with_row-requires-2
with_row-requires-2 c =
    let either = either-found c.requires c.load_node-node.result c.load_node-node.ensures c.node_set-set.ensures c.lowest_disj.ensures c.in-Some.is in
    (rw c.node_set-set.ensures (expand-inside c.requires.node), either-right either)

pub put-requires : goal.put-requires
put-requires c =
    let either = either-found c.requires c.load_node-node.result c.load_node-node.ensures c.node_set-set.ensures c.lowest_disj.ensures c.in-Some.is in
    left-asks either (own-set _ _ c.node_set-set.ensures (insert _) c.with_row.ensures)

pub returns-in_err-d : goal.returns-in_err-d
returns-in_err-d c =
    let either = either-found c.requires c.load_node-node.result c.load_node-node.ensures c.node_set-set.ensures c.lowest_disj.ensures c.in-Some.is in
    rw (passed-on c.from_residual.ensures) (left-short either (own-set _ _ c.node_set-set.ensures (insert _) c.with_row.ensures) c.put.ensures c.in_err-d.was)

pub put-requires-2 : goal.put-requires-2
put-requires-2 c =
    let either = either-found c.requires c.load_node-node.result c.load_node-node.ensures c.node_set-set.ensures c.lowest_disj.ensures c.in-Some.is in
    let second = left-done either (own-set _ _ c.node_set-set.ensures (insert _) c.with_row.ensures) c.put.ensures c.in_ok-d.was in
    right-asks second (own-set _ _ c.node_set-set.ensures (insert _) c.with_row-2.ensures)

pub returns : goal.returns
returns c =
    let either = either-found c.requires c.load_node-node.result c.load_node-node.ensures c.node_set-set.ensures c.lowest_disj.ensures c.in-Some.is in
    let second = left-done either (own-set _ _ c.node_set-set.ensures (insert _) c.with_row.ensures) c.put.ensures c.in_ok-d.was in
    right-gives second (own-set _ _ c.node_set-set.ensures (insert _) c.with_row-2.ensures) c.put-2.ensures
