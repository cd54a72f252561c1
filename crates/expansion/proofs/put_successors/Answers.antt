use Rattle.std.proofs.Common.{refl, arith}
use Rattle.rowset.specs.ByteLaws.{zeros-empty}
use Rattle.graph.specs.RefineLaws.{passed-on}
use Rattle.expansion.specs.SuccessorCases.{turn-start, turn_inside, turn_end, turn-next, turn-row, turn-less, turn-argument}
use Rattle.expansion.specs.SuccessorCases.{turn-successor, turn-asks, turn-short, turn-put}
use Rattle.expansion.proofs.put_successors.Goals as goal

pub loop-exist-init : goal.loop-exist-init
loop-exist-init c = turn-start c.requires.0 c.requires.1

pub next_exist-requires : goal.next_exist-requires
next_exist-requires c =
    (c.loop-exist.invariant.asks.disj.node.decoded, rw c.node_set-set.ensures (turn_inside c.loop-exist.invariant))

pub returns : goal.returns
returns c = turn_end c.loop-exist.invariant c.node_set-set.result c.next_exist.ensures c.node_set-set.ensures c.in_default.is

pub overflow_add-k : goal.overflow_add-k
overflow_add-k c =
    omega (arith, turn-row (turn-next c.loop-exist.invariant c.node_set-set.result c.next_exist.ensures c.node_set-set.ensures c.in-Some.is))

pub slice_bounds-successor-end : goal.slice_bounds-successor-end
slice_bounds-successor-end c = refl

pub successor-requires : goal.successor-requires
successor-requires c =
    let chosen = turn-next c.loop-exist.invariant c.node_set-set.result c.next_exist.ensures c.node_set-set.ensures c.in-Some.is in (
      c.loop-exist.invariant.asks.disj.node.decoded,
      rw c.node_set-set.ensures (turn_inside c.loop-exist.invariant),
      turn-argument chosen,
      omega arith,
      zeros-empty,
    )

pub put-requires : goal.put-requires
put-requires c =
    let chosen = turn-next c.loop-exist.invariant c.node_set-set.result c.next_exist.ensures c.node_set-set.ensures c.in-Some.is in
    turn-asks chosen (turn-successor chosen c.node_set-set.result c.successor.ensures.1 c.node_set-set.ensures)

pub returns-in_err-cur : goal.returns-in_err-cur
returns-in_err-cur c =
    let chosen = turn-next c.loop-exist.invariant c.node_set-set.result c.next_exist.ensures c.node_set-set.ensures c.in-Some.is in
    let made = turn-successor chosen c.node_set-set.result c.successor.ensures.1 c.node_set-set.ensures in
    rw (passed-on c.from_residual.ensures) (turn-short chosen made c.put.ensures c.in_err-cur.was)

pub loop-exist-smaller : goal.loop-exist-smaller
loop-exist-smaller c = turn-less (turn-next c.loop-exist.invariant c.node_set-set.result c.next_exist.ensures c.node_set-set.ensures c.in-Some.is)

pub loop-exist-preserved : goal.loop-exist-preserved
loop-exist-preserved c =
    let chosen = turn-next c.loop-exist.invariant c.node_set-set.result c.next_exist.ensures c.node_set-set.ensures c.in-Some.is in
    let made = turn-successor chosen c.node_set-set.result c.successor.ensures.1 c.node_set-set.ensures in
    turn-put chosen made c.put.ensures c.in_ok-cur.was
