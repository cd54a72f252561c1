use Rattle.graph.specs.RefineLaws.{passed-on}
use Rattle.rounds.specs.RoundCases.{root_live, turn-start, turn-fits, turn-settled, turn-done}
use Rattle.rounds.specs.RoundCases.{turn-fresh, turn-asks, turn-short, turn-less, turn-expanded}
use Rattle.rounds.proofs.rounds.Goals as goal

pub loop-nodes-init : goal.loop-nodes-init
loop-nodes-init c = turn-start c.requires

pub status_of-requires : goal.status_of-requires
status_of-requires c = turn-fits c.loop-nodes.invariant

pub returns-in_default : goal.returns-in_default
returns-in_default c =
    turn-done c.loop-nodes.invariant (root_live c.status_of.result c.status_of.ensures c.is_live.ensures c.loop-nodes-test.true)
    c.lowest_unset.ensures c.in_default.is

pub expand-requires : goal.expand-requires
expand-requires c =
    turn-asks (turn-fresh c.loop-nodes.invariant (root_live c.status_of.result c.status_of.ensures c.is_live.ensures c.loop-nodes-test.true)
    c.lowest_unset.ensures c.in-Some.is)

pub returns-in_err-cur : goal.returns-in_err-cur
returns-in_err-cur c =
    let live = root_live c.status_of.result c.status_of.ensures c.is_live.ensures c.loop-nodes-test.true in
    rw (passed-on c.from_residual.ensures)
    (turn-short (turn-fresh c.loop-nodes.invariant live c.lowest_unset.ensures c.in-Some.is) c.expand.ensures c.in_err-cur.was)

pub loop-nodes-smaller : goal.loop-nodes-smaller
loop-nodes-smaller c =
    let live = root_live c.status_of.result c.status_of.ensures c.is_live.ensures c.loop-nodes-test.true in
    turn-less (turn-fresh c.loop-nodes.invariant live c.lowest_unset.ensures c.in-Some.is) c.expand.ensures c.in_ok-cur.was

pub loop-nodes-preserved : goal.loop-nodes-preserved
loop-nodes-preserved c =
    let live = root_live c.status_of.result c.status_of.ensures c.is_live.ensures c.loop-nodes-test.true in
    turn-expanded (turn-fresh c.loop-nodes.invariant live c.lowest_unset.ensures c.in-Some.is) c.expand.ensures c.in_ok-cur.was

pub returns : goal.returns
returns c =
    turn-settled c.loop-nodes.invariant (root_live c.status_of.result c.status_of.ensures c.is_live.ensures c.loop-nodes-test.false)
