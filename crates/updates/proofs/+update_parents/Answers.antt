-- The parents of a node, updated: a call of itself comes after a parent's status changed, so one place less is unsettled.
use Rattle.std.proofs.Common.{arith, ap, ◌∙◌, Ok}
use Rattle.graph.specs.RefineLaws.{passed-on}
use Rattle.updates.specs.ParentCases.{turn-walks, turn-next, turn-asks, turn-index, last-walks}
use Rattle.updates.specs.ClimbCases.{climb-start, climb-end, climb-short, climb-kept, climb-kept-less, climb-changed}
use Rattle.updates.specs.ClimbCases.{climb-last, climb-falls, climb-nested-short, climb-nested, climb-nested-less}
use Rattle.updates.proofs.+update_parents.Goals as goal

pub loop-index-init : goal.loop-index-init
loop-index-init t c = climb-start c.requires

pub next_parent-requires : goal.next_parent-requires
next_parent-requires t c = turn-walks c.loop-index.invariant.turn

pub rejudge-requires : goal.rejudge-requires
rejudge-requires t c = turn-asks (turn-next c.loop-index.invariant.turn c.next_parent.ensures c.in-Some.is)

pub overflow_add-from : goal.overflow_add-from
overflow_add-from t c = omega (arith, turn-index (turn-next c.loop-index.invariant.turn c.next_parent.ensures c.in-Some.is))

pub returns-in_err-next : goal.returns-in_err-next
returns-in_err-next t c =
    let found = turn-next c.loop-index.invariant.turn c.next_parent.ensures c.in-Some.is in
    rw (passed-on c.from_residual.ensures) (climb-short c.loop-index.invariant found c.rejudge.ensures c.in_err-next.was)

pub loop-index-smaller-in-Kept : goal.loop-index-smaller-in-Kept
loop-index-smaller-in-Kept t c =
    let found = turn-next c.loop-index.invariant.turn c.next_parent.ensures c.in-Some.is in
    climb-kept-less c.loop-index.invariant found c.rejudge.ensures (c.in_ok-next.was ∙ ap Ok c.in-Kept.is)

pub loop-index-preserved-in-Kept : goal.loop-index-preserved-in-Kept
loop-index-preserved-in-Kept t c =
    let found = turn-next c.loop-index.invariant.turn c.next_parent.ensures c.in-Some.is in
    climb-kept c.loop-index.invariant found c.rejudge.ensures (c.in_ok-next.was ∙ ap Ok c.in-Kept.is)

pub no_parent-requires : goal.no_parent-requires
no_parent-requires t c =
    let found = turn-next c.loop-index.invariant.turn c.next_parent.ensures c.in-Some.is in
    let changed = climb-changed c.loop-index.invariant found c.rejudge.ensures (c.in_ok-next.was ∙ ap Ok c.in-Changed.is) in
    last-walks found changed

pub loop-index-preserved-then-no_parent : goal.loop-index-preserved-then-no_parent
loop-index-preserved-then-no_parent t c =
    let found = turn-next c.loop-index.invariant.turn c.next_parent.ensures c.in-Some.is in
    let changed = climb-changed c.loop-index.invariant found c.rejudge.ensures (c.in_ok-next.was ∙ ap Ok c.in-Changed.is) in
    climb-last c.loop-index.invariant found changed c.no_parent.ensures c.if-no_parent.true

pub update_parents-requires : goal.update_parents-requires
update_parents-requires t c =
    let found = turn-next c.loop-index.invariant.turn c.next_parent.ensures c.in-Some.is in
    let changed = climb-changed c.loop-index.invariant found c.rejudge.ensures (c.in_ok-next.was ∙ ap Ok c.in-Changed.is) in
    (omega (arith, climb-falls c.loop-index.invariant found changed), changed.asks)

pub returns-in_err-cur-in-Changed : goal.returns-in_err-cur-in-Changed
returns-in_err-cur-in-Changed t c =
    let found = turn-next c.loop-index.invariant.turn c.next_parent.ensures c.in-Some.is in
    let changed = climb-changed c.loop-index.invariant found c.rejudge.ensures (c.in_ok-next.was ∙ ap Ok c.in-Changed.is) in
    rw (passed-on c.from_residual-in_err-cur-in-Changed.ensures)
    (climb-nested-short c.loop-index.invariant found changed c.update_parents.ensures c.in_err-cur-in-Changed.was)

pub loop-index-smaller : goal.loop-index-smaller
loop-index-smaller t c =
    let found = turn-next c.loop-index.invariant.turn c.next_parent.ensures c.in-Some.is in
    let changed = climb-changed c.loop-index.invariant found c.rejudge.ensures (c.in_ok-next.was ∙ ap Ok c.in-Changed.is) in
    climb-nested-less c.loop-index.invariant found changed c.update_parents.ensures c.in_ok-cur-in-Changed.was

pub loop-index-preserved : goal.loop-index-preserved
loop-index-preserved t c =
    let found = turn-next c.loop-index.invariant.turn c.next_parent.ensures c.in-Some.is in
    let changed = climb-changed c.loop-index.invariant found c.rejudge.ensures (c.in_ok-next.was ∙ ap Ok c.in-Changed.is) in
    climb-nested c.loop-index.invariant found changed c.update_parents.ensures c.in_ok-cur-in-Changed.was

pub returns : goal.returns
returns t c = climb-end c.loop-index.invariant c.next_parent.ensures c.in_default.is
