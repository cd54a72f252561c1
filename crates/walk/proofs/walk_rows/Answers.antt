use native.Mathlib.Omega.{arith}
use borrow.Author.Rules.{rules}
use Rattle.walk.specs.RowCases.{row-element, row-start, row_inside, row-none, row_next, row_count_lem, row-walks, row-childless}
use Rattle.walk.specs.RowCases.{row-turn, row-index, row-less, row-asks, row-meets, row-met}
use Rattle.walk.proofs.walk_rows.Goals as goal

pub load_state-x-requires : goal.load_state-x-requires
load_state-x-requires c = search (row-element, rules)

pub loop-exist-init : goal.loop-exist-init
loop-exist-init c = row-start c.requires c.load_state-x.ensures

pub next_exist-requires : goal.next_exist-requires
next_exist-requires c = (c.requires.decoded, row_inside c.loop-exist.invariant c.node_set-set.ensures)

pub next_child-requires : goal.next_child-requires
next_child-requires c = search (row-walks, rules)

pub returns-in_default-next_child : goal.returns-in_default-next_child
returns-in_default-next_child c =
    row-childless (row_next c.loop-exist.invariant c.node_set-set.ensures c.in-Some.ensures) (rw c.in_default-next_child.is at c.next_child.ensures)

pub overflow_add-next_row : goal.overflow_add-next_row
overflow_add-next_row c = omega (arith, row_count_lem (row_next c.loop-exist.invariant c.node_set-set.ensures c.in-Some.ensures))

pub overflow_add-from : goal.overflow_add-from
overflow_add-from c = omega (arith, row-index (row-turn c.loop-exist.invariant _ c.node_set-set.ensures c.in-Some.ensures c.in-Some-next_child.ensures))

pub descend-y-requires : goal.descend-y-requires
descend-y-requires c = row-asks (row-turn c.loop-exist.invariant _ c.node_set-set.ensures c.in-Some.ensures c.in-Some-next_child.ensures)

pub meet-sizes-requires : goal.meet-sizes-requires
meet-sizes-requires c = row-meets (row-turn c.loop-exist.invariant _ c.node_set-set.ensures c.in-Some.ensures c.in-Some-next_child.ensures) c.descend-y.ensures

pub loop-exist-smaller : goal.loop-exist-smaller
loop-exist-smaller c = row-less (row-turn c.loop-exist.invariant _ c.node_set-set.ensures c.in-Some.ensures c.in-Some-next_child.ensures)

pub loop-exist-preserved : goal.loop-exist-preserved
loop-exist-preserved c =
    row-met (row-turn c.loop-exist.invariant _ c.node_set-set.ensures c.in-Some.ensures c.in-Some-next_child.ensures) c.descend-y.ensures c.meet-sizes.ensures

pub returns : goal.returns
returns c = row-none c.loop-exist.invariant c.node_set-set.ensures (rw c.in_default.is at c.next_exist.ensures)
