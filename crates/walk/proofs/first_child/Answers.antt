use native.Mathlib.Omega.{arith}
use borrow.Author.Rules.{rules}
use Rattle.walk.specs.ChildCases.{looking-start, looking-walks, looking-nodes, looking-next, looking-end}
use Rattle.walk.specs.ChildCases.{looking-index, looking-less, looking-found, looking-over}
use Rattle.walk.proofs.first_child.Goals as goal

pub loop-index-init : goal.loop-index-init
loop-index-init c = search (looking-start, rules)

pub next_child-requires : goal.next_child-requires
next_child-requires c = search (looking-walks, rules)

pub overflow_add-from : goal.overflow_add-from
overflow_add-from c = omega (arith, looking-index (looking-next c.loop-index.invariant c.in-Some.ensures))

pub status_at-requires : goal.status_at-requires
status_at-requires c = search (looking-nodes, rules)

pub returns-then-is_asked : goal.returns-then-is_asked
returns-then-is_asked c =
    looking-found (looking-next c.loop-index.invariant c.in-Some.ensures) c.status_at.ensures c.is_asked.ensures c.if-is_asked.true

pub loop-index-smaller : goal.loop-index-smaller
loop-index-smaller c = looking-less (looking-next c.loop-index.invariant c.in-Some.ensures)

pub loop-index-preserved : goal.loop-index-preserved
loop-index-preserved c =
    looking-over (looking-next c.loop-index.invariant c.in-Some.ensures) c.status_at.ensures c.is_asked.ensures c.if-is_asked.false

pub returns : goal.returns
returns c = looking-end c.loop-index.invariant (rw c.in_default.is at c.next_child.ensures)
