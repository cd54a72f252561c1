use native.Mathlib.Omega.{arith}
use borrow.Author.Rules.{rules}
use Rattle.walk.specs.ChildCases.{going_start, going-fits, going-asks, going-lands, going-some, going_on, going_less}
use Rattle.walk.proofs.descend.Goals as goal

pub loop-y-init : goal.loop-y-init
loop-y-init c = search (going_start, rules)

pub overflow_cast-x : goal.overflow_cast-x
overflow_cast-x c = omega (arith, (going-fits c.loop-y.invariant).0)

pub link_of-requires : goal.link_of-requires
link_of-requires c = search (going-fits, rules)

pub live_child-requires : goal.live_child-requires
live_child-requires c = search (going-asks, rules)

pub returns-in-State : goal.returns-in-State
returns-in-State c = going-lands c.loop-y.invariant c.in-State.ensures

pub unwrap-x-requires : goal.unwrap-x-requires
unwrap-x-requires c = going-some c.loop-y.invariant c.link_of.ensures c.in_default.not-State c.live_child.ensures

pub loop-y-smaller : goal.loop-y-smaller
loop-y-smaller c = going_less c.loop-y.invariant c.link_of.ensures c.in_default.not-State (rw c.unwrap-x.ensures at c.live_child.ensures)

pub loop-y-preserved : goal.loop-y-preserved
loop-y-preserved c = going_on c.loop-y.invariant c.link_of.ensures c.in_default.not-State (rw c.unwrap-x.ensures at c.live_child.ensures)
