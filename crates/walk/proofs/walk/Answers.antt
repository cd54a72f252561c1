use mathlib.Core.Path.{◌∙◌}
use mathlib.Core.List.{[]}
use native.Mathlib.Omega.{arith}
use borrow.Author.Rules.{rules}
use Rattle.walk.specs.WalkCases.{walk-asks, start-asks, element-start, element-end, started-gives}
use Rattle.walk.specs.WalkCases.{element-there, element-few, element-asks, element-less, element-walked}
use Rattle.walk.proofs.walk.Goals as goal

pub descend-first-requires : goal.descend-first-requires
descend-first-requires c = search (walk-asks, rules)

pub start-s-requires : goal.start-s-requires
start-s-requires c = start-asks c.requires c.descend-first.ensures

pub loop-d-init : goal.loop-d-init
loop-d-init c = element-start c.requires c.descend-first.ensures c.start-s.ensures

pub overflow_cast-d : goal.overflow_cast-d
overflow_cast-d c = omega (arith, element-few (element-there c.loop-d.invariant c.loop-d-test.true))

pub walk_rows-s-requires : goal.walk_rows-s-requires
walk_rows-s-requires c = element-asks (element-there c.loop-d.invariant c.loop-d-test.true)

pub overflow_add-d : goal.overflow_add-d
overflow_add-d c = omega (arith, element-few (element-there c.loop-d.invariant c.loop-d-test.true))

pub loop-d-smaller : goal.loop-d-smaller
loop-d-smaller c = element-less (element-there c.loop-d.invariant c.loop-d-test.true)

pub loop-d-preserved : goal.loop-d-preserved
loop-d-preserved c = element-walked (element-there c.loop-d.invariant c.loop-d-test.true) c.walk_rows-s.ensures

pub shape_of-nodes : goal.shape_of-nodes
shape_of-nodes c = c.loop-d.invariant.kept.nodes.long ∙ (c.start-s.ensures.kept []).nodes.long

pub returns : goal.returns
returns c = started-gives c.requires c.descend-first.ensures c.start-s.ensures (element-end c.loop-d.invariant c.loop-d-test.false)
