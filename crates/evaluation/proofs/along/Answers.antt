use mathlib.Core.Path.{◌∙◌}
use native.Mathlib.Omega.{arith}
use Rattle.evaluation.specs.LinkCases.{followed-none, followed-asks, followed-more, followed-all}
use Rattle.evaluation.proofs.along.Goals as goal

pub fill-requires : goal.fill-requires
fill-requires g c = (c.requires.room, c.requires.row)

pub loop-i-init : goal.loop-i-init
loop-i-init g c = (omega arith, followed-none)

pub follow_link-requires : goal.follow_link-requires
follow_link-requires g c = followed-asks c.requires.linked c.loop-i.invariant.1 (omega arith) (omega (arith, c.requires.room, c.fill.auto.elements))
    c.requires.row c.requires.argument

pub loop-i-preserved : goal.loop-i-preserved
loop-i-preserved g c = (omega arith, followed-more c.requires.linked c.loop-i.invariant.1 (omega arith) c.follow_link.auto.elements c.follow_link.ensures)

pub shape_of-elements : goal.shape_of-elements
shape_of-elements g c = c.loop-i.invariant.1.size ∙ c.fill.auto.elements

pub returns : goal.returns
returns g c = followed-all c.fill.ensures c.loop-i.invariant.1 (omega arith)
