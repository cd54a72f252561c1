use mathlib.Core.Path.{◌∙◌}
use native.Mathlib.Omega.{arith}
use Rattle.evaluation.specs.RowCases.{rowed-none, rowed-more, rowed-asks, rowed-all}
use Rattle.evaluation.proofs.evaluate.Goals as goal

pub begin-requires : goal.begin-requires
begin-requires c = (c.requires.decoded, c.requires.room)

pub row_count-k-end-requires : goal.row_count-k-end-requires
row_count-k-end-requires c = c.requires.decoded

pub loop-k-init : goal.loop-k-init
loop-k-init c = rowed-none

pub evaluate_row-requires : goal.evaluate_row-requires
evaluate_row-requires c = (rowed-asks c.requires c.begin.auto.elements c.loop-k.invariant, omega arith)

pub loop-k-preserved : goal.loop-k-preserved
loop-k-preserved c = rowed-more c.loop-k.invariant (omega arith) c.evaluate_row.auto.elements c.evaluate_row.ensures

pub shape_of-elements : goal.shape_of-elements
shape_of-elements c = c.loop-k.invariant.size ∙ c.begin.auto.elements

pub returns : goal.returns
returns c = rowed-all c.requires c.begin.ensures c.loop-k.invariant (omega arith)
