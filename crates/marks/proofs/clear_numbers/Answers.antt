use native.Mathlib.Omega.{arith}
use Rattle.marks.specs.MarkLaws.{cleared-none, cleared-fits, cleared_more, cleared-all}
use Rattle.marks.proofs.clear_numbers.Goals as goal

pub loop-y-init : goal.loop-y-init
loop-y-init c = cleared-none

pub store_number-requires : goal.store_number-requires
store_number-requires c = cleared-fits c.loop-y.invariant c.requires (omega arith)

pub loop-y-preserved : goal.loop-y-preserved
loop-y-preserved c = cleared_more c.loop-y.invariant c.store_number.ensures

pub shape_of-nodes : goal.shape_of-nodes
shape_of-nodes c = c.loop-y.invariant.beside.long

pub returns : goal.returns
returns c = cleared-all c.loop-y.invariant (omega arith) (omega arith)
