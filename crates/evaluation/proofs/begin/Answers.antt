use native.Mathlib.Omega.{arith}
use Rattle.evaluation.specs.ElementCases.{begun-none, begun_more, begun_all}
use Rattle.evaluation.proofs.begin.Goals as goal

pub loop-d-init : goal.loop-d-init
loop-d-init c = begun-none

pub begin_at-requires : goal.begin_at-requires
begin_at-requires c = (c.requires.0, omega arith)

pub loop-d-preserved : goal.loop-d-preserved
loop-d-preserved c = begun_more c.requires.0 c.requires.1 c.loop-d.invariant (omega arith) c.begin_at.ensures

pub returns : goal.returns
returns c = begun_all c.loop-d.invariant (omega arith)
