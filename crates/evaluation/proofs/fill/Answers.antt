use mathlib.Core.Path.{refl}
use native.Mathlib.Omega.{arith}
use borrow.Author.Tests.{not-true, not-false}
use Rattle.evaluation.specs.ElementCases.{row_put-none, row_put-in, row_put-all, fill_none, fill-all}
use Rattle.evaluation.proofs.fill.Goals as goal

pub returns-then-not-all : goal.returns-then-not-all
returns-then-not-all c = fill_none (not-true _ c.if-not-all.true-raw)

pub loop-d-init : goal.loop-d-init
loop-d-init c = row_put-none

pub put_row-requires : goal.put_row-requires
put_row-requires c = (omega arith, c.requires.1)

pub loop-d-preserved : goal.loop-d-preserved
loop-d-preserved c = row_put-in c.loop-d.invariant (omega arith) c.requires.1 refl c.put_row.ensures

pub returns : goal.returns
returns c = fill-all (not-false _ c.if-not-all.false-raw) (row_put-all c.loop-d.invariant (omega arith))
