use Rattle.std.proofs.Common.{arith}
use Rattle.steps.specs.TableLaws.{folds-start, next-end, folds-end, folds-at}
use Rattle.steps.proofs.fold.Goals as goal

pub loop-i-init : goal.loop-i-init
loop-i-init c = folds-start c.requires _ _

pub status_of-requires : goal.status_of-requires
status_of-requires c = (folds-at c.requires c.loop-i.invariant c.in-Some.ensures).node

pub overflow_add-from : goal.overflow_add-from
overflow_add-from c = let at = folds-at c.requires c.loop-i.invariant c.in-Some.ensures in omega (arith, at.below, at.few)

pub loop-i-smaller : goal.loop-i-smaller
loop-i-smaller c = let at = folds-at c.requires c.loop-i.invariant c.in-Some.ensures in omega (arith, at.from, at.below)

pub loop-i-preserved : goal.loop-i-preserved
loop-i-preserved c = (folds-at c.requires c.loop-i.invariant c.in-Some.ensures).more c.status_of.ensures c.entry-v.ensures

pub returns : goal.returns
returns c = folds-end c.loop-i.invariant (next-end c.requires _ c.loop-i.invariant.among c.next_child.ensures c.in_default.is)
