use Rattle.std.proofs.Common.{arith}
use Rattle.graph.specs.SearchLaws.{sought-start, sought-end, sought-at}
use Rattle.graph.proofs.has_alternative.Goals as goal

pub loop-i-init : goal.loop-i-init
loop-i-init c = sought-start _ _ _ _ _

pub alternative_set-requires : goal.alternative_set-requires
alternative_set-requires c = (sought-at c.requires c.loop-i.invariant c.in-Some.ensures).inside.0

pub same-requires : goal.same-requires
same-requires c = omega (arith, (sought-at c.requires c.loop-i.invariant c.in-Some.ensures).inside.1, c.alternative_set.ensures)

pub returns-then-same : goal.returns-then-same
returns-then-same c = (sought-at c.requires c.loop-i.invariant c.in-Some.ensures).here c.alternative_set.ensures c.same.ensures c.if-same.true

pub loop-i-smaller : goal.loop-i-smaller
loop-i-smaller c = let at = sought-at c.requires c.loop-i.invariant c.in-Some.ensures in omega (arith, at.from, at.below)

pub loop-i-preserved : goal.loop-i-preserved
loop-i-preserved c = (sought-at c.requires c.loop-i.invariant c.in-Some.ensures).more c.alternative_set.ensures c.same.ensures c.if-same.false

pub returns : goal.returns
returns c = sought-end c.requires c.loop-i.invariant (rw c.in_default.is at c.next_alternative.ensures)
