-- `normalize::written_kind` meets its contract: each arm is a case of the definition.
-- Assumes nothing.
use Rattle.std.proofs.lemmas.Grind.{common_steps}
use Rattle.std.proofs.Common.{arith}
use borrow.Author.Tests.{ne_eqb}
use Rattle.normalize.specs.Shapes.{written_kind}
use Rattle.normalize.proofs.written_kind.Goals as goal

pub returns-then-kind-eq-IMPL : goal.returns-then-kind-eq-IMPL
unfolding written_kind
returns-then-kind-eq-IMPL c = rw (c.if-sign.true, c.if-kind-eq-IMPL.true)

pub returns-then-sign : goal.returns-then-sign
unfolding written_kind
returns-then-sign c = rw (c.if-sign.true, ne_eqb _ 9 c.if-kind-eq-IMPL.false)

pub returns-in-1 : goal.returns-in-1
unfolding written_kind
returns-in-1 c = rw (c.if-sign.false, c.in-1.is)

pub returns-in-2 : goal.returns-in-2
unfolding written_kind
returns-in-2 c = rw (c.if-sign.false, c.in-2.is)

pub returns-in-3 : goal.returns-in-3
unfolding written_kind
returns-in-3 c = rw (c.if-sign.false, c.in-3.is)

pub returns-in-4 : goal.returns-in-4
unfolding written_kind
returns-in-4 c = rw (c.if-sign.false, c.in-4.is)

pub returns-in-5 : goal.returns-in-5
unfolding written_kind
returns-in-5 c = rw (c.if-sign.false, c.in-5.is)

pub returns-in-6 : goal.returns-in-6
unfolding written_kind
returns-in-6 c = rw (c.if-sign.false, c.in-6.is)

pub returns-in_default : goal.returns-in_default
unfolding written_kind
returns-in_default c = grind (arith, common_steps)
