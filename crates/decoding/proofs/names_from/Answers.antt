-- `decoding::names_from` meets its contract: the rows that are named are tested one by one.
use Rattle.std.proofs.Common.{sym}
use Rattle.concepts.specs.Tests.{or_nothing}
use Rattle.concepts.specs.Lists.{any}
use Rattle.decoding.proofs.names_from.Goals as goal

pub returns-in_default : goal.returns-in_default
unfolding any
returns-in_default c = rw c.in_default.is

pub returns-in-Nullary : goal.returns-in-Nullary
unfolding any
returns-in-Nullary c = rw (c.in-Some.is, c.in-Nullary.is)

pub returns-in-Unary : goal.returns-in-Unary
unfolding any
returns-in-Unary c = rw (c.in-Some.is, c.in-Unary.is) (sym (or_nothing _))

pub returns-in-Binary : goal.returns-in-Binary
unfolding any
returns-in-Binary c = rw (c.in-Some.is, c.in-Binary.is, or_nothing)
