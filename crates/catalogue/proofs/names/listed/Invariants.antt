-- `catalogue::names::listed` meets its contract: the invariant is that the names below `name` are listed.
use Rattle.problem.specs.Decoded.{table_of}
use Rattle.catalogue.specs.Clauses.{names_below, Lists}
use Rattle.catalogue.proofs.names.listed.Given as goal

abbrev pub invariant-loop-name : goal.invariant-loop-name
invariant-loop-name l = Lists (table_of l.problem) (names_below (table_of l.problem) l.name) l.list
