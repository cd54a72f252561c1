-- `catalogue::names::places` meets its contract: the invariant is that the rows from row `k` on are put down.
use Rattle.problem.specs.Decoded.{table_of}
use Rattle.catalogue.specs.Clauses.{PlacesFrom}
use Rattle.catalogue.proofs.names.places.Given as goal

abbrev pub invariant-loop-k : goal.invariant-loop-k
invariant-loop-k l = PlacesFrom l.kind (table_of l.problem) l.k l.places
