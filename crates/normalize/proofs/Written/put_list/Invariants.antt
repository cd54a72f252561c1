-- `Written::put_list` meets its contract: the rest of the list comes to what the whole does.
-- Assumes nothing.
use Rattle.normalize.specs.ListCases.{Course}
use Rattle.normalize.proofs.Written.put_list.Given as goal

abbrev pub invariant-loop-i : goal.invariant-loop-i
invariant-loop-i l = Course l.draft l.list l.initial.self l.initial.places l.self l.places l.i
