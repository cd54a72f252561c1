-- `catalogue::fill` meets its contract: the invariant is that the first `i` rows are written.
use lib.ListN.{length}
use Rattle.decoder.specs.Want.{with_wanted}
use Rattle.graph.specs.Graphs.{work}
use Rattle.engine.specs.Asking.{PiecesWritten}
use Rattle.catalogue.specs.FillCases.{table_up_to}
use Rattle.catalogue.proofs.fill.Given as goal

abbrev pub invariant-loop-i : goal.invariant-loop-i
invariant-loop-i l = PiecesWritten with_wanted (table_up_to l.initial.problem (work l.initial.nodes l.initial.edges l.initial.alternatives) l.positives
    l.negatives) (length l.positives)
    l.initial.problem (work l.initial.nodes l.initial.edges l.initial.alternatives) l.initial.table l.i l.problem (work l.nodes l.edges l.alternatives) l.table
