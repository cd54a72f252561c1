-- `catalogue::fill_row` meets its contract: the invariant is that the first `j` entries are written.
use lib.ListN.{length}
use Rattle.decoder.specs.Want.{with_wanted}
use Rattle.graph.specs.Graphs.{work}
use Rattle.engine.specs.Asking.{PiecesWritten}
use Rattle.catalogue.specs.FillCases.{row_up_to}
use Rattle.catalogue.proofs.fill_row.Given as goal

abbrev pub invariant-loop-j : goal.invariant-loop-j
invariant-loop-j l = PiecesWritten with_wanted (row_up_to l.initial.problem (work l.initial.nodes l.initial.edges l.initial.alternatives) l.positive
    l.negatives) (length l.negatives)
    l.initial.problem (work l.initial.nodes l.initial.edges l.initial.alternatives) l.initial.row l.j l.problem (work l.nodes l.edges l.alternatives) l.row
