-- `graph::set_status` meets its contract: the node keeps all but its status.
-- Assumes nothing.
use Rattle.procedure.specs.Graph.{with_status}
use Rattle.records.specs.Codes.{status_of}
use Rattle.graph.specs.GraphLaws.{graph-change}
use Rattle.graph.proofs.set_status.Goals as goal

pub returns : goal.returns
returns c = graph-change (with_status (status_of c.args.status)) c.store_status.ensures c.args.c c.requires.0
