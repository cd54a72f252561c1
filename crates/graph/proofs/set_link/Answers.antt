-- `graph::set_link` meets its contract: the node keeps all but its link.
-- Assumes nothing.
use Rattle.procedure.specs.Graph.{with_link}
use Rattle.records.specs.Codes.{link_of}
use Rattle.graph.specs.GraphLaws.{graph-change}
use Rattle.graph.proofs.set_link.Goals as goal

pub returns : goal.returns
returns c = graph-change (with_link (link_of c.args.link)) c.store_link.ensures c.args.c c.requires.0
