-- `steps::add_child` meets its contract: the node, then the edge to it, if the node found its place.
use Rattle.std.proofs.Common.{arith}
use Rattle.graph.specs.RefineLaws.{passed-on}
use Rattle.steps.specs.StepLaws.{node-held, child-done, child-full}
use Rattle.steps.proofs.add_child.Goals as goal

pub add_edge-requires : goal.add_edge-requires
add_edge-requires c =
    let (held, more) = node-held _ c.add_node.ensures c.in_ok-d.was c.requires.1.held in
    (omega (arith, c.requires.0, more), omega (arith, more), held.nodes)

pub returns : goal.returns
returns c = child-done c.args.from _ c.add_node.ensures c.in_ok-d.was c.add_edge.ensures

pub returns-in_err-d : goal.returns-in_err-d
returns-in_err-d c =
    rw (passed-on c.from_residual.ensures) (child-full c.args.from _ c.add_node.ensures c.in_err-d.was)
