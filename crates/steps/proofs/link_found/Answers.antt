-- `steps::link_found` meets its contract: by what the search found, and by the room for a new state.
use Rattle.std.proofs.Common.{arith}
use Rattle.rowset.specs.SetOf.{set_of}
use Rattle.graph.specs.RefineLaws.{passed-on}
use Rattle.steps.specs.StepLaws.{node-held, found_below, found-there, found-new, found-full}
use Rattle.steps.proofs.link_found.Goals as goal

pub link_to-requires : goal.link_to-requires
link_to-requires c =
    (c.requires.0, found_below c.args.z (set_of c.args.s.now 0) c.find_state.ensures c.in-Some.is c.requires.1.held, c.requires.1.held.nodes)

pub link_to-requires-2 : goal.link_to-requires-2
link_to-requires-2 c =
    let (held, more) = node-held _ c.add_node.ensures c.in_ok-d.was c.requires.1.held in
    (omega (arith, c.requires.0, more), omega (arith, more), held.nodes)

pub returns-in-Some : goal.returns-in-Some
returns-in-Some c = found-there c.args.z (set_of c.args.s.now 0) c.find_state.ensures c.in-Some.is c.link_to.ensures

pub returns : goal.returns
returns c = found-new c.args.z (set_of c.args.s.now 0) c.find_state.ensures c.in_default.is c.add_node.ensures c.in_ok-d.was c.link_to-2.ensures

pub returns-in_err-d : goal.returns-in_err-d
returns-in_err-d c =
    rw (passed-on c.from_residual.ensures)
    (found-full c.args.z (set_of c.args.s.now 0) c.find_state.ensures c.in_default.is c.add_node.ensures c.in_err-d.was)
