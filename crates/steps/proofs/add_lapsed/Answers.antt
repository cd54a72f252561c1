-- `steps::add_lapsed` meets its contract: the node, the alternative and the edge, each if the one before found its place.
use Rattle.std.proofs.Common.{arith}
use Rattle.rowset.specs.SetOf.{set_of}
use Rattle.graph.specs.RefineLaws.{passed-on}
use Rattle.steps.specs.StepLaws.{node-held, joined-held, lapsed-done, lapsed-full, lapsed-none}
use Rattle.steps.proofs.add_lapsed.Goals as goal

pub join-requires : goal.join-requires
join-requires c =
    let (held, more) = node-held _ c.add_node.ensures c.in_ok-d.was c.requires.2 in
    record { edges = _; held = held; node = omega (arith, c.requires.1, more) }

pub add_edge-requires : goal.add_edge-requires
add_edge-requires c =
    let (held, more) = node-held _ c.add_node.ensures c.in_ok-d.was c.requires.2 in
    let (after, kept) =
    joined-held c.args.from c.args.p c.args.role (set_of c.args.s.now 0) (set_of c.args.lacked.now 0)
    c.add_node.ensures c.requires.2 c.in_ok-d.was c.join.ensures c.in_ok-b.was in
    (omega (arith, c.requires.0, more, kept), omega (arith, more, kept), after.nodes)

pub returns : goal.returns
returns c =
    lapsed-done c.args.from c.args.p c.args.role (set_of c.args.s.now 0) (set_of c.args.lacked.now 0)
    c.add_node.ensures c.requires.2 c.in_ok-d.was c.join.ensures c.in_ok-b.was c.add_edge.ensures

pub returns-in_err-b : goal.returns-in_err-b
returns-in_err-b c =
    rw (passed-on c.from_residual-in_err-b.ensures) (lapsed-full c.args.from c.args.p c.args.role (set_of c.args.s.now 0) (set_of c.args.lacked.now 0)
    c.add_node.ensures c.requires.2 c.in_ok-d.was c.join.ensures c.in_err-b.was)

pub returns-in_err-d : goal.returns-in_err-d
returns-in_err-d c =
    rw (passed-on c.from_residual.ensures) (lapsed-none c.args.from c.args.p c.args.role (set_of c.args.s.now 0) (set_of c.args.lacked.now 0)
    c.add_node.ensures c.requires.2 c.in_err-d.was)
