-- `steps::link_special` meets its contract: the node, then its link, if the node found its place.
use Rattle.std.proofs.Common.{arith}
use Rattle.rowset.specs.SetOf.{set_of}
use Rattle.graph.specs.RefineLaws.{passed-on}
use Rattle.steps.specs.StepLaws.{node-held, special-done, special-full}
use Rattle.steps.proofs.link_special.Goals as goal

pub link_found-requires : goal.link_found-requires
link_found-requires c =
    let (held, more) = node-held _ c.add_node.ensures c.in_ok-d.was c.requires.held in
    (omega (arith, more), record { alternatives = c.requires.alternatives; held = held })

pub returns : goal.returns
returns c = special-done c.args.p c.args.role (set_of c.args.s.now 0) c.add_node.ensures c.in_ok-d.was c.link_found.ensures

pub returns-in_err-d : goal.returns-in_err-d
returns-in_err-d c =
    rw (passed-on c.from_residual.ensures) (special-full c.args.p c.args.role (set_of c.args.s.now 0) c.add_node.ensures c.in_err-d.was)
