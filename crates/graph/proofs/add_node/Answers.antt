-- `graph::add_node` meets its contract: by the room that is left.
use Rattle.std.proofs.Common.{rules, Err, ◌≡◌}
use Rattle.rowset.specs.SetOf.{set_of}
use Rattle.records.specs.Records.{node_of}
use Rattle.graph.specs.declared.Area.TheVariants.{Nodes}
use Rattle.graph.specs.AddLaws.{add-node-done, add-node-full}
use Rattle.graph.proofs.add_node.Goals as goal

pub returns : goal.returns
returns c =
    let at = c.in_ok-x.ensures in
    add-node-done _ _ (rw at.0 at c.store_node.ensures) (rw at.0 at c.begin.ensures) (rw at.0 at c.begin-2.ensures) (rw at.0 at c.begin-3.ensures) at.1

pub returns-in_err-x : goal.returns-in_err-x
returns-in_err-x c =
    let r : c.from_residual.result ≡ Err Nodes = search rules in
    rw r (add-node-full _ (node_of (set_of c.args.s.now 0) c.args.n) c.in_err-x.ensures.1)
