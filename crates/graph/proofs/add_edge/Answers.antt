-- `graph::add_edge` meets its contract: by the room that is left.
use Rattle.std.proofs.Common.{rules, Err, ◌≡◌}
use Rattle.graph.specs.declared.Area.TheVariants.{Edges}
use Rattle.graph.specs.AddLaws.{add-edge-done, add-edge-full}
use Rattle.graph.proofs.add_edge.Goals as goal

pub returns : goal.returns
returns c =
    let at = c.in_ok-i.ensures in
    add-edge-done _ c.args.from c.args.to c.requires.0 c.requires.1 (rw at.0 at c.store_edge.ensures) (rw at.0 at c.append.ensures)
    (rw at.0 at c.append-2.ensures) at.1

pub returns-in_err-i : goal.returns-in_err-i
returns-in_err-i c =
    let r : c.from_residual.result ≡ Err Edges = search rules in
    rw r (add-edge-full _ c.args.from c.args.to c.in_err-i.ensures.1)
