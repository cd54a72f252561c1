-- `steps::join` meets its contract: by the status of the state above.
use Rattle.rowset.specs.SetOf.{set_of}
use mathlib.Core.Path.{sym, ◌∙◌}
use Rattle.graph.specs.GraphLaws.{held-node}
use Rattle.steps.specs.StepLaws.{join-done, join-not}
use Rattle.steps.proofs.join.Goals as goal

pub status_of-status-requires : goal.status_of-status-requires
status_of-status-requires c = held-node c.requires.held c.requires.node

pub returns-then-is_live : goal.returns-then-is_live
returns-then-is_live c =
    join-done c.args.c c.args.p (set_of c.args.lacked.now 0) c.status_of-status.result c.status_of-status.ensures
    c.requires.node (sym c.is_live.ensures ∙ c.if-is_live.true) c.add_alternative.ensures

pub returns-else-is_live : goal.returns-else-is_live
returns-else-is_live c =
    join-not c.args.c c.args.p (set_of c.args.lacked.now 0) c.status_of-status.result c.status_of-status.ensures
    c.requires.node (sym c.is_live.ensures ∙ c.if-is_live.false)
