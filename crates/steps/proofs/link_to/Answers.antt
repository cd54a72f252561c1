-- `steps::link_to` meets its contract: the link, then the edge.
-- Assumes nothing.
use Rattle.steps.specs.StepLaws.{link-done}
use Rattle.steps.proofs.link_to.Goals as goal

pub returns : goal.returns
returns c = link-done c.args.z c.args.y c.set_link.ensures c.add_edge.ensures
