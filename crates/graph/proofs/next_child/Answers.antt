-- `graph::next_child` meets its contract: the chain has what a search would find.
use Rattle.std.proofs.Common.{ap, refl}
use Rattle.procedure.specs.Graph.{Edge}
use Rattle.graph.specs.SearchLaws.{child-next, child-end}
use Rattle.graph.proofs.next_child.Goals as goal

pub returns : goal.returns
returns c = λ a d h g o. child-next h g c.requires o c.in_ok-index.ensures.0 _ (ap (λ (v : Edge). v.to) c.load_edge.ensures) c.in_ok-index.ensures.1

pub returns-in_err-index : goal.returns-in_err-index
returns-in_err-index c = λ a d h g o. rw c.from_residual.ensures (child-end h g c.requires o refl c.in_err-index.ensures)
