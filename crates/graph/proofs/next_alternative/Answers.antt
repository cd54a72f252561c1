-- `graph::next_alternative` meets its contract: the chain has what a search would find.
use Rattle.graph.specs.SearchLaws.{alternative-step}
use Rattle.graph.proofs.next_alternative.Goals as goal

pub returns : goal.returns
returns c = λ e d h g o. alternative-step h g c.requires o c.next.result c.next.ensures
