-- `walk::live_child` meets its contract: by whether a child that is yes was found.
use borrow.Author.Rules.{rules}
use Rattle.walk.specs.ChildCases.{live-found}
use Rattle.walk.proofs.live_child.Goals as goal

pub returns : goal.returns
returns c = live-found _ _ c.first.result _ (search rules) (λ y e. search rules) (λ e. search rules)
