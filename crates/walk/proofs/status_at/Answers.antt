-- `walk::status_at` meets its contract: by whether there is such a node.
use borrow.Author.Rules.{rules}
use Rattle.walk.specs.ChildCases.{status-here, status-past}
use Rattle.walk.proofs.status_at.Goals as goal

pub returns-then-y-c : goal.returns-then-y-c
returns-then-y-c c = status-here c.status_of.result (search rules) (search rules)

pub returns-else-y-c : goal.returns-else-y-c
returns-else-y-c c = search (status-past, rules)
