-- The children of a state. Assumes nothing.
use borrow.Author.Rules.{rules}
use Rattle.expansion.specs.ChildCases.{root-asks, root-gives, other-gives}
use Rattle.expansion.proofs.expand_state.Goals as goal

pub put_kit-requires : goal.put_kit-requires
put_kit-requires c = search (root-asks, rules)

pub returns-then-x-eq0 : goal.returns-then-x-eq0
returns-then-x-eq0 c = search (root-gives, rules)

pub returns : goal.returns
returns c = search (other-gives, rules)
