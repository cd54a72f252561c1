-- Whether a node has a parent from an edge on: by the search for the next. (`rules` let it be written in more words that say the same, so that
-- an edit of it is refused for what it says.)
use Rattle.std.proofs.Common.{rules}
use Rattle.updates.specs.ParentCases.{tells-none}
use Rattle.updates.proofs.no_parent.Goals as goal

pub returns : goal.returns
returns c = tells-none c.args.x c.args.from c.next_parent.result _ c.next_parent.ensures (search (c.is_none.ensures, rules))
