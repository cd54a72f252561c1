-- `records::put_set` meets its contract: it copies the words of the set, whose bytes are below 256.
use borrow.Author.Rules.{rules}
use Rattle.words.specs.Sizes.{set_size}
use Rattle.rowset.specs.ByteLaws.{le_at-lt}
use Rattle.records.proofs.put_set.Goals as goal

pub returns : goal.returns
returns c = (c.copy.ensures.0, le_at-lt c.args.s.now (search rules) 0 set_size)
