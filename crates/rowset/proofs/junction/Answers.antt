-- `rowset::junction` meets its contract, which is the code's test.
use Rattle.rowset.specs.Joined.{junction}
use Rattle.rowset.proofs.junction.Goals as goal

pub returns-then-both : goal.returns-then-both
unfolding junction
returns-then-both c n l r = rw c.if-both.true (cc (c.mem.ensures n l, c.mem-then-both.ensures n r))

pub returns : goal.returns
unfolding junction
returns c n l r = rw c.if-both.false (cc (c.mem-2.ensures n l, c.mem-3.ensures n r))
