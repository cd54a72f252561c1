use Rattle.std.proofs.Common.{arith}
use Rattle.normalize.specs.PutCases.{gives_as}
use Rattle.normalize.specs.ListCases.{course-asks, course-more, course-full, course-end}
use Rattle.normalize.proofs.Written.put_list.Goals as goal

pub put-requires : goal.put-requires
put-requires c = course-asks c.requires c.loop-i.invariant c.loop-i-test.true

pub returns-in-Err : goal.returns-in-Err
returns-in-Err c = course-full c.requires c.loop-i.invariant c.loop-i-test.true (gives_as c.put.ensures c.in-Err.is) (omega arith)

pub loop-i-preserved : goal.loop-i-preserved
loop-i-preserved c = course-more c.requires c.loop-i.invariant c.loop-i-test.true (gives_as c.put.ensures c.in-Ok.is)

pub returns : goal.returns
returns c = course-end c.requires c.loop-i.invariant c.loop-i-test.false
