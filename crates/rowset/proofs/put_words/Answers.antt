use Rattle.std.proofs.Common.{arith}
use Rattle.rowset.specs.WriteLaws.{making-begins, making-again, making-ends}
use Rattle.rowset.proofs.put_words.Goals as goal

pub loop-j-init : goal.loop-j-init
loop-j-init g c = making-begins

pub loop-j-preserved : goal.loop-j-preserved
loop-j-preserved g c = making-again c.loop-j.invariant (omega arith) (omega arith) c.word.ensures c.f-w.ensures c.put_word.ensures

pub returns : goal.returns
returns g c = making-ends c.loop-j.invariant c.loop-j-test.false
