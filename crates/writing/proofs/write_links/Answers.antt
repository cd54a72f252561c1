use native.Mathlib.Omega.{arith}
use Rattle.writing.specs.WritingLaws.{written_none, written_all, link-written}
use Rattle.writing.proofs.write_links.Goals as goal

pub loop-k-init : goal.loop-k-init
loop-k-init c = written_none _

pub write_link-requires : goal.write_link-requires
write_link-requires c = ((omega arith, omega arith), omega arith)

pub loop-k-preserved : goal.loop-k-preserved
loop-k-preserved c = link-written _ c.loop-k.invariant (omega arith) c.requires.room (cc)

pub returns : goal.returns
returns c = written_all c.loop-k.invariant (omega arith)
