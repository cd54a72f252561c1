use native.Mathlib.Omega.{arith}
use Rattle.encoder.specs.EncoderLaws.{first_words-none, stored-none, stored-word}
use Rattle.encoder.proofs.write_rows.Goals as goal

pub loop-i-init : goal.loop-i-init
loop-i-init c = stored-none (first_words-none c.args.written.now)

pub loop-i-preserved : goal.loop-i-preserved
loop-i-preserved c = stored-word c.args.written.now c.loop-i.invariant (omega arith) (cc)
