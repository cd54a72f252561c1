use Rattle.std.proofs.Common.{refl, arith}
use Rattle.encoder.specs.EncoderLaws.{stored-none, stored-size, stored-byte, stored-copy}
use Rattle.encoder.proofs.copy.Goals as goal

pub loop-i-init : goal.loop-i-init
loop-i-init c = stored-none refl

pub bounds-area-at : goal.bounds-area-at
bounds-area-at c = omega (arith, stored-size c.loop-i.invariant)

pub loop-i-preserved : goal.loop-i-preserved
loop-i-preserved c = stored-byte _ c.loop-i.invariant (omega arith) (cc)

pub shape_of-area : goal.shape_of-area
shape_of-area c = stored-size c.loop-i.invariant

pub returns : goal.returns
returns c = stored-copy _ c.loop-i.invariant (omega arith)
