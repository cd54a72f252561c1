-- `encoder::copy` meets its contract: the invariant is that the first `i` bytes are stored.
-- Assumes nothing.
use lib.ListN.{length, take}
use Rattle.encoder.specs.Encoder.{Stored}
use Rattle.encoder.proofs.copy.Given as goal

abbrev pub invariant-loop-i : goal.invariant-loop-i
invariant-loop-i l = Stored (λ k. take k l.bytes) (length l.bytes) l.initial.area l.at l.area l.i
