-- `encoder::write_rows` meets its contract: the invariant is that the bytes of the first `i` words are stored.
-- Assumes nothing.
use lib.ListN.{length}
use Rattle.encoder.specs.Encoder.{Stored}
use Rattle.encoder.specs.EncoderLaws.{first_words}
use Rattle.encoder.proofs.write_rows.Given as goal

abbrev pub invariant-loop-i : goal.invariant-loop-i
invariant-loop-i l = Stored (first_words l.written) (length l.written) l.initial.area l.at l.area l.i
