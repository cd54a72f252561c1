-- `decoder::byte_at` meets its contract, and a byte is below 256.
use Rattle.std.proofs.Common.{refl, arith}
use Rattle.decoder.proofs.byte_at.Goals as goal

pub returns : goal.returns
returns c = (refl, omega arith)
