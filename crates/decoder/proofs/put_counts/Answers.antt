-- `decoder::put_counts` meets its contract, by those of the calls.
use mathlib.Core.Path.{refl}
use Rattle.decoder.proofs.put_counts.Goals as goal

pub returns : goal.returns
returns c = (cc, refl)
