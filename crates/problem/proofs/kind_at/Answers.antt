-- `problem::kind_at` meets its contract: that byte of the row's word.
use Rattle.std.proofs.Common.{ap, get_or, ℕ, List, arith}
use Rattle.problem.specs.DecodedLaws.{word-parts}
use Rattle.problem.proofs.kind_at.Goals as goal

pub returns : goal.returns
returns c =
    let (ok, h) = c.requires in
    let byte = ap (λ (bytes : List ℕ). get_or bytes 0 0) c.to_le_bytes.ensures in
    omega (arith, byte, (word-parts ok.rows c.args.k h).kind-is)
