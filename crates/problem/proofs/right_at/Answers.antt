-- `problem::right_at` meets its contract: that byte of the row's word.
use Rattle.std.proofs.Common.{sym, ap, ◌∙◌, get_or, ℕ, List, arith}
use Rattle.problem.specs.DecodedLaws.{word-parts, right_lt}
use Rattle.problem.proofs.right_at.Goals as goal

pub returns : goal.returns
returns c =
    let (ok, h) = c.requires in
    let byte = ap (λ (bytes : List ℕ). get_or bytes 3 0) c.to_le_bytes.ensures in
    (byte ∙ sym (word-parts ok.rows c.args.k h).right_is, omega (arith, byte, right_lt ok.rows c.args.k h))
