-- `problem::role_at` meets its contract: that byte of the row's word.
use Rattle.std.proofs.Common.{sym, ap, ◌∙◌, get_or, ℕ, List}
use Rattle.problem.specs.DecodedLaws.{word-parts}
use Rattle.problem.proofs.role_at.Goals as goal

pub returns : goal.returns
returns c =
    let (ok, h) = c.requires in
    let byte = ap (λ (bytes : List ℕ). get_or bytes 1 0) c.to_le_bytes.ensures in
    byte ∙ sym (word-parts ok.rows c.args.k h).role-is
