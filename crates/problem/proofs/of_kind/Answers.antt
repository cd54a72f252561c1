-- `problem::of_kind` meets its contract: that mask is the set of the rows of that kind.
use native.Mathlib.Omega.{arith}
use Rattle.problem.proofs.of_kind.Goals as goal

pub returns : goal.returns
returns c =
    let (ok, h) = c.requires in
    record { inside = omega (arith, ok.rows.enough); picked = ok.rows.kinds c.args.kind h }
