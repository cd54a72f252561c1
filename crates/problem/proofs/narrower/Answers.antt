-- `problem::narrower` meets its contract: where there is an inclusion the word is the set.
use native.Mathlib.Omega.{arith}
use Rattle.problem.proofs.narrower.Goals as goal

pub bounds-problem-role : goal.bounds-problem-role
bounds-problem-role c = omega (arith, c.requires.0.rows.enough, c.requires.2)

pub returns : goal.returns
returns c =
    let (ok, some-there, h) = c.requires in
    ok.narrows some-there c.args.role h
