-- `problem::universal` meets its contract: no row reaches along a role from 32 on.
use native.Mathlib.Omega.{arith}
use Rattle.problem.specs.DecodedLaws.{no-universals, none-of-zero}
use borrow.Author.Rules.{rules}
use Rattle.problem.proofs.universal.Goals as goal

pub returns-then-role-lt-ROLES : goal.returns-then-role-lt-ROLES
returns-then-role-lt-ROLES c = record { inside = omega (arith, c.requires.rows.enough); picked = c.requires.universals c.args.role (search rules) }

pub returns : goal.returns
returns c = record { inside = omega (arith, c.requires.rows.enough); picked = no-universals c.requires.rows (search rules) (none-of-zero c.requires.rows) }
