-- `problem::has_inclusion` meets its contract, by that of the call.
use mathlib.Core.Path.{ap}
use mathlib.Core.Bool.{not}
use native.Mathlib.Omega.{arith}
use Rattle.problem.proofs.has_inclusion.Goals as goal

pub is_empty_mask-requires : goal.is_empty_mask-requires
is_empty_mask-requires c = omega (arith, c.requires.rows.enough)

pub returns : goal.returns
returns c = ap not c.is_empty_mask.ensures
