-- `catalogue::rows::Rows::push` meets its contract: the row takes the next place, and those behind it stay 0.
use Rattle.std.proofs.Common.{arith}
use Rattle.catalogue.specs.RowList.{zeroes_next}
use Rattle.catalogue.proofs.rows.Rows.push.Goals as goal

pub invariant_of-self : goal.invariant_of-self
invariant_of-self c = zeroes_next c.self.invariant (rw c.self.view_is c.requires) _ _ (omega arith)
