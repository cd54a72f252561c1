-- `steps::fold` meets its contract: what is left to fold from here gives what the whole gives from the start.
use Prim.Native.Nat.{◌-◌}
use Rattle.records.specs.Codes.{status_of}
use Rattle.steps.specs.Tables.{table_of}
use Rattle.steps.specs.TableLaws.{Folds}
use Rattle.steps.proofs.fold.Given as goal

abbrev pub invariant-loop-i : goal.invariant-loop-i
invariant-loop-i l = Folds (table_of l.table) l.nodes l.edges l.c l.x (status_of l.initial.v) l.from (status_of l.v)

abbrev pub decreases-loop-i : goal.decreases-loop-i
decreases-loop-i l = l.c.edges - l.from
