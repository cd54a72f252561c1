-- `decoder::put_rows` meets its contract: the invariant is that the words hold the rows so far.
use mathlib.Core.Path.{◌≡◌}
use Prim.Native.Nat.{◌≤◌}
use lib.ListN.{length}
use Rattle.problem.specs.Rows.{row_count}
use Rattle.rowset.specs.NextLaws.{Words}
use Rattle.decoder.specs.Writing.{Partly}
use Rattle.decoder.proofs.put_rows.Given as goal

abbrev pub invariant-loop-k : goal.invariant-loop-k
invariant-loop-k l = (length l.out ≡ length l.initial.out) × (l.k ≤ row_count l.rows) × Words l.out × Partly l.rows l.k l.out
