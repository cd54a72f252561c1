-- `rowset::next_row` meets its contract: the invariant is that the words passed have no row from the row on.
use Rattle.std.specs.Prelude.{◌≡◌, ℕ, false, ◌*◌, ◌≤◌, ◌<◌}
use Rattle.concepts.specs.RowSet.{mem}
use Rattle.rowset.specs.Joined.{joined}
use Rattle.rowset.specs.NextLaws.{picked}
use Rattle.rowset.proofs.next_row.Given as goal

abbrev pub invariant-loop-j : goal.invariant-loop-j
invariant-loop-j l = (k : ℕ) → l.from ≤ k → k < 64 * l.j → mem k (joined 64 (picked l.b l.at l.ws l.mask) l.n) ≡ false
