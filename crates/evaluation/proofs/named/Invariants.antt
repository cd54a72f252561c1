-- `evaluation::named` meets its contract: the invariant is that all rows but those left have been asked.
use Rattle.std.proofs.Common.{◌^◌, ◌<◌}
use Rattle.problem.specs.Decoded.{table_of}
use Rattle.evaluation.specs.LiteralCases.{Asking}
use Rattle.evaluation.proofs.named.Given as goal

abbrev pub invariant-loop-i : goal.invariant-loop-i
invariant-loop-i l = (goal.iterator-loop-i).can_next l.i-iterator × (goal.iterator-loop-i).is_finite l.i-iterator
    × (l.i-iterator.rest < 2 ^ 64) × Asking (table_of l.problem) l.j l.names l.rows l.passed l.i-iterator.rest
